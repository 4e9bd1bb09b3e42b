use Rattle.std.proofs.Common.{map}
use Rattle.proof_words.specs.Sharing.{IsOneOf}
use Rattle.proof_reader.proofs.WordPieces as pieces
use Rattle.proof_reader.proofs.words.other_word.Goals as goal

pub overflow_sub-result : goal.overflow_sub-result
overflow_sub-result c = pieces.shared_within (IsOneOf (map (λ v. v.now) c.args.words.now)) c.args.text.now c.args.front.now _ c.requires.front c.shared_with.ensures

pub returns : goal.returns
returns c = pieces.other_word (IsOneOf (map (λ v. v.now) c.args.words.now)) c.args.text.now c.args.front.now _ c.requires.front c.shared_with.ensures
