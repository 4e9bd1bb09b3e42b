use Rattle.proof_reader.proofs.RulePieces as pieces
use Rattle.proof_reader.proofs.words.read_rule.Goals as goal

pub other_word-requires-clause-other : goal.other_word-requires-clause-other
other_word-requires-clause-other c = pieces.no_rule c.in-Some.name.now c.in-None-named.ensures
