use Rattle.std.proofs.Common.{rules}
use Rattle.pair_marks.proofs.Bits.{not_apart}
use Rattle.pair_marks.proofs.words.share_word.Goals as goal

pub returns : goal.returns
returns c = λ h. (let apart = not_apart c.args.left c.args.right h in search (rules, apart))
