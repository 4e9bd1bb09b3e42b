use Rattle.std.proofs.Common.{arith}
use Rattle.proof_words.proofs.Digits.{zero_alone, begins_zero}
use Rattle.proof_words.proofs.number.zero.Goals as goal

pub returns-then-word-eq1 : goal.returns-then-word-eq1
returns-then-word-eq1 c = (omega arith, zero_alone c.args.word.now c.requires.0 c.requires.1 c.if-word-eq1.true)

pub returns-else-word-eq1 : goal.returns-else-word-eq1
returns-else-word-eq1 c = begins_zero c.args.word.now c.requires.0 c.requires.1 c.if-word-eq1.false
