use Rattle.std.proofs.Common.{◌-◌, length}
use Rattle.theory_reader.specs.inner.Pieces.{ReadSoFar}
use Rattle.theory_reader.proofs.reader.statements.Given as goal

abbrev pub invariant-statements : goal.invariant-statements
invariant-statements l = ReadSoFar l.text l.at l.parts

abbrev pub decreases-statements : goal.decreases-statements
decreases-statements l = length l.text - l.at
