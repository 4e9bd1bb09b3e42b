use Rattle.std.proofs.Common.{◌≡◌, ◌++◌, map}
use Rattle.std.specs.Vec.Iter.{into_iter_items}
use Rattle.tptp_syntax.specs.Reading.{statement_of}
use Rattle.tptp_syntax.proofs.read.statements_of.Given as goal

abbrev pub invariant-loop-claim : goal.invariant-loop-claim
invariant-loop-claim l = l.statements ++ map (statement_of l.words) (into_iter_items l.claim-iterator) ≡ l.initial.statements ++ map (statement_of l.words) (into_iter_items l.initial.claim-iterator)
