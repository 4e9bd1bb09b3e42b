use Rattle.std.proofs.Common.{drop}
use Rattle.fin_model.proofs.Telling.{SoFar}
use Rattle.fin_model.proofs.calls.are_true_facts.Given as goal

abbrev pub invariant-loop-n : goal.invariant-loop-n
invariant-loop-n l = SoFar l.env l.model l.all (drop l.n-index l.facts) l.facts
