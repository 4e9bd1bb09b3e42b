use Rattle.std.proofs.Common.{◌≡◌, drop}
use Rattle.fin_model.specs.Fitting.{are_values}
use Rattle.fin_model.proofs.fitting.are_values_of.Given as goal

abbrev pub invariant-loop-i : goal.invariant-loop-i
invariant-loop-i l = are_values l.model (drop l.i l.tys) (drop l.i l.values) ≡ are_values l.model l.tys l.values
