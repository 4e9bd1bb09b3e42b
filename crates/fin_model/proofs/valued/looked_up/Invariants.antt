use Rattle.std.proofs.Common.{◌≡◌, drop}
use Rattle.fin_model.specs.Given.{given}
use Rattle.fin_model.proofs.valued.looked_up.Given as goal

abbrev pub invariant-loop-e : goal.invariant-loop-e
invariant-loop-e l = given (drop l.e-index l.free) l.n l.ty ≡ given l.free l.n l.ty
