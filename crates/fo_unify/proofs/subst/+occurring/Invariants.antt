use Rattle.std.proofs.Common.{◌≡◌, drop}
use Rattle.fo_terms.specs.Substitution.{occurs_in_any}
use Rattle.fo_unify.proofs.subst.+occurring.Given as goal

abbrev pub invariant-occurs_any-loop-t : goal.invariant-occurs_any-loop-t
invariant-occurs_any-loop-t l = occurs_in_any l.x (drop l.t-index l.ts) ≡ occurs_in_any l.x l.ts
