use Rattle.std.proofs.Common.{◌≡◌, ◌≤◌, ◌<◌, ℕ, [], get_or}
use Rattle.fo_terms.specs.declared.term.FoTerm.{FoTerm}
use Rattle.fo_terms.specs.declared.literal.Literal.{Literal}
use Rattle.fo_terms.specs.Substitution.{put_literal}
use Rattle.fo_infer.proofs.seeking.partners.Given as goal

abbrev pub invariant-loop-m : goal.invariant-loop-m
invariant-loop-m l = record {
  empty : l.binds ≡ [];
  within : l.n ≤ l.m-index;
  none : l.n ≡ 0 → (k : ℕ) → k < l.m-index → (m : Literal) (v : ℕ → FoTerm) → put_literal v l.l ≡ get_or l.d k m → ⊥;
}
