use Rattle.std.proofs.Common.{◌≡◌, ℕ, false, IsTrue, drop}
use Rattle.fo_terms.specs.Substitution.{occurs_in_any}
use Rattle.fo_infer.specs.inner.Components.{occurs_literal}
use Rattle.fo_infer.proofs.components.+sharing.Given as goal

-- what lacks the variables of the rest of the terms lacks those of all
abbrev pub invariant-terms_share-loop-t : goal.invariant-terms_share-loop-t
invariant-terms_share-loop-t l = ((x : ℕ) → IsTrue (occurs_in_any x (drop l.t-index l.ts)) → occurs_literal x l.m ≡ false) → (x : ℕ) → IsTrue (occurs_in_any x l.ts) → occurs_literal x l.m ≡ false
