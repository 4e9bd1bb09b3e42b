-- The digits of a number.
use Rattle.std.proofs.Common.{ℕ, ◌+◌, ◌<◌, ◌^◌, ◌%◌, Bool, true, [], ◌∷◌, IsTrue, refl, sym, subst, decimal, arith}
use Rattle.std.specs.List.{list_all}
use Rattle.std.proofs.lemmas.Fmt.{decimal_by_steps}
use Rattle.std.proofs.lemmas.List.Folds.{list_all-append}
use Rattle.hol_terms.proofs.Both.{and_true}

module _ (t : ℕ → Bool) (digit : (b : ℕ) → b < 10 → IsTrue (t (48 + b))) where
  -- a test that digits pass
  pub digits_pass : (n : ℕ) → n < 2 ^ 64 → IsTrue (list_all t (decimal n))
  digits_pass =
      decimal_by_steps (λ m ds. IsTrue (list_all t ds)) (λ m l. and_true (t (48 + m)) true (digit m l) refl)
      (λ m ds l h. subst (λ b. IsTrue b) (sym (list_all-append t ds ((48 + m % 10) ∷ []))) (and_true (list_all t ds) (list_all t ((48 + m % 10) ∷ [])) h (and_true (t (48 + m % 10)) true (digit (m % 10) (omega arith)) refl)))
