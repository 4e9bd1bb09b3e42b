-- Formulas closed by quantifiers, one after another.
use Rattle.std.proofs.Common.{◌≡◌, ℕ, ◌-◌, ◌<◌, zero, suc, ap, arith}
use Rattle.fo_terms.specs.declared.formula.FoFormula.{FoFormula}
use Rattle.fo_terms.specs.declared.formula.FoFormula.TheVariants as formula
use Rattle.tptp_syntax.specs.Grammar.{closed}

pub closed_step : (n : ℕ) (a : FoFormula) → 0 < n → closed n a ≡ closed (n - 1) (formula.Each (n - 1) a)
closed_step zero a some = absurd (omega arith)
closed_step (suc n) a some = let e : n ≡ suc n - 1 = omega arith in ap (λ k. closed k (formula.Each k a)) e

pub closed_none : (n : ℕ) (a : FoFormula) → n ≡ 0 → closed n a ≡ a
closed_none n a e = ap (λ k. closed k a) e
