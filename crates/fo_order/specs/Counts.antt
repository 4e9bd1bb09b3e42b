-- How often variables stand in terms.
use Rattle.std.specs.Prelude.{ℕ, Bool, ◌==◌, ◌≤◌, nat_le, if◌then◌else◌, List, map, sum}
use Rattle.std.specs.List.{list_all}
use Rattle.fo_terms.specs.declared.term.FoTerm.{FoTerm}
use Rattle.fo_terms.specs.declared.term.FoTerm.TheOpen.{FoTerm-F}
use Rattle.fo_terms.specs.declared.term.FoTerm.TheFolds.{fold-FoTerm}
use Rattle.fo_terms.specs.Weight.{capped}

abbrev pub count_step : ℕ → FoTerm-F ℕ → ℕ
count_step x (FoTerm-F.Var y) = if x == y then 1 else 0
count_step x (FoTerm-F.Fun f args) = sum args

-- how often the variable occurs in the term
abbrev pub count_of : ℕ → FoTerm → ℕ
count_of x = fold-FoTerm ℕ (count_step x)

abbrev pub count_of_all : ℕ → List FoTerm → ℕ
count_of_all x ts = sum (map (count_of x) ts)

-- each variable occurs in s at least as often as in t
abbrev pub Covers : FoTerm → FoTerm → Type 0
Covers s t = (x : ℕ) → capped (count_of x t) ≤ capped (count_of x s)

abbrev pub covered_step : FoTerm → FoTerm → FoTerm-F Bool → Bool
covered_step s t (FoTerm-F.Var x) = nat_le (capped (count_of x t)) (capped (count_of x s))
covered_step s t (FoTerm-F.Fun f args) = list_all (λ b. b) args

-- at each variable of the third term, that it occurs in s at least as often as in t
abbrev pub covered_at : FoTerm → FoTerm → FoTerm → Bool
covered_at s t = fold-FoTerm Bool (covered_step s t)

abbrev pub covered_all : FoTerm → FoTerm → List FoTerm → Bool
covered_all s t us = list_all (λ b. b) (map (covered_at s t) us)
