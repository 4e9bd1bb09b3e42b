-- A formula without its lambdas, and the equations of the auxiliary constants that stand for them.
use Rattle.std.specs.Prelude.{ℕ, zero, suc, ◌+◌, ◌-◌, ◌^◌, List, [], ◌∷◌, slice_get, Option, Some, None, unwrap_or}
use Rattle.hol_terms.specs.declared.konst.Konst.TheVariants as konst
use Rattle.hol_terms.specs.declared.sig.Sig.{Sig}
use Rattle.hol_terms.specs.declared.term.Term.{Term, roll-Term}
use Rattle.hol_terms.specs.declared.term.Term.TheOpen.{Term-F}
use Rattle.hol_terms.specs.Types.{bool_ty}
use Rattle.lambda_lift.specs.declared.table.Aux.{Aux}
use Rattle.lambda_lift.specs.Walks.{Stage, Walked, reading}
use Rattle.lambda_lift.specs.Equations.{equation}

-- a formula that stands alone, lifted
unfoldable pub lifted_formula : Sig → Term → Stage → Walked
lifted_formula sig t s = (reading sig t).formula [] s

abbrev pub no_entry : Aux
no_entry = record { ty = bool_ty; closed = roll-Term (Term-F.Con konst.True) }

abbrev pub entry_at : List Aux → ℕ → Aux
entry_at table k = unwrap_or (slice_get table k) no_entry

-- the equation of a number, lifted as a formula
abbrev pub lifted_equation : Sig → ℕ → Stage → Walked
lifted_equation sig k s = lifted_formula sig (equation k (entry_at s.table k)) s

-- the equations of the numbers met, those met in equations too, in order; and the table behind them
pub record Equated : Type 0 where
  pub equations : List Term
  pub table : List Aux

abbrev pub no_more : Stage → Equated
no_more s = record { equations = []; table = s.table }

abbrev pub begins_with : Term → Equated → Equated
begins_with t rest = record { equations = t ∷ rest.equations; table = rest.table }

abbrev pub next_equation : Sig → Stage → (Stage → Equated) → Option ℕ → Equated
next_equation sig s rest None = no_more s
next_equation sig s rest (Some k) = begins_with (lifted_equation sig k s).term (rest (lifted_equation sig k s).after)

-- from place `at` of the numbers met, at most so many
unfoldable pub equated : Sig → ℕ → ℕ → Stage → Equated
equated sig zero at s = no_more s
equated sig (suc most) at s = next_equation sig s (equated sig most (at + 1)) (slice_get s.met at)

-- what a formula gives over a table
pub record Outcome : Type 0 where
  pub body : Term
  pub equations : List Term
  pub table : List Aux

-- no list has 2^64 - 1 entries, so all equations are made
abbrev pub outcome_of : Sig → Walked → Outcome
outcome_of sig w =
    let rest = equated sig (2 ^ 64 - 1) 0 w.after in
    record { body = w.term; equations = rest.equations; table = rest.table }

unfoldable pub lifted : Sig → List Aux → Term → Outcome
lifted sig table t = outcome_of sig (lifted_formula sig t (record { table = table; met = [] }))
