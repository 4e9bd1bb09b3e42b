-- The clauses of the walk over formulas with auxiliary constants, as the kernel has them.
use Rattle.std.specs.Prelude.{◌≡◌, ℕ, Bool, IsTrue, List, ◌++◌, map, length}
use Rattle.hol_terms.specs.declared.ty.Ty.{Ty}
use Rattle.hol_terms.specs.declared.term.Term.{Term}
use Rattle.hol_terms.specs.Formulas.{var_free}
use Rattle.hol_terms.specs.Substitution.{closed_under}
use Rattle.lambda_lift.specs.declared.table.Aux.{Aux}
use Rattle.lambda_lift.specs.Tables.{expand}
use Rattle.lambda_lift.specs.Standing.{Each, aux_below}
use Rattle.hol_formulas.specs.declared.formula.Formula.{Formula}
use Rattle.hol_terms.specs.declared.literal.TypedLiteral.{TypedLiteral}
use Rattle.formula_clauses.specs.Choices.{put_in}
use Rattle.formula_clauses.specs.Walks.{Clauses, Progress, Walked, walked}
use Rattle.hol_clausify.specs.Places.{term_of, IsRead}
use Rattle.hol_clausify.specs.Variables.{each_free, has_number}
use Rattle.hol_clausify.specs.Refutations.{Refuted, refuted}
use Rattle.hol_clausify.specs.Laws.{AllClosed, ClosedTable, BareTable}

abbrev pub shown_literal : List Aux → TypedLiteral → TypedLiteral
shown_literal table l = record { positive = l.positive; atom = expand table l.atom }

-- the clauses with their auxiliary constants expanded
abbrev pub shown : List Aux → Clauses → Clauses
shown table cs = map (map (shown_literal table)) cs

abbrev pub told : List Aux → Walked → Refuted
told table w = record { next = w.after.next; clauses = shown table w.clauses }

-- how the walk stands at a place: the types of the variables so far by their numbers, a table whose entries stand alone, and terms of
-- the scope that it knows
pub record Stands (types : List Ty) (p : Progress) (e : List Term) : Type 0 where
  pub count : length types ≡ p.next
  pub closed_table : ClosedTable p.table
  pub bare_table : BareTable p.table
  pub closed : AllClosed e
  pub known : Each (λ t. IsTrue (aux_below (length p.table) t)) e
  pub numbered : Each (λ t. IsTrue (each_free (has_number types) t)) e

-- a term of the formula at the place
pub record Fits (p : Progress) (e : List Term) (t : Term) : Type 0 where
  pub closed : IsTrue (closed_under t (length e))
  pub known : IsTrue (aux_below (length p.table) t)
  pub bare : IsTrue (var_free t)

-- over each table behind the walk whose closed terms have no loose index, the walk over the kernel's formula at the place gives the
-- walk's clauses, expanded
abbrev pub RefutedIsWalked : Formula → Bool → List Ty → ℕ → List Aux → List Term → List Aux → Type 0
RefutedIsWalked f s types next table e more =
    let p : Progress = record { next = next; table = table } in
    let w = walked f s e p in
    let behind = w.after.table ++ more in
    IsRead f → Stands types p e → Fits p e (term_of f) → ClosedTable behind → refuted f s (expand behind (put_in e (term_of f) 0)) next ≡ told behind w
