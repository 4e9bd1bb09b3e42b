-- Equations that say nothing, and what equations of a table are.
use Rattle.std.specs.Prelude.{◌≡◌, ℕ, List, ◌++◌, Option, Some, None, unwrap_or, slice_get}
use Rattle.hol_terms.specs.declared.ty.Ty.{Ty}
use Rattle.hol_terms.specs.declared.konst.Konst.{Konst}
use Rattle.hol_terms.specs.declared.konst.Konst.TheVariants as konst
use Rattle.hol_terms.specs.declared.sig.Sig.{Sig}
use Rattle.hol_terms.specs.declared.term.Term.{Term}
use Rattle.hol_terms.specs.declared.term.Term.TheOpen.{Term-F}
use Rattle.hol_terms.specs.declared.term.Term.TheFolds.{fold-Term}
use Rattle.kernel_rules.specs.Connectives.{equal}
use Rattle.lambda_lift.specs.declared.table.Aux.{Aux}
use Rattle.lambda_lift.specs.Walks.{Stage}
use Rattle.lambda_lift.specs.Equations.{run, behind, result_ty, for_all}
use Rattle.lambda_lift.specs.Lifting.{lifted_equation}

-- `!x1..xn. b = b` for `\x1..xn. b`, which has the type `a`
abbrev pub identity : Ty → Term → Term
identity a t = for_all (run t) (equal (result_ty (run t) a) (behind (run t) t) (behind (run t) t))

-- the number of the first auxiliary constant from the left
abbrev pub aux_number : Konst → Option ℕ
aux_number (konst.Aux k) = Some k
aux_number _ = None

abbrev pub or_else : Option ℕ → Option ℕ → Option ℕ
or_else None o = o
or_else (Some k) o = Some k

abbrev pub first_aux_step : Term-F (Option ℕ) → Option ℕ
first_aux_step (Term-F.Bound i) = None
first_aux_step (Term-F.Free n a) = None
first_aux_step (Term-F.Con k) = aux_number k
first_aux_step (Term-F.App f x) = or_else f x
first_aux_step (Term-F.Lam a b) = b

abbrev pub first_aux : Term → Option ℕ
first_aux = fold-Term (Option ℕ) first_aux_step

-- the term is the lifted equation of the entry with the number, in a table that this one goes on
pub record IsOf (sig : Sig) (table : List Aux) (number : ℕ) (entry : Aux) (t : Term) : Type 0 where
  pub stage : Stage
  pub at : slice_get stage.table number ≡ Some entry
  pub is : t ≡ (lifted_equation sig number stage).term
  pub more : List Aux
  pub grown : table ≡ (lifted_equation sig number stage).after.table ++ more

-- of some entry
pub record IsEquation (sig : Sig) (table : List Aux) (t : Term) : Type 0 where
  pub number : ℕ
  pub entry : Aux
  pub of : IsOf sig table number entry t
