-- The equations of a lifted formula, over a table that has grown since.
use Rattle.std.proofs.Common.{◌≡◌, ℕ, List, ◌++◌, slice_get, ap, sym, subst, ◌∙◌, Some}
use Rattle.hol_terms.specs.declared.sig.Sig.{Sig}
use Rattle.hol_terms.specs.declared.term.Term.{Term}
use Rattle.hol_terms.specs.Types.{bool_ty}
use Rattle.hol_terms.specs.Formulas.{IsFormula, IsSentence}
use Rattle.hol_terms.proofs.Formulas.{formula_from}
use Rattle.lambda_lift.specs.declared.table.Aux.{Aux}
use Rattle.lambda_lift.specs.declared.lifting.Lifted.{Lifted}
use Rattle.lambda_lift.specs.Tables.{expand}
use Rattle.lambda_lift.specs.Lifting.{lifted}
use Rattle.lambda_lift.specs.Standing.{Each, StandsOver, Stands}
use Rattle.lambda_lift.proofs.Standings.{lifted_stand}
use Rattle.hol_clausify.specs.inner.LiftedOver.{IsLifted}
use Rattle.hol_clausify.specs.inner.Identities.{IsEquation}
use Rattle.hol_clausify.proofs.Expanding.{known_same}
use Rattle.hol_clausify.proofs.Standing.{expand_given}
use Rattle.hol_clausify.proofs.Made.{equations_made, equation_stays}

module _ (sig : Sig) (t : Term) (l : Lifted) (table : List Aux) (is : IsLifted sig t l table) (sentence : IsSentence sig t) where
  stands : Stands sig is.old t
  stands = lifted_stand sig is.has_bool is.old t is.old_alone sentence

  abbrev here : List Aux
  here = (lifted sig is.old t).table

  formula : (u : Term) → StandsOver sig here u → IsFormula sig (expand table u)
  formula u h =
      let given = expand_given sig here stands.entries u bool_ty h.typed in
      subst (IsFormula sig) (sym (ap (λ q. expand q u) is.grown ∙ known_same here is.more u h.known)) (formula_from sig (expand here u) given.0 given.1)

  pub equations_formulas : Each (λ u. IsFormula sig (expand table u)) l.equations
  equations_formulas i u e = formula u (stands.equations i u (ap (λ q. slice_get q i) (sym is.equations) ∙ e))

  pub equations_are : Each (IsEquation sig table) l.equations
  equations_are i u e =
      let made = equations_made sig is.has_bool is.old t is.old_alone sentence i u (ap (λ q. slice_get q i) (sym is.equations) ∙ e) in
      subst (λ q. IsEquation sig q u) (sym is.grown) (equation_stays sig here is.more u made)
