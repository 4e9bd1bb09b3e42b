-- A lifted formula with its equations stands over the table, too.
use Rattle.std.proofs.Common.{◌≡◌, zero, suc, Bool, true, false, ◌&&◌, IsTrue, List, [], ◌∷◌, length, ap, refl, sym, ◌∙◌, Some}
use Rattle.hol_terms.specs.declared.konst.Konst.{Konst}
use Rattle.hol_terms.specs.declared.konst.Konst.TheVariants as konst
use Rattle.hol_terms.specs.declared.sig.Sig.{Sig}
use Rattle.hol_terms.specs.declared.term.Term.{Term}
use Rattle.hol_terms.specs.Types.{bool_ty, function_ty}
use Rattle.hol_terms.specs.Typing.{konst_type, applied}
use Rattle.hol_terms.specs.Substitution.{is_closed}
use Rattle.hol_terms.specs.Formulas.{var_free}
use Rattle.hol_terms.proofs.Both.{and_true}
use Rattle.hol_terms.proofs.TypedParts.{applied_fits}
use Rattle.hol_terms.proofs.Equations.{type-app, type-con, closed-app, closed-con, var_free-app, var_free-con}
use Rattle.kernel_rules.specs.Connectives.{apply, constant}
use Rattle.lambda_lift.specs.declared.table.Aux.{Aux}
use Rattle.lambda_lift.specs.Walks.{with_two}
use Rattle.lambda_lift.specs.Standing.{Each, StandsOver, Stands, over, aux_below, konst_below}
use Rattle.lambda_lift.specs.Lifting.{lifted}
use Rattle.lambda_lift.specs.Wholes.{whole, with_equations, conjunction}
use Rattle.hol_clausify.proofs.Expanding.{below-con, below-app}

module _ (sig : Sig) (table : List Aux) where
  abbrev s : Sig
  s = over sig table

  two_over : (k : Konst) (t u : Term) → konst_type s k ≡ Some (function_ty bool_ty (function_ty bool_ty bool_ty)) → IsTrue (konst_below (length table) k) → StandsOver sig table t → StandsOver sig table u → StandsOver sig table (with_two k t u)
  two_over k t u own low ht hu =
      let c = constant k in
      let n = length table in
      record {
        typed = type-app s (apply c t) u [] ∙ (λ i. applied ((type-app s c t [] ∙ (λ j. applied ((type-con s k [] ∙ own) j) (ht.typed j)) ∙ applied_fits bool_ty (function_ty bool_ty bool_ty)) i) (hu.typed i)) ∙ applied_fits bool_ty bool_ty;
        closed =
            closed-app (apply c t) u 0
            ∙ and_true (is_closed (apply c t)) (is_closed u) (closed-app c t 0 ∙ and_true (is_closed c) (is_closed t) (closed-con k 0) ht.closed) hu.closed;
        without_free =
            var_free-app (apply c t) u
            ∙ and_true (var_free (apply c t)) (var_free u) (var_free-app c t ∙ and_true (var_free c) (var_free t) (var_free-con k) ht.without_free) hu.without_free;
        known =
            below-app n (apply c t) u
            ∙ and_true (aux_below n (apply c t)) (aux_below n u) (below-app n c t ∙ and_true (aux_below n c) (aux_below n t) (below-con n k ∙ low) ht.known) hu.known;
      }

  conjunction_over : (t : Term) (us : List Term) → StandsOver sig table t → Each (StandsOver sig table) us → StandsOver sig table (conjunction t us)
  conjunction_over t [] h all = h
  conjunction_over t (u ∷ us) h all = two_over konst.And t (conjunction u us) refl refl h (conjunction_over u us (all zero u refl) (λ i. all (suc i)))

  pub equations_over : (goal : Bool) (t : Term) (es : List Term) → StandsOver sig table t → Each (StandsOver sig table) es → StandsOver sig table (with_equations goal t es)
  equations_over goal t [] h all = h
  equations_over true t (e ∷ es) h all = two_over konst.Imp (conjunction e es) t refl refl (conjunction_over e es (all zero e refl) (λ i. all (suc i))) h
  equations_over false t (e ∷ es) h all = two_over konst.And t (conjunction e es) refl refl h (conjunction_over e es (all zero e refl) (λ i. all (suc i)))

pub whole_over : (sig : Sig) (old : List Aux) (t : Term) (goal : Bool) → Stands sig old t → StandsOver sig (lifted sig old t).table (whole goal (lifted sig old t))
whole_over sig old t goal st = equations_over sig (lifted sig old t).table goal (lifted sig old t).body (lifted sig old t).equations st.body st.equations
