-- How walks end.
use Rattle.std.proofs.Common.{◌≡◌, ℕ, ◌<◌, Bool, nat_eq, List, ◌∷◌, length, sym, ap, ◌∙◌}
use Rattle.indexmap.specs.IndexSet.{insert_key}
use Rattle.hol_terms.specs.declared.ty.Ty.{Ty}
use Rattle.hol_terms.specs.declared.konst.Konst.{Konst}
use Rattle.hol_terms.specs.declared.konst.Konst.TheVariants as konst
use Rattle.hol_terms.specs.declared.sig.Sig.{Sig}
use Rattle.hol_terms.specs.declared.term.Term as term
use Rattle.hol_terms.specs.declared.term.Term.{Term, roll-Term}
use Rattle.hol_terms.specs.declared.term.Term.TheOpen.{Term-F}
use Rattle.lambda_lift.specs.declared.table.Aux.{Aux}
use Rattle.lambda_lift.specs.Tables.{place, with_entry, own_ty}
use Rattle.lambda_lift.specs.Closing.{closed_over, occurs_in, variables, applied_to}
use Rattle.lambda_lift.specs.inner.Marks.{passes}
use Rattle.lambda_lift.specs.Walks.{Walk, Stage, Walked, reading, one, both, scope, apply, lifted_out}
use Rattle.lambda_lift.specs.Views.{stage, ends}
use Rattle.lambda_lift.proofs.Made.{bound_is, free_is, con_is, lam_is}
use Rattle.lambda_lift.proofs.Readings.{own_is}
use Rattle.lambda_lift.proofs.Formed.{made_bound, made_free, made_con, made_app, made_lam}
use Rattle.lambda_lift.proofs.Occurring.{variables_agree}

module _ (w : Walk) (binders : List Ty) (s : Stage) where
  pub one_ends : (make : Term → Term) (inner : Walk) (i r : Term) (table : List Aux) (met : List ℕ) → w ≡ one make inner → inner binders s ≡ ends i table met → r ≡ make i → w binders s ≡ ends r table met
  one_ends make inner i r table met is h e =
      (λ j. is j binders s) ∙ ap (λ (v : Walked). record { term = make v.term; after = v.after }) h ∙ sym (ap (λ t. ends t table met) e)

  pub both_ends : (make : Term → Term → Term) (left right : Walk) (a b r : Term) (table table' : List Aux) (met met' : List ℕ) → w ≡ both make left right →
      left binders s ≡ ends a table met → right binders (stage table met) ≡ ends b table' met' → r ≡ make a b → w binders s ≡ ends r table' met'
  both_ends make left right a b r table table' met met' is hl hr e =
      (λ j. is j binders s) ∙ ap (λ (v : Walked). let u = right binders v.after in record { term = make v.term u.term; after = u.after }) hl
      ∙ ap (λ (u : Walked). record { term = make a u.term; after = u.after }) hr ∙ sym (ap (λ t. ends t table' met') e)

  pub scope_ends : (k : Konst) (a : Ty) (body : Walk) (i r : Term) (table : List Aux) (met : List ℕ) → w ≡ scope k a body → body (a ∷ binders) s ≡ ends i table met →
      r ≡ apply (roll-Term (Term-F.Con k)) (roll-Term (Term-F.Lam a i)) → w binders s ≡ ends r table met
  scope_ends k a body i r table met is h e =
      (λ j. is j binders s) ∙ ap (λ (v : Walked). record { term = apply (roll-Term (Term-F.Con k)) (roll-Term (Term-F.Lam a v.term)); after = v.after }) h ∙ sym (ap (λ t. ends t table met) e)

-- ---- atoms
module _ (sig : Sig) (t : Term) (binders : List Ty) (table : List Aux) (met : List ℕ) where
  pub bound_ends : (i : ℕ) (r : Term) → t ≡ term.Bound i → r ≡ t → (reading sig t).atom binders (stage table met) ≡ ends r table met
  bound_ends i r is e = (λ j. (made_bound sig t i is j).atom binders (stage table met)) ∙ sym (ap (λ u. ends u table met) (e ∙ is ∙ bound_is i))

  pub free_ends : (n : ℕ) (a : Ty) (r : Term) → t ≡ term.Free n a → r ≡ t → (reading sig t).atom binders (stage table met) ≡ ends r table met
  free_ends n a r is e = (λ j. (made_free sig t n a is j).atom binders (stage table met)) ∙ sym (ap (λ u. ends u table met) (e ∙ is ∙ free_is n a))

  pub con_ends : (k : Konst) (r : Term) → t ≡ term.Con k → r ≡ t → (reading sig t).atom binders (stage table met) ≡ ends r table met
  con_ends k r is e = (λ j. (made_con sig t k is j).atom binders (stage table met)) ∙ sym (ap (λ u. ends u table met) (e ∙ is ∙ con_is k))

  pub atom_is_both : (f x : Term) → t ≡ term.App f x → (reading sig t).atom ≡ both apply (reading sig f).atom (reading sig x).atom
  atom_is_both f x is = ap (λ r. r.atom) (made_app sig t f x is)

  pub atom_is_out : (a : Ty) (b : Term) → t ≡ term.Lam a b → (reading sig t).atom ≡ lifted_out sig t
  atom_is_out a b is = ap (λ r. r.atom) (made_lam sig t a b is) ∙ ap (lifted_out sig) (ap (λ u. roll-Term (Term-F.Lam a u)) (own_is sig b) ∙ sym (is ∙ lam_is a b))

  pub out_ends : (marks : List Bool) (k : ℕ) (r : Term) (table' : List Aux) (met' : List ℕ) → length marks ≡ length binders → ((v : ℕ) → v < length marks → passes marks v ≡ occurs_in t v) →
      k ≡ place table (closed_over binders t) → table' ≡ with_entry table (own_ty sig (closed_over binders t)) (closed_over binders t) → met' ≡ insert_key nat_eq met k →
      r ≡ applied_to (roll-Term (Term-F.Con (konst.Aux k))) (variables (passes marks) (length marks)) → lifted_out sig t binders (stage table met) ≡ ends r table' met'
  out_ends marks k r table' met' sized agree ke te me re =
      let vs : variables (passes marks) (length marks) ≡ variables (occurs_in t) (length binders) = variables_agree (passes marks) (occurs_in t) (length marks) agree ∙ ap (variables (occurs_in t)) sized in
      let term_is = re ∙ (λ i. applied_to (roll-Term (Term-F.Con (konst.Aux (ke i)))) (vs i)) in
      let met_is = me ∙ ap (insert_key nat_eq met) ke in
      sym (λ i. ends (term_is i) (te i) (met_is i))
