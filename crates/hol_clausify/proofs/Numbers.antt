-- The first auxiliary constant of a lifted equation is the one that it is of.
use Rattle.std.proofs.Common.{◌≡◌, ℕ, Bool, true, false, if◌then◌else◌, List, [], ◌∷◌, length, slice_get, ap, refl, sym, subst, ◌∙◌, Some, None}
use Rattle.std.specs.Prelude.{Option, unwrap_or}
use Rattle.hol_terms.specs.declared.ty.Ty.{Ty}
use Rattle.hol_terms.specs.declared.konst.Konst.{Konst}
use Rattle.hol_terms.specs.declared.konst.Konst.TheVariants as konst
use Rattle.hol_terms.specs.declared.sig.Sig.{Sig}
use Rattle.hol_terms.specs.declared.term.Term.{Term, roll-Term}
use Rattle.hol_terms.specs.declared.term.Term.TheOpen.{Term-F}
use Rattle.hol_terms.specs.declared.term.Term.TheFolds.{fold-roll-Term}
use Rattle.hol_terms.specs.Types.{is_ty, bool_ty}
use Rattle.lambda_lift.specs.declared.table.Aux.{Aux}
use Rattle.lambda_lift.specs.Closing.{variables, applied_to}
use Rattle.lambda_lift.specs.Walks.{Stage, Walk, Reading, plain, junction, reading, both, scope, apply, with_two, app_head, app_formula, app_reading}
use Rattle.lambda_lift.specs.Equations.{run, behind, result_ty, for_all, applied_to_all, equation}
use Rattle.lambda_lift.specs.Lifting.{lifted_formula, lifted_equation, entry_at, no_entry}
use Rattle.lambda_lift.proofs.Lifts.{app, lam, con}
use Rattle.lambda_lift.proofs.Readings.{reading_app, reading_con}
use Rattle.lambda_lift.proofs.RawEquations.{equal_formula, all_formula}
use Rattle.hol_clausify.specs.inner.Identities.{first_aux, first_aux_step, or_else, aux_number}

abbrev bound : ℕ → Term
bound i = roll-Term (Term-F.Bound i)

pub first_con : (k : Konst) → first_aux (con k) ≡ aux_number k
first_con k = fold-roll-Term (Option ℕ) first_aux_step (Term-F.Con k)

pub first_app : (f x : Term) → first_aux (app f x) ≡ or_else (first_aux f) (first_aux x)
first_app f x = fold-roll-Term (Option ℕ) first_aux_step (Term-F.App f x)

pub first_lam : (a : Ty) (b : Term) → first_aux (lam a b) ≡ first_aux b
first_lam a b = fold-roll-Term (Option ℕ) first_aux_step (Term-F.Lam a b)

module _ (sig : Sig) (k : ℕ) where
  abbrev Is : Term → Type 0
  Is t = first_aux t ≡ Some k

  abbrev Starts : Walk → Type 0
  Starts w = (binders : List Ty) (s : Stage) → Is (w binders s).term

  is_left : (f x : Term) → Is f → Is (app f x)
  is_left f x h = first_app f x ∙ ap (λ o. or_else o (first_aux x)) h

  is_right : (f x : Term) → first_aux f ≡ None → Is x → Is (app f x)
  is_right f x g h = first_app f x ∙ (λ i. or_else (g i) (h i))

  is_equal : (a : Ty) (l r : Term) → Is l → Is (with_two (konst.Eq a) l r)
  is_equal a l r h = is_left (app (con (konst.Eq a)) l) r (is_right (con (konst.Eq a)) l (first_con (konst.Eq a)) h)

  record Plain (r : Reading) : Type 0 where
    atom : Starts r.atom
    formula : Starts r.formula
    head : r.head ≡ plain

  plain_konst : Plain (reading sig (con (konst.Aux k)))
  plain_konst =
      subst Plain (sym (reading_con sig (konst.Aux k))) (record { atom = λ binders s. first_con (konst.Aux k); formula = λ binders s. first_con (konst.Aux k); head = refl })

  both_start : (f x : Walk) → Starts f → Starts (both apply f x)
  both_start f x h binders s = is_left (f binders s).term (x binders (f binders s).after).term (h binders s)

  plain_app : (f : Term) (i : ℕ) → Plain (reading sig f) → Plain (reading sig (app f (bound i)))
  plain_app f i hf =
      let x = reading sig (bound i) in
      let atoms = both_start (reading sig f).atom x.atom hf.atom in
      subst Plain (sym (reading_app sig f (bound i)))
      (record {
        atom = atoms;
        formula = subst (λ h. Starts (app_formula h x (both apply (reading sig f).atom x.atom))) (sym hf.head) atoms;
        head = ap (λ h. app_head h x.formula) hf.head;
      })

  plain_applied : (vs : List ℕ) (f : Term) → Plain (reading sig f) → Plain (reading sig (applied_to f vs))
  plain_applied [] f hf = hf
  plain_applied (v ∷ vs) f hf = plain_applied vs (app f (bound v)) (plain_app f v hf)

  equal_step : (a : Ty) (l r : Reading) (b : Bool) → Plain l →
      Starts (app_formula (app_head (if b then junction (konst.Eq a) else plain) l.formula) r (both apply (both apply (λ binders s. record { term = con (konst.Eq a); after = s }) l.atom) r.atom))
  equal_step a l r true hl binders s = is_equal a (l.formula binders s).term (r.formula binders (l.formula binders s).after).term (hl.formula binders s)
  equal_step a l r false hl binders s = is_equal a (l.atom binders s).term (r.atom binders (l.atom binders s).after).term (hl.atom binders s)

  equal_starts : (a : Ty) (l r : Term) → Plain (reading sig l) → Starts (reading sig (with_two (konst.Eq a) l r)).formula
  equal_starts a l r hl = subst Starts (sym (equal_formula sig a l r)) (equal_step a (reading sig l) (reading sig r) (is_ty a bool_ty) hl)

  scope_starts : (a : Ty) (body : Walk) → Starts body → Starts (scope (konst.All a) a body)
  scope_starts a body h binders s =
      let inner = body (a ∷ binders) s in
      is_right (con (konst.All a)) (lam a inner.term) (first_con (konst.All a)) (first_lam a inner.term ∙ h (a ∷ binders) s)

  for_all_starts : (types : List Ty) (t : Term) → Starts (reading sig t).formula → Starts (reading sig (for_all types t)).formula
  for_all_starts [] t h = h
  for_all_starts (a ∷ types) t h = subst Starts (sym (all_formula sig a (for_all types t))) (scope_starts a (reading sig (for_all types t)).formula (for_all_starts types t h))

  equation_starts : (e : Aux) → Starts (reading sig (equation k e)).formula
  equation_starts e =
      let types = run e.closed in
      for_all_starts types _ (equal_starts (result_ty types e.ty) (applied_to_all (konst.Aux k) (length types)) (behind types e.closed)
      (plain_applied (variables (λ v. true) (length types)) (con (konst.Aux k)) plain_konst))

  pub number_read : (s : Stage) → first_aux (lifted_equation sig k s).term ≡ Some k
  unfolding lifted_formula
  number_read s = equation_starts (entry_at s.table k) [] s
