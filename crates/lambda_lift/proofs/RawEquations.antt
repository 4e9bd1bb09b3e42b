-- Equations are lifted rightly, though they hold the constant that they are of.
use Rattle.std.proofs.Common.{◌≡◌, ℕ, Bool, true, false, IsTrue, if◌then◌else◌, List, [], ◌∷◌, ◌++◌, length, slice_get, refl, sym, ap, subst, ◌∙◌}
use Rattle.std.specs.Prelude.{Some, unwrap_or}
use Rattle.hol_terms.specs.declared.ty.Ty.{Ty}
use Rattle.hol_terms.specs.declared.konst.Konst.TheVariants as konst
use Rattle.hol_terms.specs.declared.sig.Sig.{Sig}
use Rattle.hol_terms.specs.declared.term.Term.{Term, roll-Term}
use Rattle.hol_terms.specs.declared.term.Term.TheOpen.{Term-F}
use Rattle.hol_terms.specs.Types.{is_ty, bool_ty}
use Rattle.hol_terms.specs.Formulas.{aux_free}
use Rattle.hol_terms.specs.Substitution.{is_closed}
use Rattle.lambda_lift.specs.declared.table.Aux.{Aux}
use Rattle.lambda_lift.specs.Tables.{expand}
use Rattle.lambda_lift.specs.Closing.{variables, applied_to}
use Rattle.lambda_lift.specs.Walks.{Stage, Reading, plain, junction, reading, both, scope, apply, with_two, app_head, app_formula, app_reading}
use Rattle.lambda_lift.specs.Equations.{run, behind, result_ty, for_all, applied_to_all, equation}
use Rattle.lambda_lift.specs.Lifting.{lifted_formula, lifted_equation, entry_at, no_entry}
use Rattle.lambda_lift.specs.Contractions.{contracted_along}
use Rattle.lambda_lift.specs.Redexes.{redexes, side_redexes, identity}
use Rattle.lambda_lift.proofs.Lifts.{app, lam, con, Right, Reads, kept_con, kept_bound, applied, under, reads, app_right}
use Rattle.lambda_lift.proofs.Readings.{reading_app, reading_con, reading_lam, reading_bound}
use Rattle.lambda_lift.proofs.Along.{along_append}
use Rattle.lambda_lift.proofs.Expansions.{Grows}
use Rattle.lambda_lift.proofs.Betas.{lifts_back}
use Rattle.lambda_lift.proofs.Sides.{run_behind, aux_free_lambdas, sides_back}

abbrev bound : ℕ → Term
bound i = roll-Term (Term-F.Bound i)

module _ (sig : Sig) where
  -- a term that is lifted rightly as an atom and as a formula, and is no head of a formula
  record Plain (t : Term) (r : Reading) : Type 0 where
    atom : Right sig t r.atom
    formula : Right sig t r.formula
    head : r.head ≡ plain

  bound_right : (i : ℕ) → Right sig (bound i) (reading sig (bound i)).atom
  bound_right i = subst (λ r. Right sig (bound i) r.atom) (sym (reading_bound sig i)) (kept_bound i)

  plain_konst : (k : ℕ) → Plain (con (konst.Aux k)) (reading sig (con (konst.Aux k)))
  plain_konst k = subst (Plain (con (konst.Aux k))) (sym (reading_con sig (konst.Aux k))) (record { atom = kept_con (konst.Aux k); formula = kept_con (konst.Aux k); head = refl })

  plain_app : (f : Term) (i : ℕ) → Plain f (reading sig f) → Plain (app f (bound i)) (reading sig (app f (bound i)))
  plain_app f i hf =
      let atoms = app_right sig f (bound i) (reading sig f).atom (reading sig (bound i)).atom hf.atom (bound_right i) in
      let whole : Plain (app f (bound i)) (app_reading (reading sig f) (reading sig (bound i))) =
      record {
        atom = atoms;
        formula = subst (λ h. Right sig (app f (bound i)) (app_formula h (reading sig (bound i)) (both apply (reading sig f).atom (reading sig (bound i)).atom))) (sym hf.head) atoms;
        head = ap (λ h. app_head h (reading sig (bound i)).formula) hf.head;
      } in
      subst (Plain (app f (bound i))) (sym (reading_app sig f (bound i))) whole

  plain_applied : (vs : List ℕ) (f : Term) → Plain f (reading sig f) → Plain (applied_to f vs) (reading sig (applied_to f vs))
  plain_applied [] f hf = hf
  plain_applied (v ∷ vs) f hf = plain_applied vs (app f (bound v)) (plain_app f v hf)

  -- an equation of such a left side
  equal_step : (a : Ty) (l r : Term) (b : Bool) → Plain l (reading sig l) → Reads sig r (reading sig r) →
      Right sig (with_two (konst.Eq a) l r)
      (app_formula (app_head (if b then junction (konst.Eq a) else plain) (reading sig l).formula) (reading sig r) (both apply (both apply (λ binders s. record { term = con (konst.Eq a); after = s }) (reading sig l).atom) (reading sig r).atom))
  equal_step a l r true hl hr binders s =
      applied (app (con (konst.Eq a)) l) r binders s (record { term = app (con (konst.Eq a)) ((reading sig l).formula binders s).term; after = ((reading sig l).formula binders s).after }) _
      (applied (con (konst.Eq a)) l binders s (record { term = con (konst.Eq a); after = s }) _ (kept_con (konst.Eq a) binders s) (hl.formula binders s))
      (hr.formula binders ((reading sig l).formula binders s).after)
  equal_step a l r false hl hr binders s =
      applied (app (con (konst.Eq a)) l) r binders s (record { term = app (con (konst.Eq a)) ((reading sig l).atom binders s).term; after = ((reading sig l).atom binders s).after }) _
      (applied (con (konst.Eq a)) l binders s (record { term = con (konst.Eq a); after = s }) _ (kept_con (konst.Eq a) binders s) (hl.atom binders s))
      (hr.atom binders ((reading sig l).atom binders s).after)

  pub equal_formula : (a : Ty) (l r : Term) → (reading sig (with_two (konst.Eq a) l r)).formula
      ≡ app_formula (app_head (if is_ty a bool_ty then junction (konst.Eq a) else plain) (reading sig l).formula) (reading sig r) (both apply (both apply (λ binders s. record { term = con (konst.Eq a); after = s }) (reading sig l).atom) (reading sig r).atom)
  equal_formula a l r =
      let half = reading_app sig (con (konst.Eq a)) l ∙ ap (λ q. app_reading q (reading sig l)) (reading_con sig (konst.Eq a)) in
      ap (λ q. q.formula) (reading_app sig (app (con (konst.Eq a)) l) r ∙ ap (λ q. app_reading q (reading sig r)) half)

  equal_right : (a : Ty) (l r : Term) → Plain l (reading sig l) → Reads sig r (reading sig r) → Right sig (with_two (konst.Eq a) l r) (reading sig (with_two (konst.Eq a) l r)).formula
  equal_right a l r hl hr = subst (Right sig (with_two (konst.Eq a) l r)) (sym (equal_formula a l r)) (equal_step a l r (is_ty a bool_ty) hl hr)

  -- and under quantifiers
  pub all_formula : (a : Ty) (t : Term) → (reading sig (app (con (konst.All a)) (lam a t))).formula ≡ scope (konst.All a) a (reading sig t).formula
  all_formula a t =
      ap (λ q. q.formula) (reading_app sig (con (konst.All a)) (lam a t) ∙ (λ i. app_reading (reading_con sig (konst.All a) i) (reading_lam sig a t i)))

  for_all_right : (types : List Ty) (t : Term) → Right sig t (reading sig t).formula → Right sig (for_all types t) (reading sig (for_all types t)).formula
  for_all_right [] t h = h
  for_all_right (a ∷ types) t h =
      let inner = for_all_right types t h in
      subst (Right sig (for_all (a ∷ types) t)) (sym (all_formula a (for_all types t)))
      (λ binders s. applied (con (konst.All a)) (lam a (for_all types t)) binders s (record { term = con (konst.All a); after = s }) _ (kept_con (konst.All a) binders s)
      (under a (for_all types t) binders s _ (inner (a ∷ binders) s)))

  pub equation_right : (k : ℕ) (e : Aux) → IsTrue (aux_free e.closed) → Right sig (equation k e) (reading sig (equation k e)).formula
  equation_right k e h =
      let types = run e.closed in
      let body = behind types e.closed in
      let clean : IsTrue (aux_free body) = subst IsTrue (ap aux_free (sym (run_behind e.closed)) ∙ aux_free_lambdas types body) h in
      for_all_right types _ (equal_right (result_ty types e.ty) (applied_to_all (konst.Aux k) (length types)) body
      (plain_applied (variables (λ v. true) (length types)) (con (konst.Aux k)) (plain_konst k)) (reads sig body clean))

  -- the expanded equation as it is lifted, with its redexes contracted, has one term on both sides
  pub equation_back : (k : ℕ) (e : Aux) (s : Stage) (table : List Aux) → slice_get s.table k ≡ Some e → IsTrue (aux_free e.closed) → IsTrue (is_closed e.closed) →
      Grows (lifted_equation sig k s).after.table table → slice_get table k ≡ Some e →
      contracted_along (redexes (equation k e) (lifted_equation sig k s).term ++ side_redexes k e) (expand table (lifted_equation sig k s).term) ≡ identity e
  unfolding lifted_formula
  equation_back k e s table at clean closed grows later =
      let entry : entry_at s.table k ≡ e = ap (λ o. unwrap_or o no_entry) at in
      let is : lifted_equation sig k s ≡ lifted_formula sig (equation k e) s = ap (λ q. lifted_formula sig (equation k q) s) entry in
      let w = (reading sig (equation k e)).formula [] s in
      let grown : Grows w.after.table table = subst (λ q. Grows q.after.table table) is grows in
      ap (λ q. contracted_along (redexes (equation k e) q.term ++ side_redexes k e) (expand table q.term)) is
      ∙ along_append (redexes (equation k e) w.term) (side_redexes k e) (expand table w.term)
      ∙ ap (contracted_along (side_redexes k e)) (lifts_back sig (equation k e) [] s w (equation_right k e clean [] s) table grown) ∙ sides_back table k e later clean closed
