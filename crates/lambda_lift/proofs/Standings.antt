-- What a lift gives stands over the table that it leaves.
use Rattle.std.proofs.Common.{◌≡◌, ℕ, zero, suc, ◌+◌, ◌-◌, ◌^◌, ◌<◌, Bool, true, false, nat_eq, if◌then◌else◌, IsTrue, List, [], ◌∷◌, ◌++◌, map, length, slice_get, Some, None, refl, sym, ap, subst, ◌∙◌, arith}
use Rattle.std.specs.Prelude.{Option, unwrap_or}
use Rattle.std.specs.List.{list_any}
use Rattle.std.proofs.lemmas.Option.{slice_get-map}
use Rattle.std.specs.Option.{option_map}
use Rattle.hol_terms.specs.declared.ty.Ty.{Ty}
use Rattle.hol_terms.specs.declared.ty.Ty.TheOpen.{Ty-F}
use Rattle.hol_terms.specs.declared.ty.Ty.TheViews.{out-roll-Ty}
use Rattle.hol_terms.specs.declared.konst.Konst.TheVariants as konst
use Rattle.hol_terms.specs.declared.sig.Sig.{Sig}
use Rattle.hol_terms.specs.declared.term.Term.{Term, roll-Term}
use Rattle.hol_terms.specs.declared.term.Term.TheOpen.{Term-F}
use Rattle.hol_terms.specs.Types.{ty_fits, bool_ty, function_ty}
use Rattle.hol_terms.specs.Typing.{type_in, type_of_term, applied, fitting, konst_type}
use Rattle.hol_terms.specs.Formulas.{aux_free, var_free, IsSentence}
use Rattle.hol_terms.proofs.Both.{both_true, and_true}
use Rattle.hol_terms.proofs.Closed.{typed_closed}
use Rattle.hol_terms.proofs.Formulas.{formula_typed, formula_aux_free, sentence_formula, sentence_var_free}
use Rattle.hol_terms.proofs.TypedParts.{applied_fits, applied_parts, under_parts, under_so, checked_so, own_type_fits}
use Rattle.hol_terms.proofs.Equations.{ty_fits-arrow, type-bound, type-con, type-app, type-lam, var_free-con, var_free-app, var_free-lam}
use Rattle.lambda_lift.specs.declared.table.Aux.{Aux}
use Rattle.lambda_lift.specs.Keys.{is_same}
use Rattle.lambda_lift.specs.Tables.{closed_terms, place, with_entry, own_ty}
use Rattle.lambda_lift.specs.Closing.{occurs_in, variables, lambda_of, renamed, lambdas, ty_at, applied_to, closed_over}
use Rattle.lambda_lift.specs.Walks.{Stage, Walked, reading, with_two, lifted_out}
use Rattle.lambda_lift.specs.Equations.{run, behind, result_at, result_ty, for_all, applied_to_all, equation}
use Rattle.lambda_lift.specs.Lifting.{Equated, equated, next_equation, lifted_formula, lifted_equation, lifted, entry_at, no_entry}
use Rattle.lambda_lift.specs.Standing.{Each, over, StandsAlone, StandsOver, Stands}
use Rattle.lambda_lift.proofs.Lifts.{app, lam, con, Lifts, kept_bound, kept_free, kept_con, out, applied as of_two, under as beneath, reads}
use Rattle.lambda_lift.proofs.Expansions.{Grows, grows_trans, entry_grows, entry_found, within}
use Rattle.lambda_lift.proofs.Betas.{lifts_grow}
use Rattle.lambda_lift.proofs.Growing.{formula_lifted_grows, equated_grows}
use Rattle.lambda_lift.proofs.Sides.{run_behind, aux_free_lambdas}
use Rattle.lambda_lift.proofs.RawEquations.{equation_right}
use Rattle.lambda_lift.proofs.Typings.{later, same_type, typed_known, var_free_renamed, aux_free_renamed, var_free_lambdas, var_free_applied, arrows, applied_typed, got_variables, got_ty, closed_typed}

abbrev bound : ℕ → Term
bound i = roll-Term (Term-F.Bound i)

-- ---- lists with one element more
pub each_more : {X : Type 0} (P : X → Type 0) (xs : List X) (y : X) → Each P xs → P y → Each P (xs ++ y ∷ [])
each_more P [] y h hy zero x e = let same : y ≡ x = cc in subst P same hy
each_more P [] y h hy (suc i) x e = cc
each_more P (z ∷ xs) y h hy zero x e = h zero x e
each_more P (z ∷ xs) y h hy (suc i) x e = each_more P xs y (λ j. h (suc j)) hy i x e

pub each_first : {X : Type 0} (P : X → Type 0) (y : X) (xs : List X) → P y → Each P xs → Each P (y ∷ xs)
each_first P y xs hy h zero x e = let same : y ≡ x = cc in subst P same hy
each_first P y xs hy h (suc i) x e = h i x e

abbrev AllFit : ℕ → List Ty → Type 0
AllFit types c = Each (λ a. IsTrue (ty_fits types a)) c

-- the numbers met are the table's
abbrev pub Met : Stage → Type 0
Met s = Each (λ k. (e : Aux) × (slice_get s.table k ≡ Some e)) s.met

met_grows : (old new : List Aux) (met : List ℕ) → Grows old new → Met (record { table = old; met = met }) → Met (record { table = new; met = met })
met_grows old new met g h i k e = let had = h i k e in (had.0, ap (λ l. slice_get l k) g.is ∙ within old k had.0 had.1 g.more)

met_more : (table : List Aux) (met : List ℕ) (k : ℕ) (b : Bool) → Met (record { table = table; met = met }) → (e : Aux) × (slice_get table k ≡ Some e) →
    Met (record { table = table; met = if b then met else met ++ k ∷ [] })
met_more table met k true h here = h
met_more table met k false h here = each_more (λ k. (e : Aux) × (slice_get table k ≡ Some e)) met k h here

module _ (sig : Sig) (has_bool : 0 < sig.types) where
  -- ---- a lambda that is lifted out
  entry_alone : (table : List Aux) (a : Ty) (t : Term) (b : Bool) → Each (StandsAlone sig) table → StandsAlone sig (record { ty = a; closed = t }) →
      Each (StandsAlone sig) (if b then table else table ++ record { ty = a; closed = t } ∷ [])
  entry_alone table a t true h here = h
  entry_alone table a t false h here = each_more (StandsAlone sig) table (record { ty = a; closed = t }) h here

  pub with_entry_alone : (table : List Aux) (a : Ty) (t : Term) → Each (StandsAlone sig) table → StandsAlone sig (record { ty = a; closed = t }) → Each (StandsAlone sig) (with_entry table a t)
  with_entry_alone table a t h here = entry_alone table a t (list_any (is_same t) (closed_terms table)) h here

  -- the type of an entry's constant
  pub konst_of_entry : (table : List Aux) (k : ℕ) (e : Aux) → slice_get table k ≡ Some e → StandsAlone sig e → konst_type (over sig table) (konst.Aux k) ≡ Some e.ty
  konst_of_entry table k e at alone =
      ap (fitting sig.types) (slice_get-map (λ e. e.ty) table k ∙ ap (λ o. option_map (λ e. e.ty) o) at) ∙ checked_so sig.types e.ty e.ty (own_type_fits sig has_bool e.closed e.ty alone.typed)

  pub record Kept (a : Ty) (binders : List Ty) (w : Walked) : Type 0 where
    pub alone : Each (StandsAlone sig) w.after.table
    pub met : Met w.after
    pub typed : type_in (over sig w.after.table) w.term binders ≡ Some a
    pub free : IsTrue (var_free w.term)

  fits_at : (binders : List Ty) → AllFit sig.types binders → (v : ℕ) → v < length binders → IsTrue (ty_fits sig.types (ty_at binders v))
  fits_at binders h v l = h v (ty_at binders v) (got_ty binders v l)

  out_kept : (b : Ty) (t : Term) (binders : List Ty) (s : Stage) (a : Ty) → IsTrue (aux_free (lam b t)) → AllFit sig.types binders → Each (StandsAlone sig) s.table → Met s →
      type_in (over sig s.table) (lam b t) binders ≡ Some a → IsTrue (var_free (lam b t)) → Kept a binders (lifted_out sig (lam b t) binders s)
  out_kept b t binders s a clean fit alone met h free =
      let u = lam b t in
      let p = occurs_in u in
      let n = length binders in
      let vs = variables p n in
      let closed = closed_over binders u in
      let whole = arrows (map (ty_at binders) vs) a in
      let typed : type_of_term sig closed ≡ Some whole = closed_typed sig binders u a (fits_at binders fit) (sym (same_type sig s.table u binders clean) ∙ h) in
      let own : own_ty sig closed ≡ whole = ap (λ o. unwrap_or o bool_ty) typed in
      let types = map (ty_at binders) vs in
      let r = lambda_of p n in
      let entry : StandsAlone sig (record { ty = own_ty sig closed; closed = closed }) =
      record {
        typed = typed ∙ ap Some (sym own);
        without_aux = aux_free_lambdas types (renamed r u 0) ∙ aux_free_renamed r u 0 ∙ clean;
        without_free = var_free_lambdas types (renamed r u 0) ∙ var_free_renamed r u 0 ∙ free;
      } in
      let table = with_entry s.table (own_ty sig closed) closed in
      let all = with_entry_alone s.table (own_ty sig closed) closed alone entry in
      let k = place s.table closed in
      let found = entry_found s.table (own_ty sig closed) closed in
      let here = all k found.entry found.at in
      let some : Some found.entry.ty ≡ Some whole = sym here.typed ∙ ap (type_of_term sig) found.closed ∙ typed in
      let ty_is : found.entry.ty ≡ whole = cc in
      record {
        alone = all;
        met = met_more table s.met k (list_any (nat_eq k) s.met) (met_grows s.table table s.met (entry_grows s.table (own_ty sig closed) closed) met) (found.entry, found.at);
        typed =
            applied_typed (over sig table) (ty_at binders) binders vs (con (konst.Aux k)) a (got_variables p (ty_at binders) binders n (got_ty binders))
            (type-con (over sig table) (konst.Aux k) binders ∙ konst_of_entry table k found.entry found.at here ∙ ap Some ty_is);
        free = var_free_applied vs (con (konst.Aux k)) (var_free-con (konst.Aux k));
      }

  -- ---- a walk
  applied_kept : (f x : Term) (binders : List Ty) (s : Stage) (v w : Walked) (a : Ty) → Grows v.after.table w.after.table → (b : Ty) → Kept (function_ty b a) binders v → Kept b binders w →
      Kept a binders (record { term = app v.term w.term; after = w.after })
  applied_kept f x binders s v w a grows b hf hx =
      record {
        alone = hx.alone;
        met = hx.met;
        typed =
            type-app (over sig w.after.table) v.term w.term binders ∙ (λ i. applied (later sig v.after.table w.after.table grows v.term binders (function_ty b a) hf.typed i) (hx.typed i)) ∙ applied_fits b a;
        free = var_free-app v.term w.term ∙ and_true (var_free v.term) (var_free w.term) hf.free hx.free;
      }

  under_kept : (b : Ty) (binders : List Ty) (w : Walked) (c a : Ty) → IsTrue (ty_fits sig.types b) → a ≡ function_ty b c → Kept c (b ∷ binders) w → Kept a binders (record { term = lam b w.term; after = w.after })
  under_kept b binders w c a fits is h =
      record {
        alone = h.alone;
        met = h.met;
        typed =
            type-lam (over sig w.after.table) b w.term binders ∙ under_so sig.types b (type_in (over sig w.after.table) w.term (b ∷ binders)) c h.typed fits ∙ ap Some (sym is);
        free = var_free-lam b w.term ∙ h.free;
      }

  pub lifts_kept : (t : Term) (binders : List Ty) (s : Stage) (w : Walked) → Lifts sig t binders s w → (a : Ty) → AllFit sig.types binders → Each (StandsAlone sig) s.table → Met s →
      type_in (over sig s.table) t binders ≡ Some a → IsTrue (var_free t) → Kept a binders w
  lifts_kept _ _ _ _ (kept_bound i binders s) a fit alone met h free = record { alone = alone; met = met; typed = h; free = free }
  lifts_kept _ _ _ _ (kept_free n b binders s) a fit alone met h free = record { alone = alone; met = met; typed = h; free = free }
  lifts_kept _ _ _ _ (kept_con k binders s) a fit alone met h free = record { alone = alone; met = met; typed = h; free = free }
  lifts_kept _ _ _ _ (out b t binders s clean) a fit alone met h free = out_kept b t binders s a clean fit alone met h free
  lifts_kept _ _ _ _ (of_two f x binders s v w lf lx) a fit alone met h free =
      let from = applied_parts (type_in (over sig s.table) f binders) (type_in (over sig s.table) x binders) a (sym (type-app (over sig s.table) f x binders) ∙ h) in
      let both = both_true (var_free f) (var_free x) (sym (var_free-app f x) ∙ free) in
      let hf = lifts_kept f binders s v lf (function_ty from.0 a) fit alone met from.1.0 both.0 in
      let hx = lifts_kept x binders v.after w lx from.0 fit hf.alone hf.met (later sig s.table v.after.table (lifts_grow sig f binders s v lf) x binders from.0 from.1.1) both.1 in
      applied_kept f x binders s v w a (lifts_grow sig x binders v.after w lx) from.0 hf hx
  lifts_kept _ _ _ _ (beneath b t binders s w l) a fit alone met h free =
      let from = under_parts sig.types b (type_in (over sig s.table) t (b ∷ binders)) a (sym (type-lam (over sig s.table) b t binders) ∙ h) in
      under_kept b binders w from.0 a from.1.1.1 from.1.1.0
      (lifts_kept t (b ∷ binders) s w l from.0 (each_first (λ a. IsTrue (ty_fits sig.types a)) b binders from.1.1.1 fit) alone met from.1.0 (sym (var_free-lam b t) ∙ free))

  -- ---- the equation of an entry
  abbrev Fitting : List Ty → Type 0
  Fitting [] = Unit {0}
  Fitting (a ∷ types) = IsTrue (ty_fits sig.types a) × Fitting types

  arrows_fit : (types : List Ty) (b : Ty) → IsTrue (ty_fits sig.types (arrows types b)) → Fitting types × IsTrue (ty_fits sig.types b)
  arrows_fit [] b h = (tt, h)
  arrows_fit (a ∷ types) b h =
      let both = both_true (ty_fits sig.types a) (ty_fits sig.types (arrows types b)) (sym (ty_fits-arrow sig.types a (arrows types b)) ∙ h) in
      let rest = arrows_fit types b both.1 in
      ((both.0, rest.0), rest.1)

  -- the binders inside, the innermost first
  abbrev onto : List Ty → List Ty → List Ty
  onto [] acc = acc
  onto (a ∷ types) acc = onto types (a ∷ acc)

  record Bodied (types acc : List Ty) (t : Term) (a : Ty) : Type 0 where
    ty : Ty
    typed : type_in sig t (onto types acc) ≡ Some ty
    is : a ≡ arrows types ty

  bodied : (types acc : List Ty) (t : Term) (a : Ty) → type_in sig (lambdas types t) acc ≡ Some a → Bodied types acc t a
  bodied [] acc t a h = record { ty = a; typed = h; is = refl }
  bodied (b ∷ types) acc t a h =
      let from = under_parts sig.types b (type_in sig (lambdas types t) (b ∷ acc)) a (sym (type-lam sig b (lambdas types t) acc) ∙ h) in
      let rest = bodied types (b ∷ acc) t from.0 from.1.0 in
      record { ty = rest.ty; typed = rest.typed; is = from.1.1.0 ∙ ap (function_ty b) rest.is }

  result_is : (types : List Ty) (b : Ty) → result_ty types (arrows types b) ≡ b
  result_is [] b = refl
  result_is (a ∷ types) b = ap (λ o. result_ty types (result_at (function_ty a (arrows types b)) o)) (out-roll-Ty (Ty-F.Arrow a (arrows types b))) ∙ result_is types b

  for_all_typed : (s : Sig) → s.types ≡ sig.types → (types acc : List Ty) (t : Term) → Fitting types → type_in s t (onto types acc) ≡ Some bool_ty → type_in s (for_all types t) acc ≡ Some bool_ty
  for_all_typed s same [] acc t fit h = h
  for_all_typed s same (a ∷ types) acc t fit h =
      let inside = for_all_typed s same types (a ∷ acc) t fit.1 h in
      let fits : IsTrue (ty_fits s.types a) = subst (λ n. IsTrue (ty_fits n a)) (sym same) fit.0 in
      type-app s (con (konst.All a)) (lam a (for_all types t)) acc
      ∙ (λ i. applied ((type-con s (konst.All a) acc ∙ checked_so s.types a (function_ty (function_ty a bool_ty) bool_ty) fits) i)
      ((type-lam s a (for_all types t) acc ∙ under_so s.types a (type_in s (for_all types t) (a ∷ acc)) bool_ty inside fits) i))
      ∙ applied_fits (function_ty a bool_ty) bool_ty

  equal_typed : (s : Sig) (b : Ty) (l r : Term) (c : List Ty) → IsTrue (ty_fits s.types b) → type_in s l c ≡ Some b → type_in s r c ≡ Some b → type_in s (with_two (konst.Eq b) l r) c ≡ Some bool_ty
  equal_typed s b l r c fits hl hr =
      let half : type_in s (app (con (konst.Eq b)) l) c ≡ Some (function_ty b bool_ty) =
      type-app s (con (konst.Eq b)) l c ∙ (λ i. applied ((type-con s (konst.Eq b) c ∙ checked_so s.types b (function_ty b (function_ty b bool_ty)) fits) i) (hl i)) ∙ applied_fits b (function_ty b bool_ty) in
      type-app s (app (con (konst.Eq b)) l) r c ∙ (λ i. applied (half i) (hr i)) ∙ applied_fits b bool_ty

  onto_at : (types acc : List Ty) (j : ℕ) → slice_get (onto types acc) (length types + j) ≡ slice_get acc j
  onto_at [] acc j = let none : 0 + j ≡ j = omega arith in ap (slice_get acc) none
  onto_at (a ∷ types) acc j =
      let next : suc (length types) + j ≡ length types + suc j = omega arith in ap (slice_get (onto types (a ∷ acc))) next ∙ onto_at types (a ∷ acc) (suc j)

  spine_typed : (s : Sig) (types acc : List Ty) (f : Term) (b : Ty) → type_in s f (onto types acc) ≡ Some (arrows types b) → type_in s (applied_to f (variables (λ v. true) (length types))) (onto types acc) ≡ Some b
  spine_typed s [] acc f b h = h
  spine_typed s (a ∷ types) acc f b h =
      let m = length types in
      let c = onto types (a ∷ acc) in
      let whole : m ≡ m + 0 = omega arith in
      let here : slice_get c m ≡ Some a = ap (slice_get c) whole ∙ onto_at types (a ∷ acc) 0 in
      spine_typed s types (a ∷ acc) (app f (bound m)) b (type-app s f (bound m) c ∙ (λ i. applied (h i) ((type-bound s m c ∙ here) i)) ∙ applied_fits a (arrows types b))

  var_free_all : (types : List Ty) (t : Term) → IsTrue (var_free t) → IsTrue (var_free (for_all types t))
  var_free_all [] t h = h
  var_free_all (a ∷ types) t h =
      var_free-app (con (konst.All a)) (lam a (for_all types t))
      ∙ and_true (var_free (con (konst.All a))) (var_free (lam a (for_all types t))) (var_free-con (konst.All a)) (var_free-lam a (for_all types t) ∙ var_free_all types t h)

  var_free_equal : (b : Ty) (l r : Term) → IsTrue (var_free l) → IsTrue (var_free r) → IsTrue (var_free (with_two (konst.Eq b) l r))
  var_free_equal b l r hl hr =
      var_free-app (app (con (konst.Eq b)) l) r
      ∙ and_true (var_free (app (con (konst.Eq b)) l)) (var_free r) (var_free-app (con (konst.Eq b)) l ∙ and_true (var_free (con (konst.Eq b))) (var_free l) (var_free-con (konst.Eq b)) hl) hr

  module _ (table : List Aux) (k : ℕ) (e : Aux) (at : slice_get table k ≡ Some e) (alone : StandsAlone sig e) where
    equation_typed : type_in (over sig table) (equation k e) [] ≡ Some bool_ty
    equation_typed =
        let types = run e.closed in
        let body = behind types e.closed in
        let s = over sig table in
        let clean : IsTrue (aux_free body) = subst IsTrue (ap aux_free (sym (run_behind e.closed)) ∙ aux_free_lambdas types body) alone.without_aux in
        let from = bodied types [] body e.ty (ap (λ t. type_in sig t []) (run_behind e.closed) ∙ alone.typed) in
        let fits = arrows_fit types from.ty (subst (λ a. IsTrue (ty_fits sig.types a)) from.is (own_type_fits sig has_bool e.closed e.ty alone.typed)) in
        let result : result_ty types e.ty ≡ from.ty = ap (result_ty types) from.is ∙ result_is types from.ty in
        let c = onto types [] in
        let left = spine_typed s types [] (con (konst.Aux k)) from.ty (type-con s (konst.Aux k) c ∙ konst_of_entry table k e at alone ∙ ap Some from.is) in
        let right = same_type sig table body c clean ∙ from.typed in
        ap (λ b. type_in s (for_all types (with_two (konst.Eq b) (applied_to_all (konst.Aux k) (length types)) body)) []) result
        ∙ for_all_typed s refl types [] (with_two (konst.Eq from.ty) (applied_to_all (konst.Aux k) (length types)) body) fits.0
        (equal_typed s from.ty (applied_to_all (konst.Aux k) (length types)) body c fits.1 left right)

    equation_free : IsTrue (var_free (equation k e))
    equation_free =
        let types = run e.closed in
        let body = behind types e.closed in
        let clean : IsTrue (var_free body) = subst IsTrue (ap var_free (sym (run_behind e.closed)) ∙ var_free_lambdas types body) alone.without_free in
        var_free_all types _
        (var_free_equal (result_ty types e.ty) (applied_to_all (konst.Aux k) (length types)) body (var_free_applied (variables (λ v. true) (length types)) (con (konst.Aux k)) (var_free-con (konst.Aux k))) clean)

  pub equation_kept : (k : ℕ) (s : Stage) (e : Aux) → slice_get s.table k ≡ Some e → Each (StandsAlone sig) s.table → Met s → Kept bool_ty [] (lifted_equation sig k s)
  unfolding lifted_formula
  equation_kept k s e at alone met =
      let entry : entry_at s.table k ≡ e = ap (λ o. unwrap_or o no_entry) at in
      let here = alone k e at in
      subst (λ q. Kept bool_ty [] ((reading sig (equation k q)).formula [] s)) (sym entry)
      (lifts_kept (equation k e) [] s ((reading sig (equation k e)).formula [] s) (equation_right sig k e here.without_aux [] s) bool_ty (λ i a q. cc) alone met
      (equation_typed s.table k e at here) (equation_free s.table k e at here))

  -- ---- over the table at the end
  pub stands_over : (old new : List Aux) (t : Term) → Grows old new → type_in (over sig old) t [] ≡ Some bool_ty → IsTrue (var_free t) → StandsOver sig new t
  stands_over old new t grows h free =
      let typed = later sig old new grows t [] bool_ty h in record { typed = typed; closed = typed_closed (over sig new) t [] bool_ty typed; without_free = free; known = typed_known sig new t [] bool_ty typed }

  record Ended (q : Equated) : Type 0 where
    alone : Each (StandsAlone sig) q.table
    equations : Each (StandsOver sig q.table) q.equations

  next_ended : (most at : ℕ) (s : Stage) (o : Option ℕ) → slice_get s.met at ≡ o → Each (StandsAlone sig) s.table → Met s →
      ((q : Stage) → Each (StandsAlone sig) q.table → Met q → Ended (equated sig most (at + 1) q)) → Ended (next_equation sig s (equated sig most (at + 1)) o)
  next_ended most at s None e alone met rest = record { alone = alone; equations = λ i x q. cc }
  next_ended most at s (Some k) e alone met rest =
      let had = met at k e in
      let w = lifted_equation sig k s in
      let kept = equation_kept k s had.0 had.1 alone met in
      let after = rest w.after kept.alone kept.met in
      let end = equated sig most (at + 1) w.after in
      record {
        alone = after.alone;
        equations =
            each_first (StandsOver sig end.table) w.term end.equations (stands_over w.after.table end.table w.term (equated_grows sig most (at + 1) w.after) kept.typed kept.free) after.equations;
      }

  equated_ended : (most at : ℕ) (s : Stage) → Each (StandsAlone sig) s.table → Met s → Ended (equated sig most at s)
  unfolding equated
  equated_ended zero at s alone met = record { alone = alone; equations = λ i x q. cc }
  equated_ended (suc most) at s alone met = next_ended most at s (slice_get s.met at) refl alone met (equated_ended most (at + 1))

  pub lifted_stand : (table : List Aux) (t : Term) → Each (StandsAlone sig) table → IsSentence sig t → Stands sig table t
  unfolding lifted lifted_formula
  lifted_stand table t alone sentence =
      let formula = sentence_formula sig t sentence in
      let clean = formula_aux_free sig t formula in
      let s : Stage = record { table = table; met = [] } in
      let w = (reading sig t).formula [] s in
      let end = equated sig (2 ^ 64 - 1) 0 w.after in
      let kept = lifts_kept t [] s w ((reads sig t clean).formula [] s) bool_ty (λ i a q. cc) alone (λ i a q. cc) (same_type sig table t [] clean ∙ formula_typed sig t formula) (sentence_var_free sig t sentence) in
      let ended = equated_ended (2 ^ 64 - 1) 0 w.after kept.alone kept.met in
      let grows = equated_grows sig (2 ^ 64 - 1) 0 w.after in
      let all = grows_trans table w.after.table end.table (formula_lifted_grows sig t s) grows in
      record {
        more = all.more;
        grown = all.is;
        entries = ended.alone;
        body = stands_over w.after.table end.table w.term grows kept.typed kept.free;
        equations = ended.equations;
      }
