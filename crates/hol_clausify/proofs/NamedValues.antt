-- The value that stands for a chosen one: its type, and the equation that names it.
use Rattle.std.proofs.Common.{◌≡◌, ℕ, IsTrue, List, [], ◌∷◌, map, ap, subst, refl, sym, ◌∙◌, Some}
use Rattle.std.specs.Prelude.{Option}
use Rattle.std.specs.declared.cmp.Ordering.{Ordering}
use Rattle.std.specs.declared.cmp.Ordering.TheVariants.{Less, Equal, Greater}
use Rattle.std.specs.Ordering.{nat_cmp, match_ordering}
use Rattle.std.specs.BTreeMap.{insert_entry}
use Rattle.hol_terms.specs.declared.ty.Ty.{Ty}
use Rattle.hol_terms.specs.declared.sig.Sig.{Sig}
use Rattle.hol_terms.specs.declared.konst.Konst.{Konst}
use Rattle.hol_terms.specs.declared.konst.Konst.TheVariants as konst
use Rattle.hol_terms.specs.declared.term.Term.{Term}
use Rattle.hol_terms.specs.Types.{bool_ty, function_ty, ty_fits}
use Rattle.hol_terms.specs.Typing.{type_in, type_of_term}
use Rattle.hol_terms.specs.Formulas.{IsFormula, aux_free}
use Rattle.hol_terms.specs.Substitution.{is_closed}
use Rattle.hol_terms.proofs.TermCases.{by_cases}
use Rattle.hol_terms.proofs.Closed.{typed_closed}
use Rattle.hol_terms.proofs.Equations.{type-free, type-app, type-lam, aux_free-free}
use Rattle.hol_terms.proofs.TypedParts.{applied_parts, under_parts, checked_some}
use Rattle.kernel_rules.specs.Connectives.{constant, apply, lambda, equal, some, chosen}
use Rattle.kernel_rules.proofs.TypedTerms.{some_property, chosen_aux_free, lambda_over_aux_free, apply_aux_free, equal_formula}
use Rattle.hol_kernel.specs.Conditions.{IsGiven}
use Rattle.hol_derived.specs.Contractions.{contracted_at, contracted_along}
use Rattle.hol_derived.proofs.ContextLaws.{given_from}
use Rattle.hol_derived.proofs.PathLaws.{at_app}
use Rattle.hol_derived.proofs.PutPut.{bound}
use Rattle.hol_refutations.proofs.Named.{chosen_has_type}
use Rattle.formula_clauses.specs.Choices.{Variable, variables, variables_with, closed_over, applied_to}
use Rattle.hol_clausify.specs.Laws.{AllFit, head_paths}
use Rattle.hol_clausify.specs.Refutations.{chosen_value}
use Rattle.hol_clausify.proofs.Opening.{free}
use Rattle.hol_clausify.proofs.Occurring.{with-bound, with-free, with-con, with-app, with-lam}
use Rattle.hol_clausify.proofs.ClosedTypes.{closed_over_typed}
use Rattle.hol_clausify.proofs.Chosen.{reopened}

-- ---- the variables of a typed term have types of the signature
module _ (sig : Sig) where
  fit_as : (vs rs : List Variable) → vs ≡ rs → AllFit sig.types rs → AllFit sig.types vs
  fit_as vs rs e h = subst (AllFit sig.types) (sym e) h

  insert_at : (v : Variable) (vs rs : List Variable) (n : ℕ) (a : Ty) (o : Ordering) → AllFit sig.types (v ∷ vs) → IsTrue (ty_fits sig.types a) → AllFit sig.types rs →
      AllFit sig.types (match_ordering o ((n, a) ∷ v ∷ vs) ((v.0, a) ∷ vs) (v ∷ rs))
  insert_at v vs rs n a Less h k r = (k, h)
  insert_at v vs rs n a Equal h k r = (k, h.1)
  insert_at v vs rs n a Greater h k r = (h.0, r)

  insert_fits : (vs : List Variable) (n : ℕ) (a : Ty) → AllFit sig.types vs → IsTrue (ty_fits sig.types a) → AllFit sig.types (insert_entry nat_cmp vs n a)
  insert_fits [] n a h k = (k, tt)
  insert_fits (v ∷ vs) n a h k = insert_at v vs (insert_entry nat_cmp vs n a) n a (nat_cmp n v.0) h k (insert_fits vs n a h.1 k)

  abbrev Fit : Term → Type 0
  Fit t = (c : List Ty) (a : Ty) (vs : List Variable) → type_in sig t c ≡ Some a → AllFit sig.types vs → AllFit sig.types (variables_with t vs)

  fit_free : (n : ℕ) (b : Ty) → Fit (free n b)
  fit_free n b c a vs h k =
      fit_as (variables_with (free n b) vs) (insert_entry nat_cmp vs n b) (with-free n b vs)
      (insert_fits vs n b k (checked_some sig.types b b a (sym (type-free sig n b c) ∙ h)).0)

  fit_app : (f x : Term) → Fit f → Fit x → Fit (apply f x)
  fit_app f x hf hx c a vs h k =
      let from = applied_parts (type_in sig f c) (type_in sig x c) a (sym (type-app sig f x c) ∙ h) in
      let us = variables_with f vs in
      fit_as (variables_with (apply f x) vs) (variables_with x us) (with-app f x vs) (hx c from.0 us from.1.1 (hf c (function_ty from.0 a) vs from.1.0 k))

  fit_lam : (b : Ty) (t : Term) → Fit t → Fit (lambda b t)
  fit_lam b t ht c a vs h k =
      let from = under_parts sig.types b (type_in sig t (b ∷ c)) a (sym (type-lam sig b t c) ∙ h) in
      fit_as (variables_with (lambda b t) vs) (variables_with t vs) (with-lam b t vs) (ht (b ∷ c) from.0 vs from.1.0 k)

  fit : (t : Term) → Fit t
  fit =
      by_cases Fit (λ i c a vs h k. fit_as (variables_with (bound i) vs) vs (with-bound i vs) k) fit_free
      (λ c b a vs h k. fit_as (variables_with (constant c) vs) vs (with-con c vs) k) fit_app fit_lam

  pub variables_fit : (t : Term) (a : Ty) → type_of_term sig t ≡ Some a → AllFit sig.types (variables t)
  variables_fit t a h = fit t [] a [] h tt

-- ---- no auxiliary constant comes in
module _ (sig : Sig) where
  closed_aux_free : (vs : List Variable) (t : Term) → IsTrue (aux_free t) → IsTrue (aux_free (closed_over vs t))
  closed_aux_free [] t h = h
  closed_aux_free (v ∷ vs) t h = lambda_over_aux_free sig v.0 v.1 (closed_over vs t) (closed_aux_free vs t h)

  applied_aux_free : (f : Term) (vs : List Variable) → IsTrue (aux_free f) → IsTrue (aux_free (applied_to f vs))
  applied_aux_free f [] h = h
  applied_aux_free f (v ∷ vs) h = applied_aux_free (apply f (free v.0 v.1)) vs (apply_aux_free sig f (free v.0 v.1) h (aux_free-free v.0 v.1))

-- ---- contractions in the right side of an equation
pub along_right : (paths : List (List ℕ)) (g x : Term) → contracted_along (map (λ p. 1 ∷ p) paths) (apply g x) ≡ apply g (contracted_along paths x)
along_right [] g x = refl
along_right (p ∷ ps) g x = ap (contracted_along (map (λ q. 1 ∷ q) ps)) (at_app 1 p g x) ∙ along_right ps g (contracted_at p x)

-- ---- the equation of a chosen value
module _ (sig : Sig) (a : Ty) (f : Term) (whole : IsFormula sig (some a f)) where
  abbrev c : Term
  c = chosen a f

  parts : IsTrue (ty_fits sig.types a) × ((type_of_term sig f ≡ Some (function_ty a bool_ty)) × IsTrue (aux_free f))
  parts = some_property sig a f whole

  c_typed : type_of_term sig c ≡ Some a
  c_typed = chosen_has_type sig a f whole

  c_aux_free : IsTrue (aux_free c)
  c_aux_free = chosen_aux_free sig a f parts.1.1

  value_typed : type_of_term sig (chosen_value a f) ≡ Some a
  value_typed = (closed_over_typed sig (variables f) c a (variables_fit sig f (function_ty a bool_ty) parts.1.0) c_typed).1

  value_aux_free : IsTrue (aux_free (chosen_value a f))
  value_aux_free = applied_aux_free sig (closed_over (variables f) c) (variables f) (closed_aux_free sig (variables f) c c_aux_free)

  pub value_given : IsGiven sig (chosen_value a f) a
  value_given = given_from sig (chosen_value a f) a value_typed value_aux_free

  pub naming_formula : IsFormula sig (equal a c (chosen_value a f))
  naming_formula = equal_formula sig a c (chosen_value a f) parts.0 c_typed value_typed c_aux_free value_aux_free

  c_closed : IsTrue (is_closed c)
  c_closed = typed_closed sig c [] a c_typed

  pub naming_contracted : contracted_along (map (λ p. 1 ∷ p) (head_paths (variables f))) (equal a c (chosen_value a f)) ≡ equal a c c
  naming_contracted =
      along_right (head_paths (variables f)) (apply (constant (konst.Eq a)) c) (chosen_value a f) ∙ ap (equal a c) (reopened (variables f) c c_closed)
