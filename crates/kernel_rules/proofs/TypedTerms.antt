-- The types of terms made with the logical constants.
use Rattle.std.proofs.Common.{◌≡◌, ℕ, ◌<◌, Bool, true, false, ◌&&◌, if◌then◌else◌, IsTrue, refl, sym, ◌∙◌, ap, subst, List, [], ◌∷◌, Some, None}
use Rattle.std.specs.Prelude.{Option}
use Rattle.hol_terms.specs.declared.ty.Ty.{Ty}
use Rattle.hol_terms.specs.declared.konst.Konst.{Konst}
use Rattle.hol_terms.specs.declared.konst.Konst.TheVariants as konst
use Rattle.hol_terms.specs.declared.sig.Sig.{Sig}
use Rattle.hol_terms.specs.declared.term.Term.{Term}
use Rattle.hol_terms.specs.Types.{bool_ty, function_ty, ty_fits}
use Rattle.hol_terms.specs.Typing.{type_in, type_of_term, konst_type, applied, checked, under}
use Rattle.hol_terms.specs.Substitution.{instantiated, abstracted, abstracted_at}
use Rattle.hol_terms.specs.Formulas.{aux_free, no_aux, IsFormula}
use Rattle.hol_terms.proofs.Both.{both_true, and_true}
use Rattle.hol_terms.proofs.Equations.{type-app, type-con, type-lam, aux_free-app, aux_free-con, aux_free-lam}
use Rattle.hol_terms.proofs.Substitutes.{type_put}
use Rattle.hol_terms.proofs.Abstracts.{type_abstracted}
use Rattle.hol_terms.proofs.TypedParts.{applied_parts, applied_fits, function_parts, checked_some, checked_so, under_parts, under_so, own_type_fits, bool_fits}
use Rattle.hol_terms.proofs.Formulas.{formula_typed, formula_aux_free, formula_from, aux_free_put, aux_free_abstracted}
use Rattle.kernel_rules.specs.Connectives.{constant, apply, lambda, lambda_over, neg, conj, disj, imp, equal, all, some, chosen, applied_to, body_of, is_lambda}
use Rattle.kernel_rules.proofs.Parts.{lambda_is}

some_same : {X : Type 0} (x y : X) → Some x ≡ Some y → x ≡ y
some_same x y h = cc

module _ (sig : Sig) where
  -- ---- making
  pub apply_typed : (f x : Term) (a b : Ty) → type_of_term sig f ≡ Some (function_ty a b) → type_of_term sig x ≡ Some a → type_of_term sig (apply f x) ≡ Some b
  apply_typed f x a b hf hx = type-app sig f x [] ∙ (λ i. applied (hf i) (hx i)) ∙ applied_fits a b

  pub constant_typed : (k : Konst) (a : Ty) → konst_type sig k ≡ Some a → type_of_term sig (constant k) ≡ Some a
  constant_typed k a h = type-con sig k [] ∙ h

  one_typed : (k : Konst) (x : Term) (a b : Ty) → konst_type sig k ≡ Some (function_ty a b) → type_of_term sig x ≡ Some a → type_of_term sig (apply (constant k) x) ≡ Some b
  one_typed k x a b hk hx = apply_typed (constant k) x a b (constant_typed k (function_ty a b) hk) hx

  two_typed : (k : Konst) (x y : Term) (a b c : Ty) → konst_type sig k ≡ Some (function_ty a (function_ty b c)) → type_of_term sig x ≡ Some a → type_of_term sig y ≡ Some b →
      type_of_term sig (apply (apply (constant k) x) y) ≡ Some c
  two_typed k x y a b c hk hx hy = apply_typed (apply (constant k) x) y b c (one_typed k x a (function_ty b c) hk hx) hy

  pub apply_aux_free : (f x : Term) → IsTrue (aux_free f) → IsTrue (aux_free x) → IsTrue (aux_free (apply f x))
  apply_aux_free f x hf hx = aux_free-app f x ∙ and_true (aux_free f) (aux_free x) hf hx

  two_aux_free : (k : Konst) (x y : Term) → no_aux k ≡ true → IsTrue (aux_free x) → IsTrue (aux_free y) → IsTrue (aux_free (apply (apply (constant k) x) y))
  two_aux_free k x y hk hx hy = apply_aux_free (apply (constant k) x) y (apply_aux_free (constant k) x (aux_free-con k ∙ hk) hx) hy

  pub binary_formula : (k : Konst) (x y : Term) → konst_type sig k ≡ Some (function_ty bool_ty (function_ty bool_ty bool_ty)) → no_aux k ≡ true → IsFormula sig x → IsFormula sig y →
      IsFormula sig (apply (apply (constant k) x) y)
  binary_formula k x y hk clean hx hy =
      formula_from sig (apply (apply (constant k) x) y) (two_typed k x y bool_ty bool_ty bool_ty hk (formula_typed sig x hx) (formula_typed sig y hy))
      (two_aux_free k x y clean (formula_aux_free sig x hx) (formula_aux_free sig y hy))

  pub conj_formula : (x y : Term) → IsFormula sig x → IsFormula sig y → IsFormula sig (conj x y)
  conj_formula x y hx hy = binary_formula konst.And x y refl refl hx hy

  pub disj_formula : (x y : Term) → IsFormula sig x → IsFormula sig y → IsFormula sig (disj x y)
  disj_formula x y hx hy = binary_formula konst.Or x y refl refl hx hy

  pub imp_formula : (x y : Term) → IsFormula sig x → IsFormula sig y → IsFormula sig (imp x y)
  imp_formula x y hx hy = binary_formula konst.Imp x y refl refl hx hy

  pub neg_formula : (x : Term) → IsFormula sig x → IsFormula sig (neg x)
  neg_formula x hx =
      formula_from sig (neg x) (one_typed konst.Not x bool_ty bool_ty refl (formula_typed sig x hx)) (apply_aux_free (constant konst.Not) x (aux_free-con konst.Not) (formula_aux_free sig x hx))

  pub constant_formula : (k : Konst) → konst_type sig k ≡ Some bool_ty → no_aux k ≡ true → IsFormula sig (constant k)
  constant_formula k hk clean = formula_from sig (constant k) (constant_typed k bool_ty hk) (aux_free-con k ∙ clean)

  pub equal_formula : (a : Ty) (s t : Term) → IsTrue (ty_fits sig.types a) → type_of_term sig s ≡ Some a → type_of_term sig t ≡ Some a → IsTrue (aux_free s) → IsTrue (aux_free t) → IsFormula sig (equal a s t)
  equal_formula a s t fits hs ht cs ct =
      formula_from sig (equal a s t) (two_typed (konst.Eq a) s t a a bool_ty (checked_so sig.types a (function_ty a (function_ty a bool_ty)) fits) hs ht) (two_aux_free (konst.Eq a) s t refl cs ct)

  pub all_formula : (a : Ty) (f : Term) → IsTrue (ty_fits sig.types a) → type_of_term sig f ≡ Some (function_ty a bool_ty) → IsTrue (aux_free f) → IsFormula sig (all a f)
  all_formula a f fits hf cf =
      formula_from sig (all a f) (one_typed (konst.All a) f (function_ty a bool_ty) bool_ty (checked_so sig.types a (function_ty (function_ty a bool_ty) bool_ty) fits) hf)
      (apply_aux_free (constant (konst.All a)) f (aux_free-con (konst.All a)) cf)

  pub some_formula : (a : Ty) (f : Term) → IsTrue (ty_fits sig.types a) → type_of_term sig f ≡ Some (function_ty a bool_ty) → IsTrue (aux_free f) → IsFormula sig (some a f)
  some_formula a f fits hf cf =
      formula_from sig (some a f) (one_typed (konst.Ex a) f (function_ty a bool_ty) bool_ty (checked_so sig.types a (function_ty (function_ty a bool_ty) bool_ty) fits) hf)
      (apply_aux_free (constant (konst.Ex a)) f (aux_free-con (konst.Ex a)) cf)

  pub chosen_typed : (a : Ty) (f : Term) → IsTrue (ty_fits sig.types a) → type_of_term sig f ≡ Some (function_ty a bool_ty) → type_of_term sig (chosen a f) ≡ Some a
  chosen_typed a f fits hf = one_typed (konst.Eps a) f (function_ty a bool_ty) a (checked_so sig.types a (function_ty (function_ty a bool_ty) a) fits) hf

  pub chosen_aux_free : (a : Ty) (f : Term) → IsTrue (aux_free f) → IsTrue (aux_free (chosen a f))
  chosen_aux_free a f cf = apply_aux_free (constant (konst.Eps a)) f (aux_free-con (konst.Eps a)) cf

  -- the lambda over a variable, of a term of any type
  pub lambda_over_typed : (n : ℕ) (a c : Ty) (t : Term) → IsTrue (ty_fits sig.types a) → type_of_term sig t ≡ Some c → type_of_term sig (lambda_over n a t) ≡ Some (function_ty a c)
  lambda_over_typed n a c t fits ht =
      type-lam sig a (abstracted n a t) [] ∙ under_so sig.types a (type_in sig (abstracted n a t) (a ∷ [])) c (type_abstracted sig n a fits t [] [] ∙ ht) fits

  pub lambda_over_aux_free : (n : ℕ) (a : Ty) (t : Term) → IsTrue (aux_free t) → IsTrue (aux_free (lambda_over n a t))
  lambda_over_aux_free n a t ct = aux_free-lam a (abstracted n a t) ∙ aux_free_abstracted n a t 0 ct

  -- ---- taking apart
  pub apply_parts : (f x : Term) (b : Ty) → type_of_term sig (apply f x) ≡ Some b → (a : Ty) × ((type_of_term sig f ≡ Some (function_ty a b)) × (type_of_term sig x ≡ Some a))
  apply_parts f x b h = applied_parts (type_of_term sig f) (type_of_term sig x) b (sym (type-app sig f x []) ∙ h)

  pub apply_parts_aux_free : (f x : Term) → IsTrue (aux_free (apply f x)) → IsTrue (aux_free f) × IsTrue (aux_free x)
  apply_parts_aux_free f x h = both_true (aux_free f) (aux_free x) (sym (aux_free-app f x) ∙ h)

  two_parts : (k : Konst) (x y : Term) (c : Ty) → type_of_term sig (apply (apply (constant k) x) y) ≡ Some c →
      (a : Ty) × ((b : Ty) × ((konst_type sig k ≡ Some (function_ty a (function_ty b c))) × ((type_of_term sig x ≡ Some a) × (type_of_term sig y ≡ Some b))))
  two_parts k x y c h =
      let outer = apply_parts (apply (constant k) x) y c h in
      let inner = apply_parts (constant k) x (function_ty outer.0 c) outer.1.0 in
      (inner.0, (outer.0, (sym (type-con sig k []) ∙ inner.1.0, (inner.1.1, outer.1.1))))

  one_parts : (k : Konst) (x : Term) (c : Ty) → type_of_term sig (apply (constant k) x) ≡ Some c → (a : Ty) × ((konst_type sig k ≡ Some (function_ty a c)) × (type_of_term sig x ≡ Some a))
  one_parts k x c h = let parts = apply_parts (constant k) x c h in (parts.0, (sym (type-con sig k []) ∙ parts.1.0, parts.1.1))

  two_parts_aux_free : (k : Konst) (x y : Term) → IsTrue (aux_free (apply (apply (constant k) x) y)) → IsTrue (aux_free x) × IsTrue (aux_free y)
  two_parts_aux_free k x y h =
      let outer = apply_parts_aux_free (apply (constant k) x) y h in ((apply_parts_aux_free (constant k) x outer.0).1, outer.1)

  pub binary_sides : (k : Konst) (x y : Term) → konst_type sig k ≡ Some (function_ty bool_ty (function_ty bool_ty bool_ty)) → IsFormula sig (apply (apply (constant k) x) y) → IsFormula sig x × IsFormula sig y
  binary_sides k x y hk h =
      let parts = two_parts k x y bool_ty (formula_typed sig (apply (apply (constant k) x) y) h) in
      let free = two_parts_aux_free k x y (formula_aux_free sig (apply (apply (constant k) x) y) h) in
      let same = some_same _ _ (sym hk ∙ parts.1.1.0) in
      let outer = function_parts bool_ty (function_ty bool_ty bool_ty) parts.0 (function_ty parts.1.0 bool_ty) same in
      let inner = function_parts bool_ty bool_ty parts.1.0 bool_ty outer.1 in
      (formula_from sig x (parts.1.1.1.0 ∙ ap (λ z. Some z) (sym outer.0)) free.0, formula_from sig y (parts.1.1.1.1 ∙ ap (λ z. Some z) (sym inner.0)) free.1)

  -- of an equation: the sides have its type, which is one of the signature
  pub equal_sides : (a : Ty) (s t : Term) → IsFormula sig (equal a s t) → IsTrue (ty_fits sig.types a) × ((type_of_term sig s ≡ Some a) × (type_of_term sig t ≡ Some a))
  equal_sides a s t h =
      let parts = two_parts (konst.Eq a) s t bool_ty (formula_typed sig (equal a s t) h) in
      let own = checked_some sig.types a (function_ty a (function_ty a bool_ty)) _ parts.1.1.0 in
      let outer = function_parts a (function_ty a bool_ty) parts.0 (function_ty parts.1.0 bool_ty) own.1 in
      let inner = function_parts a bool_ty parts.1.0 bool_ty outer.1 in
      (own.0, (parts.1.1.1.0 ∙ ap (λ z. Some z) (sym outer.0), parts.1.1.1.1 ∙ ap (λ z. Some z) (sym inner.0)))

  pub equal_aux_free : (a : Ty) (s t : Term) → IsFormula sig (equal a s t) → IsTrue (aux_free s) × IsTrue (aux_free t)
  equal_aux_free a s t h = two_parts_aux_free (konst.Eq a) s t (formula_aux_free sig (equal a s t) h)

  quantified : (k : Konst) (a : Ty) (f : Term) → konst_type sig k ≡ checked sig.types a (function_ty (function_ty a bool_ty) bool_ty) → IsFormula sig (apply (constant k) f) →
      IsTrue (ty_fits sig.types a) × ((type_of_term sig f ≡ Some (function_ty a bool_ty)) × IsTrue (aux_free f))
  quantified k a f hk h =
      let parts = one_parts k f bool_ty (formula_typed sig (apply (constant k) f) h) in
      let own = checked_some sig.types a (function_ty (function_ty a bool_ty) bool_ty) _ (sym hk ∙ parts.1.0) in
      let same = function_parts (function_ty a bool_ty) bool_ty parts.0 bool_ty own.1 in
      (own.0, (parts.1.1 ∙ ap (λ z. Some z) (sym same.0), (apply_parts_aux_free (constant k) f (formula_aux_free sig (apply (constant k) f) h)).1))

  -- the property that a quantifier is put to
  pub all_property : (a : Ty) (f : Term) → IsFormula sig (all a f) → IsTrue (ty_fits sig.types a) × ((type_of_term sig f ≡ Some (function_ty a bool_ty)) × IsTrue (aux_free f))
  all_property a f h = quantified (konst.All a) a f refl h

  pub some_property : (a : Ty) (f : Term) → IsFormula sig (some a f) → IsTrue (ty_fits sig.types a) × ((type_of_term sig f ≡ Some (function_ty a bool_ty)) × IsTrue (aux_free f))
  some_property a f h = quantified (konst.Ex a) a f refl h

  -- ---- `f@t`
  body_typed : (c a b : Ty) (t : Term) → type_of_term sig (lambda c t) ≡ Some (function_ty a b) → type_in sig t (a ∷ []) ≡ Some b
  body_typed c a b t h =
      let parts = under_parts sig.types c (type_in sig t (c ∷ [])) (function_ty a b) (sym (type-lam sig c t []) ∙ h) in
      let same = function_parts a b c parts.0 parts.1.1.0 in
      ap (λ z. type_in sig t (z ∷ [])) same.0 ∙ parts.1.0 ∙ ap (λ z. Some z) (sym same.1)

  applied_typed_at : (f t : Term) (a b : Ty) (here : Bool) → is_lambda f ≡ here → type_of_term sig f ≡ Some (function_ty a b) → type_of_term sig t ≡ Some a →
      type_of_term sig (if here then instantiated (body_of f) t else apply f t) ≡ Some b
  applied_typed_at f t a b true e hf ht =
      let own = lambda_is f e in
      type_put sig t a ht (body_of f) [] [] ∙ body_typed own.0 a b (body_of f) (sym (ap (type_of_term sig) own.1) ∙ hf)
  applied_typed_at f t a b false e hf ht = apply_typed f t a b hf ht

  pub applied_typed : (f t : Term) (a b : Ty) → type_of_term sig f ≡ Some (function_ty a b) → type_of_term sig t ≡ Some a → type_of_term sig (applied_to f t) ≡ Some b
  unfolding applied_to
  applied_typed f t a b hf ht = applied_typed_at f t a b (is_lambda f) refl hf ht

  applied_aux_free_at : (f t : Term) (here : Bool) → is_lambda f ≡ here → IsTrue (aux_free f) → IsTrue (aux_free t) → IsTrue (aux_free (if here then instantiated (body_of f) t else apply f t))
  applied_aux_free_at f t true e hf ht =
      let own = lambda_is f e in
      aux_free_put t ht (body_of f) 0 (sym (aux_free-lam own.0 (body_of f)) ∙ sym (ap aux_free own.1) ∙ hf)
  applied_aux_free_at f t false e hf ht = apply_aux_free f t hf ht

  pub applied_aux_free : (f t : Term) → IsTrue (aux_free f) → IsTrue (aux_free t) → IsTrue (aux_free (applied_to f t))
  unfolding applied_to
  applied_aux_free f t hf ht = applied_aux_free_at f t (is_lambda f) refl hf ht

  -- a property put to a value of its type is a formula
  pub applied_formula : (f t : Term) (a : Ty) → type_of_term sig f ≡ Some (function_ty a bool_ty) → type_of_term sig t ≡ Some a → IsTrue (aux_free f) → IsTrue (aux_free t) → IsFormula sig (applied_to f t)
  applied_formula f t a hf ht cf ct = formula_from sig (applied_to f t) (applied_typed f t a bool_ty hf ht) (applied_aux_free f t cf ct)
