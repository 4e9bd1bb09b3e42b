-- Typed variables of terms, gathered one after another.
use Rattle.std.proofs.Common.{◌≡◌, ℕ, ◌+◌, ◌<◌, Bool, true, false, ◌||◌, ◌==◌, if◌then◌else◌, List, [], ◌∷◌, ◌++◌, map, take, length, get_or, refl, sym, ap, subst, ◌∙◌, inl, inr, Option, Some, None}
use Rattle.std.specs.Prelude.{Result, OnOk}
use Rattle.std.specs.List.{flat_map, list_any}
use Rattle.std.proofs.lemmas.List.{append-nil, take_more}
use Rattle.std.proofs.lemmas.Grind.{flat_map-append}
use Rattle.hol_terms.specs.declared.ty.Ty.{Ty}
use Rattle.hol_terms.specs.Types.{is_ty}
use Rattle.hol_terms.proofs.Both.{both_true}
use Rattle.hol_terms.proofs.TyCases.{is_ty_same}
use Rattle.fo_terms.specs.declared.term.FoTerm.{FoTerm}
use Rattle.fo_terms.specs.declared.atom.Atom.TheVariants.{Eq}
use Rattle.fo_terms.specs.declared.literal.Literal.{Literal}
use Rattle.fo_terms.specs.Substitution.{var, fun}
use Rattle.fo_terms.specs.Normal.{atom_terms}
use Rattle.fo_terms.specs.inner.Gathered.{added, all_added}
use Rattle.fo_terms.proofs.Gathering.{all_added-append}
use Rattle.fo_terms.proofs.Induction.{Each, by_cases}
use Rattle.fo_terms.proofs.Renaming.{each_append}
use Rattle.fo_terms.proofs.Substitution.{equal_from}
use Rattle.tagged_terms.specs.declared.symbol.Symbol.{Symbol}
use Rattle.tagged_terms.specs.declared.symbol.Symbol.TheVariants.{Tag, Apply, Constant}
use Rattle.tagged_terms.specs.Readings.{Signs}
use Rattle.tagged_lines.specs.declared.variable.TypedVariable.{TypedVariable}
use Rattle.tagged_lines.specs.TypedLiterals.{IsIn}
use Rattle.tagged_lines.specs.Tags.{seen_below, all_below, under_tag, under_symbol, seen, term_variables, terms_variables, literal_variables}
use Rattle.tagged_lines.proofs.Tags.{seen_fun}
use Rattle.clause_instances.specs.inner.Variables.{is_variable}

-- ---- lists

-- one more item's variables
pub gather_more : {A : Type 0} (f : A → List TypedVariable) (start now next : List TypedVariable) (xs : List A) (i : ℕ) (x : A) → i < length xs → x ≡ get_or xs i x
    → now ≡ all_added is_variable start (flat_map f (take i xs)) → next ≡ all_added is_variable now (f x) → next ≡ all_added is_variable start (flat_map f (take (i + 1) xs))
gather_more f start now next xs i x within is so step =
    let whole : flat_map f (take (i + 1) xs) ≡ flat_map f (take i xs) ++ f x =
    ap (flat_map f) (take_more xs i x within) ∙ flat_map-append f (take i xs) (get_or xs i x ∷ []) ∙ ap (λ l. flat_map f (take i xs) ++ l) (append-nil (f (get_or xs i x)) ∙ ap f (sym is)) in
    step ∙ ap (λ l. all_added is_variable l (f x)) so ∙ sym (all_added-append is_variable start (flat_map f (take i xs)) (f x)) ∙ ap (all_added is_variable start) (sym whole)

pub gather_sides : (signs : Signs) (start mid next : List TypedVariable) (l : Literal) (s t : FoTerm) → l.atom ≡ Eq s t → mid ≡ all_added is_variable start (term_variables signs s)
    → next ≡ all_added is_variable mid (term_variables signs t) → next ≡ all_added is_variable start (literal_variables signs l)
gather_sides signs start mid next l s t is first second =
    second ∙ ap (λ m. all_added is_variable m (term_variables signs t)) first ∙ sym (all_added-append is_variable start (term_variables signs s) (term_variables signs t))
    ∙ ap (λ vs. all_added is_variable start (term_variables signs s ++ vs)) (sym (append-nil (term_variables signs t))) ∙ ap (λ a. all_added is_variable start (terms_variables signs (atom_terms a))) (sym is)

-- ---- terms

module _ (signs : Signs) where
  all_below_is : (ts : List FoTerm) → all_below (map (seen signs) ts) ≡ terms_variables signs ts
  all_below_is [] = refl
  all_below_is (t ∷ ts) = ap (λ l. term_variables signs t ++ l) (all_below_is ts)

  no_tag : (o : Option Symbol) (ts : List FoTerm) → ((s : Ty) → o ≡ Some (Tag s) → ⊥) → under_symbol o (map (seen signs) ts) ≡ terms_variables signs ts
  no_tag None ts h = all_below_is ts
  no_tag (Some (Tag s)) ts h = absurd (h s refl)
  no_tag (Some Apply) ts h = all_below_is ts
  no_tag (Some (Constant d s)) ts h = all_below_is ts

  lone : (s : Ty) (t : FoTerm) → ((x : ℕ) → t ∷ [] ≡ var x ∷ [] → ⊥) → under_tag s (seen signs t ∷ []) ≡ terms_variables signs (t ∷ [])
  lone s =
      by_cases (λ t. ((x : ℕ) → t ∷ [] ≡ var x ∷ [] → ⊥) → under_tag s (seen signs t ∷ []) ≡ terms_variables signs (t ∷ [])) (λ x h. absurd (h x refl))
      (λ f ts each h. subst (λ r. under_tag s (r ∷ []) ≡ all_below (r ∷ [])) (sym (seen_fun signs f ts)) refl)

  no_variable : (s : Ty) (ts : List FoTerm) → ((x : ℕ) → ts ≡ var x ∷ [] → ⊥) → under_tag s (map (seen signs) ts) ≡ terms_variables signs ts
  no_variable s [] h = refl
  no_variable s (t ∷ []) h = lone s t h
  no_variable s (t ∷ u ∷ ts) h = all_below_is (t ∷ u ∷ ts)

  -- below a symbol that is no tag
  pub under_other : (f : ℕ) (ts : List FoTerm) → ((s : Ty) → signs f ≡ Some (Tag s) → ⊥) → term_variables signs (fun f ts) ≡ terms_variables signs ts
  under_other f ts h = ap seen_below (seen_fun signs f ts) ∙ no_tag (signs f) ts h

  -- below a tag, but no variable alone
  pub under_this : (f : ℕ) (s : Ty) (ts : List FoTerm) → signs f ≡ Some (Tag s) → ((x : ℕ) → ts ≡ var x ∷ [] → ⊥) → term_variables signs (fun f ts) ≡ terms_variables signs ts
  under_this f s ts is h = ap seen_below (seen_fun signs f ts) ∙ ap (λ o. under_symbol o (map (seen signs) ts)) is ∙ no_variable s ts h

pub gathered_below : {E : Type 0} (signs : Signs) (start next : List TypedVariable) (t : FoTerm) (f : ℕ) (args slice : List FoTerm) (r : Result (Unit {0}) E) → t ≡ fun f args → slice ≡ args
    → term_variables signs (fun f args) ≡ terms_variables signs args
    → OnOk r (next ≡ all_added is_variable start (terms_variables signs slice)) → OnOk r (next ≡ all_added is_variable start (term_variables signs t))
gathered_below signs start next t f args slice r is whole same h =
    subst (λ vs. OnOk r (next ≡ all_added is_variable start vs)) (ap (terms_variables signs) whole ∙ sym same ∙ ap (term_variables signs) (sym is)) h

-- ---- what is gathered is there

sound : (v w : TypedVariable) → is_variable v w ≡ true → v ≡ w
sound v w h =
    let both = both_true (v.var == w.var) (is_ty v.ty w.ty) h in
    λ i. record { var = equal_from v.var w.var both.0 i; ty = is_ty_same v.ty w.ty both.1 i }

found_step : (v : TypedVariable) (vs : List TypedVariable) (w : TypedVariable) (test : Bool) → is_variable v w ≡ test → (test || list_any (λ z. is_variable z w) vs) ≡ true → (list_any (λ z. is_variable z w) vs ≡ true → IsIn vs w)
    → IsIn (v ∷ vs) w
found_step v vs w true e k rest = inl (sound v w e)
found_step v vs w false e k rest = inr (rest k)

found : (vs : List TypedVariable) (w : TypedVariable) → list_any (λ v. is_variable v w) vs ≡ true → IsIn vs w
found [] w h = absurd cc
found (v ∷ vs) w h = found_step v vs w (is_variable v w) refl h (found vs w)

in_left : (vs ws : List TypedVariable) (w : TypedVariable) → IsIn vs w → IsIn (vs ++ ws) w
in_left [] ws w h = absurd h
in_left (v ∷ vs) ws w (inl e) = inl e
in_left (v ∷ vs) ws w (inr h) = inr (in_left vs ws w h)

at_end : (vs : List TypedVariable) (w : TypedVariable) → IsIn (vs ++ w ∷ []) w
at_end [] w = inl refl
at_end (v ∷ vs) w = inr (at_end vs w)

in_added : (vs : List TypedVariable) (w u : TypedVariable) (test : Bool) → IsIn vs u → IsIn (if test then vs else vs ++ w ∷ []) u
in_added vs w u true h = h
in_added vs w u false h = in_left vs (w ∷ []) u h

is_added : (vs : List TypedVariable) (w : TypedVariable) (test : Bool) → list_any (λ v. is_variable v w) vs ≡ test → IsIn (if test then vs else vs ++ w ∷ []) w
is_added vs w true e = found vs w e
is_added vs w false e = at_end vs w

in_old : (vs ws : List TypedVariable) (u : TypedVariable) → IsIn vs u → IsIn (all_added is_variable vs ws) u
in_old vs [] u h = h
in_old vs (w ∷ ws) u h = in_old (added is_variable vs w) ws u (in_added vs w u (list_any (λ v. is_variable v w) vs) h)

pub in_new : (vs ws : List TypedVariable) (u : TypedVariable) → IsIn ws u → IsIn (all_added is_variable vs ws) u
in_new vs [] u h = absurd h
in_new vs (w ∷ ws) u (inl e) = in_old (added is_variable vs w) ws u (subst (IsIn (added is_variable vs w)) e (is_added vs w (list_any (λ v. is_variable v w) vs) refl))
in_new vs (w ∷ ws) u (inr h) = in_new (added is_variable vs w) ws u h

-- and has what all have
module _ (P : TypedVariable → Type 0) where
  one_more : (vs : List TypedVariable) (w : TypedVariable) (test : Bool) → Each P vs → P w → Each P (if test then vs else vs ++ w ∷ [])
  one_more vs w true h k = h
  one_more vs w false h k = each_append P vs (w ∷ []) h (k, tt)

  pub each_added : (vs ws : List TypedVariable) → Each P vs → Each P ws → Each P (all_added is_variable vs ws)
  each_added vs [] h k = h
  each_added vs (w ∷ ws) h k = each_added (added is_variable vs w) ws (one_more vs w (list_any (λ v. is_variable v w) vs) h k.0) k.1
