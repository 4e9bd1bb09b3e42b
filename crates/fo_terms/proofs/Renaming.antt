-- Clauses that are instances of each other differ by the names of their variables, and have one normal form.
use Rattle.std.proofs.Common.{◌≡◌, ℕ, ◌+◌, Bool, true, false, ◌==◌, if◌then◌else◌, List, [], ◌∷◌, ◌++◌, map, refl, sym, ap, subst, ◌∙◌}
use Rattle.std.specs.Prelude.{not}
use Rattle.std.specs.List.{filter, concat}
use Rattle.std.proofs.lemmas.List.{map-append}
use Rattle.fo_terms.specs.declared.term.FoTerm.{FoTerm, out-FoTerm}
use Rattle.fo_terms.specs.declared.term.FoTerm.TheOpen.{FoTerm-F}
use Rattle.fo_terms.specs.declared.term.FoTerm.TheFolds.{fold-roll-FoTerm}
use Rattle.fo_terms.specs.declared.term.FoTerm.TheVariants.{rolls-Var, rolls-Fun, outs-Var}
use Rattle.fo_terms.specs.Substitution.{var, fun, put}
use Rattle.fo_terms.specs.Normal.{firsts, variables_of, variables_step, place_of, numbering}
use Rattle.fo_terms.proofs.Heads.{fun_same, fun_no_var, var_same}
use Rattle.fo_terms.proofs.Induction.{Each, by_cases}
use Rattle.fo_terms.proofs.Sameness.{test_is}
use Rattle.fo_terms.proofs.Substitution.{put_var, put_fun, put_put, equal_true, equal_from}

-- ---- lists and functions that keep tests

pub each_append : {X : Type 0} (P : X → Type 0) (xs ys : List X) → Each P xs → Each P ys → Each P (xs ++ ys)
each_append P [] ys h k = k
each_append P (x ∷ xs) ys h k = (h.0, each_append P xs ys h.1 k)

pub each_left : {X : Type 0} (P : X → Type 0) (xs ys : List X) → Each P (xs ++ ys) → Each P xs
each_left P [] ys h = tt
each_left P (x ∷ xs) ys h = (h.0, each_left P xs ys h.1)

pub each_right : {X : Type 0} (P : X → Type 0) (xs ys : List X) → Each P (xs ++ ys) → Each P ys
each_right P [] ys h = h
each_right P (x ∷ xs) ys h = each_right P xs ys h.1

pub each_map : {X : Type 0} (P Q : X → Type 0) (xs : List X) → ((x : X) → P x → Q x) → Each P xs → Each Q xs
each_map P Q [] f h = tt
each_map P Q (x ∷ xs) f h = (f x h.0, each_map P Q xs f h.1)

filter_each_step : {X : Type 0} (P : X → Type 0) (x : X) (xs : List X) (test : Bool) → P x → Each P xs → Each P (if test then x ∷ xs else xs)
filter_each_step P x xs true h k = (h, k)
filter_each_step P x xs false h k = k

pub filter_each : {X : Type 0} (P : X → Type 0) (p : X → Bool) (xs : List X) → Each P xs → Each P (filter p xs)
filter_each P p [] h = tt
filter_each P p (x ∷ xs) h = filter_each_step P x (filter p xs) (p x) h.0 (filter_each P p xs h.1)

pub firsts_each : {X : Type 0} (P : X → Type 0) (same : X → X → Bool) (xs : List X) → Each P xs → Each P (firsts same xs)
firsts_each P same [] h = tt
firsts_each P same (x ∷ xs) h = (h.0, filter_each P (λ y. not (same x y)) (firsts same xs) (firsts_each P same xs h.1))

module _ {X Y : Type 0} (g : X → Y) (P : X → Type 0) where
  filter_step : (x : X) (xs : List X) (ys : List Y) (test : Bool) → ys ≡ map g xs → (if test then g x ∷ ys else ys) ≡ map g (if test then x ∷ xs else xs)
  filter_step x xs ys true e = ap (λ l. g x ∷ l) e
  filter_step x xs ys false e = e

  pub filter_map_kept : (p : X → Bool) (q : Y → Bool) (xs : List X) → ((x : X) → P x → q (g x) ≡ p x) → Each P xs → filter q (map g xs) ≡ map g (filter p xs)
  filter_map_kept p q [] keeps h = refl
  filter_map_kept p q (x ∷ xs) keeps h =
      ap (λ b. if b then g x ∷ filter q (map g xs) else filter q (map g xs)) (keeps x h.0) ∙ filter_step x (filter p xs) (filter q (map g xs)) (p x) (filter_map_kept p q xs keeps h.1)

  pub firsts_map_kept : (s : X → X → Bool) (t : Y → Y → Bool) (xs : List X) → ((x y : X) → P x → P y → t (g x) (g y) ≡ s x y) → Each P xs → firsts t (map g xs) ≡ map g (firsts s xs)
  firsts_map_kept s t [] keeps h = refl
  firsts_map_kept s t (x ∷ xs) keeps h =
      ap (λ l. g x ∷ filter (λ y. not (t (g x) y)) l) (firsts_map_kept s t xs keeps h.1)
      ∙ ap (λ l. g x ∷ l) (filter_map_kept (λ y. not (s x y)) (λ y. not (t (g x) y)) (firsts s xs) (λ y k. ap not (keeps x y h.0 k)) (firsts_each P s xs h.1))

-- a function that can be undone keeps tests of sameness
pub kept_test : {X Y : Type 0} (s : X → X → Bool) (t : Y → Y → Bool) → ((x y : X) → s x y ≡ true → x ≡ y) → ((x : X) → s x x ≡ true) → ((x y : Y) → t x y ≡ true → x ≡ y) → ((x : Y) → t x x ≡ true)
    → (g : X → Y) (x y : X) → (g x ≡ g y → x ≡ y) → t (g x) (g y) ≡ s x y
kept_test s t sound itself other other_itself g x y undone =
    sym (test_is t other other_itself (s x y) (g x) (g y) (λ h. ap g (sound x y h)) (λ e. subst (λ z. s x z ≡ true) (undone e) (itself x)))

-- ---- variables in reading order

pub variables_var : (x : ℕ) → variables_of (var x) ≡ x ∷ []
variables_var x = ap variables_of (sym (rolls-Var x)) ∙ fold-roll-FoTerm (List ℕ) variables_step (FoTerm-F.Var x)

pub variables_fun : (f : ℕ) (args : List FoTerm) → variables_of (fun f args) ≡ concat (map variables_of args)
variables_fun f args = ap variables_of (sym (rolls-Fun f args)) ∙ fold-roll-FoTerm (List ℕ) variables_step (FoTerm-F.Fun f args)

abbrev Agreeing : (ℕ → FoTerm) → (ℕ → FoTerm) → FoTerm → Type 0
Agreeing u w t = Each (λ y. u y ≡ w y) (variables_of t) → put u t ≡ put w t

agreeing_all : (u w : ℕ → FoTerm) (ts : List FoTerm) → Each (Agreeing u w) ts → Each (λ y. u y ≡ w y) (concat (map variables_of ts)) → map (put u) ts ≡ map (put w) ts
agreeing_all u w [] each h = refl
agreeing_all u w (t ∷ ts) each h =
    let first : put u t ≡ put w t = each.0 (each_left (λ y. u y ≡ w y) (variables_of t) (concat (map variables_of ts)) h) in
    let rest : map (put u) ts ≡ map (put w) ts = agreeing_all u w ts each.1 (each_right (λ y. u y ≡ w y) (variables_of t) (concat (map variables_of ts)) h) in
    λ i. first i ∷ rest i

-- substitutions that agree on the variables of a term
pub put_agreeing : (u w : ℕ → FoTerm) (t : FoTerm) → Agreeing u w t
put_agreeing u w = by_cases (Agreeing u w)
    (λ x h. put_var u x ∙ (subst (Each (λ y. u y ≡ w y)) (variables_var x) h).0 ∙ sym (put_var w x))
    (λ f args each h. put_fun u f args ∙ ap (fun f) (agreeing_all u w args each (subst (Each (λ y. u y ≡ w y)) (variables_fun f args) h)) ∙ sym (put_fun w f args))

abbrev Fixing : (ℕ → FoTerm) → FoTerm → Type 0
Fixing u t = put u t ≡ t → Each (λ y. u y ≡ var y) (variables_of t)

fixing_all : (u : ℕ → FoTerm) (ts : List FoTerm) → Each (Fixing u) ts → map (put u) ts ≡ ts → Each (λ y. u y ≡ var y) (concat (map variables_of ts))
fixing_all u [] each h = tt
fixing_all u (t ∷ ts) each h =
    let first : put u t ≡ t = cc in
    let rest : map (put u) ts ≡ ts = cc in
    each_append (λ y. u y ≡ var y) (variables_of t) (concat (map variables_of ts)) (each.0 first) (fixing_all u ts each.1 rest)

-- a substitution that leaves a term leaves its variables
pub put_fixing : (u : ℕ → FoTerm) (t : FoTerm) → Fixing u t
put_fixing u = by_cases (Fixing u)
    (λ x h. subst (Each (λ y. u y ≡ var y)) (sym (variables_var x)) (sym (put_var u x) ∙ h, tt))
    (λ f args each h. subst (Each (λ y. u y ≡ var y)) (sym (variables_fun f args)) (fixing_all u args each (fun_same f f (map (put u) args) args (sym (put_fun u f args) ∙ h)).1))

-- ---- names

abbrev layer_name : FoTerm-F FoTerm → ℕ
layer_name (FoTerm-F.Var y) = y
layer_name (FoTerm-F.Fun f args) = 0

abbrev name_of : FoTerm → ℕ
name_of t = layer_name (out-FoTerm t)

-- what a substitution sends to a variable is a variable
pub is_name : (w : ℕ → FoTerm) (x : ℕ) (t : FoTerm) → put w t ≡ var x → t ≡ var (name_of t)
is_name w x = by_cases (λ t. put w t ≡ var x → t ≡ var (name_of t))
    (λ y h. ap var (sym (ap layer_name (outs-Var y))))
    (λ f args each h. absurd (fun_no_var f x (map (put w) args) (sym (put_fun w f args) ∙ h)))

module _ (v w : ℕ → FoTerm) where
  -- w undoes v at the variable
  abbrev pub Undone : ℕ → Type 0
  Undone x = put w (v x) ≡ var x

  abbrev pub name : ℕ → ℕ
  name x = name_of (v x)

  pub named : (x : ℕ) → Undone x → v x ≡ var (name x)
  named x h = is_name w x (v x) h

  pub names_apart : (x y : ℕ) → Undone x → Undone y → (name x == name y) ≡ (x == y)
  names_apart x y h k =
      kept_test ◌==◌ ◌==◌ equal_from equal_true equal_from equal_true name x y
      (λ e. var_same x y (sym h ∙ ap (put w) (named x h ∙ ap var e ∙ sym (named y k)) ∙ k))

  abbrev Renamed : FoTerm → Type 0
  Renamed t = Each Undone (variables_of t) → variables_of (put v t) ≡ map name (variables_of t)

  renamed_all : (ts : List FoTerm) → Each Renamed ts → Each Undone (concat (map variables_of ts)) → concat (map variables_of (map (put v) ts)) ≡ map name (concat (map variables_of ts))
  renamed_all [] each h = refl
  renamed_all (t ∷ ts) each h =
      let first = each.0 (each_left Undone (variables_of t) (concat (map variables_of ts)) h) in
      let rest = renamed_all ts each.1 (each_right Undone (variables_of t) (concat (map variables_of ts)) h) in
      (λ i. first i ++ rest i) ∙ sym (map-append name (variables_of t) (concat (map variables_of ts)))

  pub variables_renamed : (t : FoTerm) → Renamed t
  variables_renamed = by_cases Renamed
      (λ x h. ap variables_of (put_var v x ∙ named x (subst (Each Undone) (variables_var x) h).0) ∙ variables_var (name x) ∙ sym (ap (map name) (variables_var x)))
      (λ f args each h. ap variables_of (put_fun v f args) ∙ variables_fun f (map (put v) args) ∙ renamed_all args each (subst (Each Undone) (variables_fun f args) h) ∙ sym (ap (map name) (variables_fun f args)))

  pub place_renamed : (x : ℕ) (seen : List ℕ) → Undone x → Each Undone seen → place_of (name x) (map name seen) ≡ place_of x seen
  place_renamed x [] h k = refl
  place_renamed x (y ∷ ys) h k =
      (λ i. if names_apart x y h k.0 i then 0 else 1 + place_renamed x ys h k.1 i)

  -- numbers by the renamed list, after renaming, are numbers by the list
  pub renumbered : (seen : List ℕ) → Each Undone seen → (t : FoTerm) → Each Undone (variables_of t) → put (numbering (map name seen)) (put v t) ≡ put (numbering seen) t
  renumbered seen all t h =
      put_put (numbering (map name seen)) v t
      ∙ put_agreeing (λ y. put (numbering (map name seen)) (v y)) (numbering seen) t
      (each_map Undone (λ y. put (numbering (map name seen)) (v y) ≡ numbering seen y) (variables_of t)
      (λ y k. ap (put (numbering (map name seen))) (named y k) ∙ put_var (numbering (map name seen)) (name y) ∙ ap var (place_renamed y seen k all)) h)
