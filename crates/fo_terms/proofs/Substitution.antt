-- Laws of substitution.
use Rattle.std.proofs.Common.{◌≡◌, ◌≢◌, ℕ, ◌+◌, ◌≤◌, Bool, true, false, ◌||◌, ◌==◌, IsTrue, List, [], ◌∷◌, map, sum, refl, sym, ap, subst, ◌∙◌, arith, rules}
use Rattle.std.proofs.lemmas.List.{map-id}
use Rattle.std.proofs.lemmas.List.Sums.{sum_by-cons}
use Rattle.fo_terms.specs.declared.term.FoTerm.{FoTerm}
use Rattle.fo_terms.specs.declared.term.FoTerm.TheOpen.{FoTerm-F}
use Rattle.fo_terms.specs.declared.term.FoTerm.TheFolds.{fold-roll-FoTerm}
use Rattle.fo_terms.specs.declared.term.FoTerm.TheVariants.{rolls-Var, rolls-Fun}
use Rattle.fo_terms.specs.Weight.{size_of, size_step}
use Rattle.fo_terms.specs.Substitution.{var, fun, put, put_step, occurs_in, occurs_step, occurs_in_any}
use Rattle.fo_terms.proofs.Induction.{Each, by_cases}

-- ---- one equation a constructor

pub put_var : (v : ℕ → FoTerm) (x : ℕ) → put v (var x) ≡ v x
put_var v x = ap (put v) (sym (rolls-Var x)) ∙ fold-roll-FoTerm FoTerm (put_step v) (FoTerm-F.Var x)

pub put_fun : (v : ℕ → FoTerm) (f : ℕ) (args : List FoTerm) → put v (fun f args) ≡ fun f (map (put v) args)
put_fun v f args = ap (put v) (sym (rolls-Fun f args)) ∙ fold-roll-FoTerm FoTerm (put_step v) (FoTerm-F.Fun f args)

pub occurs_var : (z x : ℕ) → occurs_in z (var x) ≡ (z == x)
occurs_var z x = ap (occurs_in z) (sym (rolls-Var x)) ∙ fold-roll-FoTerm Bool (occurs_step z) (FoTerm-F.Var x)

pub occurs_fun : (z f : ℕ) (args : List FoTerm) → occurs_in z (fun f args) ≡ occurs_in_any z args
occurs_fun z f args = ap (occurs_in z) (sym (rolls-Fun f args)) ∙ fold-roll-FoTerm Bool (occurs_step z) (FoTerm-F.Fun f args)

pub size_var : (x : ℕ) → size_of (var x) ≡ 1
size_var x = ap size_of (sym (rolls-Var x)) ∙ fold-roll-FoTerm ℕ size_step (FoTerm-F.Var x)

pub size_fun : (f : ℕ) (args : List FoTerm) → size_of (fun f args) ≡ 1 + sum (map size_of args)
size_fun f args = ap size_of (sym (rolls-Fun f args)) ∙ fold-roll-FoTerm ℕ size_step (FoTerm-F.Fun f args)

-- ---- lists

pub map_same : {A B : Type 0} (f g : A → B) (xs : List A) → ((x : A) → f x ≡ g x) → map f xs ≡ map g xs
map_same f g [] e = refl
map_same f g (x ∷ xs) e = λ i. e x i ∷ map_same f g xs e i

pub map_each : {B : Type 0} (f g : FoTerm → B) (ts : List FoTerm) → Each (λ t. f t ≡ g t) ts → map f ts ≡ map g ts
map_each f g [] e = refl
map_each f g (t ∷ ts) e = λ i. e.0 i ∷ map_each f g ts e.1 i

pub map_map : {A B C : Type 0} (f : B → C) (g : A → B) (xs : List A) → map f (map g xs) ≡ map (λ x. f (g x)) xs
map_map f g [] = refl
map_map f g (x ∷ xs) = λ i. f (g x) ∷ map_map f g xs i

pub sum_cons : (n : ℕ) (ns : List ℕ) → sum (n ∷ ns) ≡ n + sum ns
sum_cons n ns = sum_by-cons (λ x. x) n ns

pub true_left : (a b : Bool) → IsTrue a → IsTrue (a || b)
true_left a b h = search (rules, h)

pub true_right : (a b : Bool) → IsTrue b → IsTrue (a || b)
true_right a b h = search (rules, h)

pub or_cases : {X : Type 0} (a b : Bool) → IsTrue (a || b) → (IsTrue a → X) → (IsTrue b → X) → X
or_cases true b h left right = left refl
or_cases false b h left right = right h

pub or_false : (a b : Bool) → a ≡ false → b ≡ false → (a || b) ≡ false
or_false a b h k = search (rules, h, k)

pub equal_true : (x : ℕ) → IsTrue (x == x)
equal_true x = search rules

pub equal_from : (x y : ℕ) → IsTrue (x == y) → x ≡ y
equal_from x y h = search (rules, h)

pub unequal : (x y : ℕ) → x ≢ y → (x == y) ≡ false
unequal x y h = search (rules, h)

-- ---- two substitutions, one after the other

pub put_put : (v u : ℕ → FoTerm) (t : FoTerm) → put v (put u t) ≡ put (λ y. put v (u y)) t
put_put v u = by_cases (λ t. put v (put u t) ≡ put (λ y. put v (u y)) t)
    (λ x. ap (put v) (put_var u x) ∙ sym (put_var (λ y. put v (u y)) x))
    (λ f args each. ap (put v) (put_fun u f args) ∙ put_fun v f (map (put u) args)
    ∙ ap (fun f) (map_map (put v) (put u) args ∙ map_each (λ t. put v (put u t)) (put (λ y. put v (u y))) args each)
    ∙ sym (put_fun (λ y. put v (u y)) f args))

pub put_itself : (t : FoTerm) → put var t ≡ t
put_itself = by_cases (λ t. put var t ≡ t)
    (λ x. put_var var x)
    (λ f args each. put_fun var f args ∙ ap (fun f) (map_each (put var) (λ t. t) args each ∙ map-id args))

-- ---- substitutions that agree on the variables of a term

abbrev Agrees : (ℕ → FoTerm) → (ℕ → FoTerm) → FoTerm → Type 0
Agrees u w t = ((y : ℕ) → IsTrue (occurs_in y t) → u y ≡ w y) → put u t ≡ put w t

agree_all : (u w : ℕ → FoTerm) (ts : List FoTerm) → Each (Agrees u w) ts → ((y : ℕ) → IsTrue (occurs_in_any y ts) → u y ≡ w y) → map (put u) ts ≡ map (put w) ts
agree_all u w [] each h = refl
agree_all u w (t ∷ ts) each h =
    let first : put u t ≡ put w t = each.0 (λ y o. h y (true_left (occurs_in y t) (occurs_in_any y ts) o)) in
    let rest : map (put u) ts ≡ map (put w) ts = agree_all u w ts each.1 (λ y o. h y (true_right (occurs_in y t) (occurs_in_any y ts) o)) in
    λ i. first i ∷ rest i

pub put_agree : (u w : ℕ → FoTerm) (t : FoTerm) → Agrees u w t
put_agree u w = by_cases (Agrees u w)
    (λ x h. put_var u x ∙ h x (subst IsTrue (sym (occurs_var x x)) (equal_true x)) ∙ sym (put_var w x))
    (λ f args each h. put_fun u f args ∙ ap (fun f) (agree_all u w args each (λ y o. h y (subst IsTrue (sym (occurs_fun y f args)) o))) ∙ sym (put_fun w f args))

-- ---- a variable that stands in no image

abbrev Absent : ℕ → (ℕ → FoTerm) → FoTerm → Type 0
Absent z u t = ((y : ℕ) → IsTrue (occurs_in y t) → occurs_in z (u y) ≡ false) → occurs_in z (put u t) ≡ false

absent_all : (z : ℕ) (u : ℕ → FoTerm) (ts : List FoTerm) → Each (Absent z u) ts → ((y : ℕ) → IsTrue (occurs_in_any y ts) → occurs_in z (u y) ≡ false) → occurs_in_any z (map (put u) ts) ≡ false
absent_all z u [] each h = refl
absent_all z u (t ∷ ts) each h =
    or_false (occurs_in z (put u t)) (occurs_in_any z (map (put u) ts))
    (each.0 (λ y o. h y (true_left (occurs_in y t) (occurs_in_any y ts) o)))
    (absent_all z u ts each.1 (λ y o. h y (true_right (occurs_in y t) (occurs_in_any y ts) o)))

pub put_absent : (z : ℕ) (u : ℕ → FoTerm) (t : FoTerm) → Absent z u t
put_absent z u = by_cases (Absent z u)
    (λ x h. ap (occurs_in z) (put_var u x) ∙ h x (subst IsTrue (sym (occurs_var x x)) (equal_true x)))
    (λ f args each h. ap (occurs_in z) (put_fun u f args) ∙ occurs_fun z f (map (put u) args)
    ∙ absent_all z u args each (λ y o. h y (subst IsTrue (sym (occurs_fun y f args)) o)))

-- ---- an image is no smaller than that of a variable in it

abbrev Bounds : ℕ → (ℕ → FoTerm) → FoTerm → Type 0
Bounds x v t = IsTrue (occurs_in x t) → size_of (v x) ≤ size_of (put v t)

bounds_all : (x : ℕ) (v : ℕ → FoTerm) (ts : List FoTerm) → Each (Bounds x v) ts → IsTrue (occurs_in_any x ts) → size_of (v x) ≤ sum (map size_of (map (put v) ts))
bounds_all x v [] each h = cc
bounds_all x v (t ∷ ts) each h =
    let split = sum_cons (size_of (put v t)) (map size_of (map (put v) ts)) in
    or_cases (occurs_in x t) (occurs_in_any x ts) h
    (λ o. let here = each.0 o in omega arith)
    (λ o. let later = bounds_all x v ts each.1 o in omega arith)

pub put_bounds : (x : ℕ) (v : ℕ → FoTerm) (t : FoTerm) → Bounds x v t
put_bounds x v = by_cases (Bounds x v)
    (λ y h. let same : x ≡ y = equal_from x y (subst IsTrue (occurs_var x y) h) in
    subst (λ z. size_of (v x) ≤ size_of z) (sym (put_var v y)) (subst (λ z. size_of (v x) ≤ size_of (v z)) same (omega arith)))
    (λ f args each h.
    let inside = bounds_all x v args each (subst IsTrue (occurs_fun x f args) h) in
    let size : size_of (put v (fun f args)) ≡ 1 + sum (map size_of (map (put v) args)) = ap size_of (put_fun v f args) ∙ size_fun f (map (put v) args) in
    omega arith)

-- a term with arguments never equals a variable in it
pub no_cycle : (x f : ℕ) (args : List FoTerm) (v : ℕ → FoTerm) → IsTrue (occurs_in x (fun f args)) → v x ≡ put v (fun f args) → ⊥
no_cycle x f args v o e =
    let each : IsTrue (occurs_in_any x args) = subst IsTrue (occurs_fun x f args) o in
    let inside = bounds_any x v args each in
    let size : size_of (put v (fun f args)) ≡ 1 + sum (map size_of (map (put v) args)) = ap size_of (put_fun v f args) ∙ size_fun f (map (put v) args) in
    let same : size_of (v x) ≡ size_of (put v (fun f args)) = ap size_of e in
    omega arith
  where
    bounds_each : (x : ℕ) (v : ℕ → FoTerm) (ts : List FoTerm) → Each (Bounds x v) ts
    bounds_each x v [] = tt
    bounds_each x v (t ∷ ts) = (put_bounds x v t, bounds_each x v ts)

    bounds_any : (x : ℕ) (v : ℕ → FoTerm) (ts : List FoTerm) → IsTrue (occurs_in_any x ts) → size_of (v x) ≤ sum (map size_of (map (put v) ts))
    bounds_any x v ts = bounds_all x v ts (bounds_each x v ts)
