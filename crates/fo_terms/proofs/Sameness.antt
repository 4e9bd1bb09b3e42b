-- The tests of sameness say when things are equal.
use Rattle.std.proofs.Common.{◌≡◌, ℕ, Bool, true, false, ◌==◌, ◌&&◌, List, [], ◌∷◌, map, refl, sym, ap, subst, ◌∙◌, rules}
use Rattle.fo_terms.specs.declared.term.FoTerm.{FoTerm, out-FoTerm}
use Rattle.fo_terms.specs.declared.term.FoTerm.TheOpen.{FoTerm-F}
use Rattle.fo_terms.specs.declared.term.FoTerm.TheFolds.{fold-roll-FoTerm}
use Rattle.fo_terms.specs.declared.term.FoTerm.TheVariants.{rolls-Var, rolls-Fun, outs-Var, outs-Fun}
use Rattle.fo_terms.specs.declared.atom.Atom.{Atom}
use Rattle.fo_terms.specs.declared.atom.Atom.TheVariants.{Holds, Eq}
use Rattle.fo_terms.specs.declared.literal.Literal.{Literal}
use Rattle.fo_terms.specs.Substitution.{var, fun}
use Rattle.fo_terms.specs.Same.{all_pass, is_var, is_fun, is_term_step, is_term, is_atom, is_sign, is_literal}
use Rattle.fo_terms.proofs.Induction.{Each, by_cases}
use Rattle.fo_terms.proofs.Substitution.{equal_true, equal_from}

is_term_var : (x : ℕ) (t : FoTerm) → is_term (var x) t ≡ is_var x (out-FoTerm t)
is_term_var x t = ap (λ g. g t) (ap is_term (sym (rolls-Var x)) ∙ fold-roll-FoTerm (FoTerm → Bool) is_term_step (FoTerm-F.Var x))

is_term_fun : (f : ℕ) (xs : List FoTerm) (t : FoTerm) → is_term (fun f xs) t ≡ is_fun f (map is_term xs) (out-FoTerm t)
is_term_fun f xs t = ap (λ g. g t) (ap is_term (sym (rolls-Fun f xs)) ∙ fold-roll-FoTerm (FoTerm → Bool) is_term_step (FoTerm-F.Fun f xs))

-- ---- tests in conjunction

and_true : (a b : Bool) → a ≡ true → b ≡ true → (a && b) ≡ true
and_true a b h k = search (rules, h, k)

and_left : (a b : Bool) → (a && b) ≡ true → a ≡ true
and_left true b h = refl
and_left false b h = cc

and_right : (a b : Bool) → (a && b) ≡ true → b ≡ true
and_right true b h = h
and_right false b h = cc

-- ---- a term is the same as itself

each_itself : (ts : List FoTerm) → Each (λ t. is_term t t ≡ true) ts → all_pass (map is_term ts) ts ≡ true
each_itself [] h = refl
each_itself (t ∷ ts) h = and_true (is_term t t) (all_pass (map is_term ts) ts) h.0 (each_itself ts h.1)

pub is_term_itself : (t : FoTerm) → is_term t t ≡ true
is_term_itself = by_cases (λ t. is_term t t ≡ true)
    (λ x. is_term_var x (var x) ∙ ap (is_var x) (outs-Var x) ∙ equal_true x)
    (λ f args each. is_term_fun f args (fun f args) ∙ ap (is_fun f (map is_term args)) (outs-Fun f args)
    ∙ and_true (f == f) (all_pass (map is_term args) args) (equal_true f) (each_itself args each))

-- ---- terms that are the same are equal

abbrev Sound : FoTerm → Type 0
Sound s = (t : FoTerm) → is_term s t ≡ true → s ≡ t

each_sound : (ss ts : List FoTerm) → Each Sound ss → all_pass (map is_term ss) ts ≡ true → ss ≡ ts
each_sound [] [] each h = refl
each_sound [] (t ∷ ts) each h = cc
each_sound (s ∷ ss) [] each h = cc
each_sound (s ∷ ss) (t ∷ ts) each h =
    let first : s ≡ t = each.0 t (and_left (is_term s t) (all_pass (map is_term ss) ts) h) in
    let rest : ss ≡ ts = each_sound ss ts each.1 (and_right (is_term s t) (all_pass (map is_term ss) ts) h) in
    λ i. first i ∷ rest i

var_sound : (x : ℕ) → Sound (var x)
var_sound x = by_cases (λ t. is_term (var x) t ≡ true → var x ≡ t)
    (λ y h. ap var (equal_from x y (sym (is_term_var x (var y) ∙ ap (is_var x) (outs-Var y)) ∙ h)))
    (λ g ts each h. let no : false ≡ true = sym (is_term_var x (fun g ts) ∙ ap (is_var x) (outs-Fun g ts)) ∙ h in cc)

fun_sound : (f : ℕ) (xs : List FoTerm) → Each Sound xs → Sound (fun f xs)
fun_sound f xs each = by_cases (λ t. is_term (fun f xs) t ≡ true → fun f xs ≡ t)
    (λ y h. let no : false ≡ true = sym (is_term_fun f xs (var y) ∙ ap (is_fun f (map is_term xs)) (outs-Var y)) ∙ h in cc)
    (λ g ts others h.
    let both : (f == g && all_pass (map is_term xs) ts) ≡ true = sym (is_term_fun f xs (fun g ts) ∙ ap (is_fun f (map is_term xs)) (outs-Fun g ts)) ∙ h in
    let heads : f ≡ g = equal_from f g (and_left (f == g) (all_pass (map is_term xs) ts) both) in
    let args : xs ≡ ts = each_sound xs ts each (and_right (f == g) (all_pass (map is_term xs) ts) both) in
    λ i. fun (heads i) (args i))

pub is_term_sound : (s t : FoTerm) → is_term s t ≡ true → s ≡ t
is_term_sound = by_cases Sound var_sound fun_sound

-- ---- atoms and literals

pub is_atom_itself : (a : Atom) → is_atom a a ≡ true
is_atom_itself (Holds t) = is_term_itself t
is_atom_itself (Eq s t) = and_true (is_term s s) (is_term t t) (is_term_itself s) (is_term_itself t)

pub is_atom_sound : (a b : Atom) → is_atom a b ≡ true → a ≡ b
is_atom_sound (Holds s) (Holds t) h = ap Holds (is_term_sound s t h)
is_atom_sound (Holds s) (Eq c d) h = cc
is_atom_sound (Eq a b) (Holds t) h = cc
is_atom_sound (Eq a b) (Eq c d) h =
    let left : a ≡ c = is_term_sound a c (and_left (is_term a c) (is_term b d) h) in
    let right : b ≡ d = is_term_sound b d (and_right (is_term a c) (is_term b d) h) in
    λ i. Eq (left i) (right i)

is_sign_itself : (b : Bool) → is_sign b b ≡ true
is_sign_itself true = refl
is_sign_itself false = refl

is_sign_sound : (a b : Bool) → is_sign a b ≡ true → a ≡ b
is_sign_sound true true h = refl
is_sign_sound true false h = cc
is_sign_sound false true h = cc
is_sign_sound false false h = refl

pub is_literal_itself : (l : Literal) → is_literal l l ≡ true
is_literal_itself l = and_true (is_sign l.positive l.positive) (is_atom l.atom l.atom) (is_sign_itself l.positive) (is_atom_itself l.atom)

pub is_literal_sound : (l m : Literal) → is_literal l m ≡ true → l ≡ m
is_literal_sound l m h =
    let signs : l.positive ≡ m.positive = is_sign_sound l.positive m.positive (and_left (is_sign l.positive m.positive) (is_atom l.atom m.atom) h) in
    let atoms : l.atom ≡ m.atom = is_atom_sound l.atom m.atom (and_right (is_sign l.positive m.positive) (is_atom l.atom m.atom) h) in
    λ i. record { positive = signs i; atom = atoms i }

-- a test that is true exactly where the items are equal is the same test
pub test_is : {X : Type 0} (test : X → X → Bool) → ((x y : X) → test x y ≡ true → x ≡ y) → ((x : X) → test x x ≡ true)
    → (b : Bool) (x y : X) → (b ≡ true → x ≡ y) → (x ≡ y → b ≡ true) → b ≡ test x y
test_is test sound itself true x y from to = sym (subst (λ z. test x z ≡ true) (from refl) (itself x))
test_is test sound itself false x y from to = lemma (test x y) refl
  where
    lemma : (c : Bool) → test x y ≡ c → false ≡ c
    lemma true e = to (sound x y e)
    lemma false e = refl
