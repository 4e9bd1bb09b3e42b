-- Slight terms and their parts.
use Rattle.std.proofs.Common.{◌≡◌, ℕ, suc, zero, ◌<◌, ◌≤◌, List, [], ◌∷◌, ◌++◌, map, sum, Option, Some, None, slice_get, refl, sym, subst, ap, ◌∙◌, arith}
use Rattle.std.specs.List.{concat}
use Rattle.std.specs.Prelude.{option_and_then}
use Rattle.fo_terms.specs.declared.term.FoTerm.{FoTerm, Fun}
use Rattle.fo_terms.specs.declared.term.FoTerm.TheVariants.{outs-Var, outs-Fun}
use Rattle.fo_terms.specs.declared.atom.Atom.{Atom}
use Rattle.fo_terms.specs.declared.atom.Atom.TheVariants.{Holds, Eq}
use Rattle.fo_terms.specs.Weight.{size_of}
use Rattle.fo_terms.specs.Substitution.{fun}
use Rattle.fo_terms.specs.Normal.{variables_of}
use Rattle.fo_terms.proofs.Induction.{Each, by_cases}
use Rattle.fo_terms.proofs.Substitution.{size_fun, sum_cons}
use Rattle.fo_terms.proofs.Renaming.{variables_fun}
use Rattle.fo_infer.specs.Paths.{at_path, at_atom_path, arguments, layer_arguments}
use Rattle.fo_infer.specs.inner.Slight.{AreBelow, Slight, SlightAtom}
use Rattle.fo_infer.proofs.Resolvents.{some_same}

low_append : (n : ℕ) (xs ys : List ℕ) → AreBelow n xs → AreBelow n ys → AreBelow n (xs ++ ys)
low_append n [] ys left right = right
low_append n (x ∷ xs) ys left right = (left.0, low_append n xs ys left.1 right)

low_all : (n : ℕ) (ts : List FoTerm) → ((k : ℕ) (t : FoTerm) → slice_get ts k ≡ Some t → AreBelow n (variables_of t)) → AreBelow n (concat (map variables_of ts))
low_all n [] each = tt
low_all n (t ∷ ts) each = low_append n (variables_of t) (concat (map variables_of ts)) (each 0 t refl) (low_all n ts (λ k s is. each (suc k) s is))

pub low_args : (t : FoTerm) (f : ℕ) (args : List FoTerm) → t ≡ Fun f args → ((k : ℕ) (t : FoTerm) → slice_get args k ≡ Some t → AreBelow 8 (variables_of t)) → AreBelow 8 (variables_of t)
low_args t f args is each = subst (AreBelow 8) (sym (ap variables_of is ∙ variables_fun f args)) (low_all 8 args each)

pub each_low : (n : ℕ) (ys : List ℕ) → AreBelow n ys → Each (λ y. y < n) ys
each_low n [] low = tt
each_low n (y ∷ ys) low = (low.0, each_low n ys low.1)

-- ---- parts

low_front : (n : ℕ) (xs ys : List ℕ) → AreBelow n (xs ++ ys) → AreBelow n xs
low_front n [] ys low = tt
low_front n (x ∷ xs) ys low = (low.0, low_front n xs ys low.1)

low_rest : (n : ℕ) (xs ys : List ℕ) → AreBelow n (xs ++ ys) → AreBelow n ys
low_rest n [] ys low = low
low_rest n (x ∷ xs) ys low = low_rest n xs ys low.1

item_light : (ts : List FoTerm) (k : ℕ) (x : FoTerm) → slice_get ts k ≡ Some x → size_of x ≤ sum (map size_of ts)
item_light [] k x is = cc
item_light (t ∷ ts) zero x is =
    let split = sum_cons (size_of t) (map size_of ts) in
    let same : size_of t ≡ size_of x = ap size_of (some_same t x is) in
    omega arith
item_light (t ∷ ts) (suc k) x is = let split = sum_cons (size_of t) (map size_of ts) in let rest = item_light ts k x is in omega arith

item_low : (n : ℕ) (ts : List FoTerm) (k : ℕ) (x : FoTerm) → slice_get ts k ≡ Some x → AreBelow n (concat (map variables_of ts)) → AreBelow n (variables_of x)
item_low n [] k x is low = cc
item_low n (t ∷ ts) zero x is low = subst (λ r. AreBelow n (variables_of r)) (some_same t x is) (low_front n (variables_of t) (concat (map variables_of ts)) low)
item_low n (t ∷ ts) (suc k) x is low = item_low n ts k x is (low_rest n (variables_of t) (concat (map variables_of ts)) low)

slight_args : (f : ℕ) (args : List FoTerm) → Slight (fun f args) → (k : ℕ) (x : FoTerm) → slice_get args k ≡ Some x → Slight x
slight_args f args slight k x is =
    let size = size_fun f args in
    let less = item_light args k x is in
    let most = slight.0 in
    (omega arith, item_low 8 args k x is (subst (AreBelow 8) (variables_fun f args) slight.1))

slight_part : (t : FoTerm) → Slight t → (k : ℕ) (x : FoTerm) → slice_get (arguments t) k ≡ Some x → Slight x
slight_part = by_cases (λ t. Slight t → (k : ℕ) (x : FoTerm) → slice_get (arguments t) k ≡ Some x → Slight x)
    (λ y slight k x is. let none : slice_get [] k ≡ Some x = sym (ap (λ l. slice_get (layer_arguments l) k) (outs-Var y)) ∙ is in cc)
    (λ f args each slight k x is. slight_args f args slight k x (sym (ap (λ l. slice_get (layer_arguments l) k) (outs-Fun f args)) ∙ is))

in_option : (path : List ℕ) (o : Option FoTerm) (u : FoTerm) → ((x : FoTerm) → o ≡ Some x → at_path path x ≡ Some u → Slight u) → option_and_then (at_path path) o ≡ Some u → Slight u
in_option path None u each is = cc
in_option path (Some x) u each is = each x refl is

slight_below : (path : List ℕ) (t u : FoTerm) → Slight t → at_path path t ≡ Some u → Slight u
slight_below [] t u slight is = subst Slight (some_same t u is) slight
slight_below (k ∷ path) t u slight is = in_option path (slice_get (arguments t) k) u (λ x at rest. slight_below path x u (slight_part t slight k x at) rest) is

pub slight_at : (path : List ℕ) (a : Atom) (u : FoTerm) → SlightAtom a → at_atom_path path a ≡ Some u → Slight u
slight_at [] a u slight is = cc
slight_at (k ∷ path) (Holds t) u slight is = in_option path (slice_get (t ∷ []) k) u (λ x at rest. slight_below path x u (first_of k x at) rest) is
  where
    first_of : (k : ℕ) (x : FoTerm) → slice_get (t ∷ []) k ≡ Some x → Slight x
    first_of zero x at = subst Slight (some_same t x at) slight
    first_of (suc k) x at = cc
slight_at (k ∷ path) (Eq s t) u slight is = in_option path (slice_get (s ∷ t ∷ []) k) u (λ x at rest. slight_below path x u (side_of k x at) rest) is
  where
    side_of : (k : ℕ) (x : FoTerm) → slice_get (s ∷ t ∷ []) k ≡ Some x → Slight x
    side_of zero x at = subst Slight (some_same s x at) slight.0
    side_of (suc zero) x at = subst Slight (some_same t x at) slight.1
    side_of (suc (suc k)) x at = cc
