-- Tables by constant: what a write changes, and sets and counts as functions.
use Rattle.std.proofs.Common.{◌≡◌, ℕ, ◌+◌, take, ◌<◌, Bool, true, false, List, [], ◌∷◌, ◌++◌, length, get_or, set, refl, sym, ap, ◌∙◌, zero, suc}
use Rattle.std.specs.Prelude.{◌||◌, ◌==◌, map}
use Rattle.std.proofs.lemmas.List.{take_more}
use mathlib.Core.Path.{fun_ext}
use Rattle.mepo_filter.specs.Constants.{occurs_in, with_constant, with_all}

pub or-false : (b : Bool) → (b || false) ≡ b
or-false true = refl
or-false false = refl

pub or-assoc : (a b c : Bool) → ((a || b) || c) ≡ (a || (b || c))
or-assoc true b c = refl
or-assoc false b c = refl

pub occurs-push : (cs : List ℕ) (c d : ℕ) → occurs_in (cs ++ c ∷ []) d ≡ (occurs_in cs d || (c == d))
occurs-push [] c d = or-false (c == d)
occurs-push (e ∷ es) c d = ap (λ b. (e == d) || b) (occurs-push es c d) ∙ sym (or-assoc (e == d) (occurs_in es d) (c == d))

-- one constant more put into a set
pub with_all-push : (set : ℕ → Bool) (cs : List ℕ) (c : ℕ) → with_constant (with_all set cs) c ≡ with_all set (cs ++ c ∷ [])
with_all-push set cs c = fun_ext (λ (d : ℕ).
    or-assoc (set d) (occurs_in cs d) (c == d) ∙ ap (λ b. set d || b) (sym (occurs-push cs c d)))

pub with_all-more : (set : ℕ → Bool) (xs : List ℕ) (i : ℕ) → i < length xs → with_constant (with_all set (take i xs)) (get_or xs i 0) ≡ with_all set (take (i + 1) xs)
with_all-more set xs i within = with_all-push set (take i xs) (get_or xs i 0) ∙ ap (with_all set) (sym (take_more xs i 0 within))

-- a table by a function, also beyond its end
pub get_or-map : (f : ℕ → ℕ) (xs : List ℕ) (i d : ℕ) → get_or (map f xs) i (f d) ≡ f (get_or xs i d)
get_or-map f [] i d = refl
get_or-map f (x ∷ xs) zero d = refl
get_or-map f (x ∷ xs) (suc i) d = get_or-map f xs i d
