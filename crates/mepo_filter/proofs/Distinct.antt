-- The distinct numbers of a list, one number more.
use Rattle.std.proofs.Common.{◌≡◌, ℕ, ◌+◌, ◌<◌, Bool, true, false, cond, List, [], ◌∷◌, ◌++◌, length, get_or, take, refl, sym, ap, ◌∙◌, arith}
use Rattle.std.specs.Prelude.{◌||◌, ◌==◌, if◌then◌else◌}
use Rattle.std.proofs.lemmas.List.{take_more}
use Rattle.std.proofs.lemmas.Grind.{fold-append}
use borrow.Author.Tests.{eqb-true}
use mathlib.Core.Path.{fun_ext}
use Rattle.mepo_filter.specs.Constants.{occurs_in, with_constant, with_new, each_once}
use Rattle.mepo_filter.specs.inner.Tables.{met_again, all_met}
use Rattle.mepo_filter.proofs.TableLemmas.{occurs-push}

each_once-more : (xs : List ℕ) (i : ℕ) → i < length xs → each_once (take (i + 1) xs) ≡ with_new (each_once (take i xs)) (get_or xs i 0)
each_once-more xs i within = ap each_once (take_more xs i 0 within) ∙ fold-append with_new [] (take i xs) (get_or xs i 0 ∷ [])

-- a number that was met leaves them, another comes to their end
pub each_once-old : (xs : List ℕ) (i : ℕ) → i < length xs → occurs_in (each_once (take i xs)) (get_or xs i 0) ≡ true →
    each_once (take (i + 1) xs) ≡ each_once (take i xs)
each_once-old xs i within met =
    each_once-more xs i within
    ∙ ap (λ b. cond b (each_once (take i xs)) (each_once (take i xs) ++ get_or xs i 0 ∷ [])) met

pub each_once-new : (xs : List ℕ) (i : ℕ) → i < length xs → occurs_in (each_once (take i xs)) (get_or xs i 0) ≡ false →
    each_once (take (i + 1) xs) ≡ each_once (take i xs) ++ get_or xs i 0 ∷ []
each_once-new xs i within new =
    each_once-more xs i within
    ∙ ap (λ b. cond b (each_once (take i xs)) (each_once (take i xs) ++ get_or xs i 0 ∷ [])) new

pub occurs_in-push : (cs : List ℕ) (c : ℕ) → with_constant (occurs_in cs) c ≡ occurs_in (cs ++ c ∷ [])
occurs_in-push cs c = fun_ext (λ (d : ℕ). sym (occurs-push cs c d))

-- one more of a set is met
counted : (n : ℕ) (a b : Bool) → (b ≡ true → a ≡ false) → (n + (if a then 1 else 0)) + (if b then 1 else 0) ≡ n + (if a || b then 1 else 0)
counted n true true apart = absurd (cc (apart refl))
counted n true false apart = omega arith
counted n false true apart = omega arith
counted n false false apart = omega arith

pub all_met-push : (count : ℕ → ℕ) (cs : List ℕ) (c : ℕ) → occurs_in cs c ≡ false → met_again (all_met count (occurs_in cs)) c ≡ all_met count (occurs_in (cs ++ c ∷ []))
all_met-push count cs c new = fun_ext (λ (d : ℕ).
    counted (count d) (occurs_in cs d) (c == d) (λ same. ap (occurs_in cs) (sym (eqb-true c d same)) ∙ new)
    ∙ ap (λ (b : Bool). count d + (if b then 1 else 0)) (sym (occurs-push cs c d)))
