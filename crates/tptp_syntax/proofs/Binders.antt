-- The number of a name's innermost binder tells whether the name is bound, and with which number.
use Rattle.std.proofs.Common.{◌≡◌, ℕ, Bool, true, false, nat_eq, List, [], ◌∷◌, length, refl, sym, subst, if◌then◌else◌, Some}
use Rattle.std.specs.Prelude.{◌||◌, MatchOption, Option}
use Rattle.tptp_syntax.specs.Grammar.{is_bound, bound_number}
use Rattle.tptp_syntax.specs.inner.Binders.{innermost}

abbrev pub Told : ℕ → List ℕ → Option ℕ → Type 0
Told x vs o = MatchOption o (is_bound x vs ≡ false) (λ n. (is_bound x vs ≡ true) × (n ≡ bound_number x vs))

pub told : (x : ℕ) (vs : List ℕ) → Told x vs (innermost x vs)
told x [] = refl
told x (y ∷ vs) = by (nat_eq x y) (innermost x vs) (told x vs)
  where
    by : (b : Bool) (o : Option ℕ) → Told x vs o →
        MatchOption (if b then Some (length vs) else o) (b || is_bound x vs ≡ false) (λ n. (b || is_bound x vs ≡ true) × (n ≡ (if b then length vs else bound_number x vs)))
    by true o h = (refl, refl)
    by false o h = h

pub answered : (x : ℕ) (vs ws : List ℕ) (o : Option ℕ) → o ≡ innermost x vs → vs ≡ ws → Told x ws o
answered x vs ws o is seen = subst (λ us. Told x us o) seen (subst (λ p. Told x vs p) (sym is) (told x vs))
