-- Room for ids of which none comes twice.
use Rattle.std.proofs.Common.{◌≡◌, ℕ, ◌<◌, true, false, List, [], ◌∷◌, ◌++◌, length, refl, sym, ap, ◌∙◌, subst, arith, length-append, All, zero, suc}
use Rattle.std.specs.Prelude.{nat_eq, ◌||◌}
use Rattle.std.specs.List.{list_any, IsDistinct}
use Rattle.std.specs.Cmp.{nat_eq_equiv}
use Rattle.std.proofs.lemmas.Bool.{eqb-true}
use Rattle.std.proofs.lemmas.List.Elements.{All-append}
use Rattle.std.proofs.lemmas.Map.Keys.{IsDistinct-push}
use Rattle.std.proofs.lemmas.Map.Views.{Contains-from_any}
use Rattle.std.proofs.lemmas.Map.Steps.{length-le_from_distinct_below}
use Rattle.race_core.specs.Standings.{is_listed}
use Rattle.race_outside.specs.inner.Notes.{HasRoom}

flips : (i : ℕ) (ids : List ℕ) → list_any (nat_eq i) ids ≡ is_listed i ids
flips i [] = refl
flips i (j ∷ ids) = ap (λ b. b || list_any (nat_eq i) ids) (nat_eq_equiv.symm i j) ∙ ap (λ b. nat_eq j i || b) (flips i ids)

only : (n i : ℕ) → i < n → All (λ x. x < n) (i ∷ [])
only n i l zero d within = l
only n i l (suc k) d within = absurd (omega arith)

none-more : (bound : ℕ) (ids : List ℕ) (capacity i : ℕ) → HasRoom bound ids capacity → i < bound → is_listed i ids ≡ false → IsDistinct nat_eq (ids ++ i ∷ []) × All (λ x. x < bound) (ids ++ i ∷ [])
none-more bound ids capacity i h l apart =
    (IsDistinct-push nat_eq_equiv ids i h.distinct (flips i ids ∙ apart), All-append (λ x. x < bound) ids (i ∷ []) h.below (only bound i l))

listed-below : (bound : ℕ) (ids : List ℕ) → All (λ x. x < bound) ids → (q : ℕ) → list_any (nat_eq q) ids ≡ true → q < bound
listed-below bound ids all q found =
    let at = Contains-from_any (λ x y e. eqb-true x y e) q ids found in
    let below = all at.0 q at.1 in
    omega (arith, below, at.2)

-- there is room for an id that isn't noted
pub room-left : (bound : ℕ) (ids : List ℕ) (capacity i : ℕ) → HasRoom bound ids capacity → i < bound → is_listed i ids ≡ false → length ids < capacity
room-left bound ids capacity i h l apart =
    let more = none-more bound ids capacity i h l apart in
    omega (arith, length-le_from_distinct_below (ids ++ i ∷ []) bound more.0 (listed-below bound (ids ++ i ∷ []) more.1), length-append ids (i ∷ []), h.room)

pub room-kept : (bound : ℕ) (ids next : List ℕ) (capacity now i : ℕ) → HasRoom bound ids capacity → i < bound → is_listed i ids ≡ false → next ≡ ids ++ i ∷ [] → now ≡ capacity → HasRoom bound next now
room-kept bound ids next capacity now i h l apart is same =
    let more = none-more bound ids capacity i h l apart in
    let P : List ℕ → Type 0 = λ xs. HasRoom bound xs now in
    subst P (sym is) (record { distinct = more.0; below = more.1; room = omega (arith, h.room, same) })

pub no-ids : (bound : ℕ) (ids : List ℕ) (capacity : ℕ) → bound ≡ 0 → ids ≡ [] → HasRoom bound ids capacity
unfolding IsDistinct
no-ids bound ids capacity empty is =
    let P : List ℕ → Type 0 = λ xs. HasRoom bound xs capacity in
    subst P (sym is) (record { distinct = tt; below = λ k d within. absurd (omega arith); room = omega arith })
