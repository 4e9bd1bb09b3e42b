-- The order in which the facts of one round are ranked.
use Rattle.std.specs.Prelude.{◌*◌, Bool, nat_lt, max, if◌then◌else◌, List, [], ◌∷◌}
use Rattle.mepo_filter.specs.declared.chosen.Chosen.{Chosen}

-- an element put into a list in front of the first that doesn't come before it
abbrev pub placed : {X : Type 0} → (X → X → Bool) → X → List X → List X
placed before x [] = x ∷ []
placed before x (y ∷ ys) = if before y x then y ∷ placed before x ys else x ∷ y ∷ ys

-- a list in order; of two elements of which neither comes before the other, the earlier one stays in front
abbrev pub in_order : {X : Type 0} → (X → X → Bool) → List X → List X
in_order before [] = []
in_order before (x ∷ xs) = placed before x (in_order before xs)

-- the first has the greater score: fractions are compared by their cross products. No bottom is 0.
abbrev pub is_above : Chosen → Chosen → Bool
is_above a b = nat_lt (b.top * max 1 a.bottom) (a.top * max 1 b.bottom)

-- facts in order of place, ranked: the greater score first, and of equal scores the earlier place
abbrev pub ranked : List Chosen → List Chosen
ranked fs = in_order is_above fs
