-- Where no slot loses its pipe.
use Rattle.std.specs.Prelude.{ℕ, ◌≡◌, ◌⊎◌, List, [], ◌∷◌, Option, None}
use Rattle.race_core.specs.declared.slot.SlotEnd.{SlotEnd}

-- each of these slots keeps what was read of its own pipe, or nothing
abbrev pub AreUnlost : {P : Type 0} → List (SlotEnd P) → Type 0
AreUnlost [] = Unit {0}
AreUnlost (end ∷ ends) = (end.kept.stray ≡ None) × AreUnlost ends

-- there is one slot, or one worker and no limit of time
abbrev pub IsAlone : (slots workers : ℕ) → Option ℕ → Type 0
IsAlone slots workers limit = (slots ≡ 1) ⊎ ((workers ≡ 1) × (limit ≡ None))
