-- The order of Knuth and Bendix, by its rules.
use Rattle.std.specs.Prelude.{◌≡◌, ◌≢◌, ℕ, ◌<◌, List, ◌∷◌}
use Rattle.fo_terms.specs.declared.term.FoTerm.{FoTerm, Fun}
use Rattle.fo_terms.specs.Weight.{size_of, capped}
use Rattle.fo_order.specs.declared.comparing.Order.{Order}
use Rattle.fo_order.specs.declared.comparing.Order.TheVariants.{Less, Equal, Greater, Unknown}
use Rattle.fo_order.specs.Counts.{Covers}

mutual
  -- s is greater than t: each variable occurs in s at least as often as in t, and s ranks above t
  pub data Above : FoTerm → FoTerm → Type 0 where
    above : {s t : FoTerm} → Covers s t → Outranks s t → Above s t

  pub data Outranks : FoTerm → FoTerm → Type 0 where
    -- s is heavier
    heavier : {s t : FoTerm} → capped (size_of t) < capped (size_of s) → Outranks s t
    -- they weigh the same, and the head of s is later
    later : {s t : FoTerm} → capped (size_of t) ≡ capped (size_of s)
        → (f g : ℕ) (xs ys : List FoTerm) → s ≡ Fun f xs → t ≡ Fun g ys → g < f → Outranks s t
    -- they weigh the same, the heads are equal, and at the first argument where they differ that of s is greater
    first : {s t : FoTerm} → capped (size_of t) ≡ capped (size_of s)
        → (f : ℕ) (xs ys : List FoTerm) → s ≡ Fun f xs → t ≡ Fun f ys → AboveFirst xs ys → Outranks s t

  -- at the first place, of those that both lists have, where they differ, the left one's term is greater
  pub data AboveFirst : List FoTerm → List FoTerm → Type 0 where
    here : {x y : FoTerm} {xs ys : List FoTerm} → Above x y → AboveFirst (x ∷ xs) (y ∷ ys)
    next : {x y : FoTerm} {xs ys : List FoTerm} → x ≡ y → AboveFirst xs ys → AboveFirst (x ∷ xs) (y ∷ ys)

-- the answer says how s stands to t
abbrev pub OrderOf : FoTerm → FoTerm → Order → Type 0
OrderOf s t Less = Above t s
OrderOf s t Equal = s ≡ t
OrderOf s t Greater = Above s t
OrderOf s t Unknown = (s ≢ t) × (Above s t → ⊥) × (Above t s → ⊥)

-- the same, before variables are counted
abbrev pub RankOf : FoTerm → FoTerm → Order → Type 0
RankOf s t Less = Outranks t s
RankOf s t Equal = s ≡ t
RankOf s t Greater = Outranks s t
RankOf s t Unknown = (s ≢ t) × (Outranks s t → ⊥) × (Outranks t s → ⊥)

-- the same of the arguments of equal heads
abbrev pub RankOfFirst : List FoTerm → List FoTerm → Order → Type 0
RankOfFirst xs ys Less = AboveFirst ys xs
RankOfFirst xs ys Equal = xs ≡ ys
RankOfFirst xs ys Greater = AboveFirst xs ys
RankOfFirst xs ys Unknown = (xs ≢ ys) × (AboveFirst xs ys → ⊥) × (AboveFirst ys xs → ⊥)
