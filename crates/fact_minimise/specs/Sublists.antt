-- Lists that come of a list by leaving out.
use Rattle.std.specs.Prelude.{ℕ, ◌==◌, not, List, [], ◌∷◌, filter}

-- some elements of a list, in their order
pub data IsSublist : List ℕ → List ℕ → Type 0 where
  none : IsSublist [] []
  with_first : {x : ℕ} {xs ys : List ℕ} → IsSublist xs ys → IsSublist (x ∷ xs) (x ∷ ys)
  without_first : {y : ℕ} {xs ys : List ℕ} → IsSublist xs ys → IsSublist xs (y ∷ ys)

-- a list without a fact
abbrev pub without : ℕ → List ℕ → List ℕ
without fact facts = filter (λ x. not (x == fact)) facts
