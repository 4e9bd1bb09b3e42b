-- Literals that are added to a clause in normal form but for its numbers, as long as they weigh at most 512 together.
use Rattle.std.specs.Prelude.{◌≡◌, ℕ, ◌<◌, ◌≤◌, Bool, true, false, List, [], ◌∷◌, map, sum}
use Rattle.fo_terms.specs.declared.literal.Literal.{Literal}
use Rattle.fo_terms.specs.Weight.{literal_size}
use Rattle.fo_terms.specs.Normal.{normal_of}
use Rattle.fo_terms.specs.inner.Gathered.{kept}

abbrev pub weight_of : List Literal → ℕ
weight_of ls = sum (map literal_size ls)

-- the literals behind the others, one after another: those that never hold and those that are there already are left out
abbrev pub all_kept : List Literal → List Literal → List Literal
all_kept old [] = old
all_kept old (l ∷ ls) = all_kept (kept old l) ls

-- they are added and weigh at most 512 with the others, or they would weigh more
abbrev pub Grown : List Literal → List Literal → Bool → List Literal → Type 0
Grown old ls true new = (new ≡ all_kept old ls) × (weight_of new ≤ 512)
Grown old ls false new = 512 < weight_of (all_kept old ls)

-- the normal form of these literals, which weighs at most 512, or it is heavier
abbrev pub Concluded : List Literal → Bool → List Literal → Type 0
Concluded ls true out = (out ≡ normal_of ls) × (weight_of out ≤ 512)
Concluded ls false out = 512 < weight_of (normal_of ls)
