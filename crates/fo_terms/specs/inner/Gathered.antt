-- Lists that grow by items that they don't hold yet, and lent literals as plain ones.
use Rattle.std.specs.Prelude.{Bool, if◌then◌else◌, List, [], ◌∷◌, ◌++◌, map}
use Rattle.std.specs.List.{list_any}
use Rattle.std.specs.Borrow.{Bor}
use Rattle.fo_terms.specs.declared.literal.Literal.{Literal}
use Rattle.fo_terms.specs.Same.{is_literal}
use Rattle.fo_terms.specs.Normal.{is_refuted}

-- the item at the end, where the list doesn't hold it
abbrev pub added : {X : Type 0} → (X → X → Bool) → List X → X → List X
added same xs x = if list_any (λ y. same y x) xs then xs else xs ++ x ∷ []

abbrev pub all_added : {X : Type 0} → (X → X → Bool) → List X → List X → List X
all_added same xs [] = xs
all_added same xs (y ∷ ys) = all_added same (added same xs y) ys

-- the literal at the end, where it isn't refuted and isn't there yet
abbrev pub kept : List Literal → Literal → List Literal
kept ls l = if is_refuted l then ls else added is_literal ls l

-- lent literals
abbrev pub lent : List (Bor Literal) → List Literal
lent ls = map (λ l. l.now) ls
