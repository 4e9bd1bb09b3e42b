-- How a tree grows by a word.
use Rattle.std.specs.Prelude.{◌≡◌, ◌⊎◌, ℕ, ◌<◌, List, [], ◌∷◌, ◌++◌, length, slice_set}
use Rattle.std.proofs.Common.{get_or}
use Rattle.unit_tree.specs.declared.token.Token.{Token}
use Rattle.unit_tree.specs.declared.token.Edge.{Edge}
use Rattle.unit_tree.specs.Tree.{Reached, IsTree, onto}

-- the word, its last token first, is the front of that one
abbrev pub IsFront : List Token → List Token → Type 0
IsFront word whole = (rest : List Token) × (rest ++ word ≡ onto whole [])

-- still a tree, in which one more token leads from one node to another, and what is new is reached by it
pub record GrowsBy (old new : List (List Edge)) (at : ℕ) (token : Token) (to : ℕ) : Type 0 where
  pub tree : IsTree new
  pub within : to < length new
  pub stays : (word : List Token) (n : ℕ) → Reached old word n → Reached new word n
  pub leads : (word : List Token) → Reached old word at → Reached new (token ∷ word) to
  pub apart : (word : List Token) (n : ℕ) → Reached new word n → Reached old word n ⊎ ((front : List Token) × (word ≡ token ∷ front) × Reached old front at)

-- still a tree, in which fronts of the word alone are new
pub record Grows (old new : List (List Edge)) (whole : List Token) : Type 0 where
  pub tree : IsTree new
  pub stays : (word : List Token) (n : ℕ) → Reached old word n → Reached new word n
  pub apart : (word : List Token) (n : ℕ) → Reached new word n → ((m : ℕ) × Reached old word m) ⊎ IsFront word whole

-- one more node, and an edge that leads to it
abbrev pub grown : List (List Edge) → ℕ → Token → List (List Edge)
grown nodes at token = slice_set nodes at (get_or nodes at [] ++ record { token = token; to = length nodes } ∷ []) ++ [] ∷ []
