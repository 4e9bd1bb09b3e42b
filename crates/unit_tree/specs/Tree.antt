-- A tree of the words that literals are, and what a literal of it subsumes.
use Rattle.std.specs.Prelude.{◌≡◌, ℕ, ◌<◌, List, [], ◌∷◌, ◌++◌, length, map, Contains}
use Rattle.std.proofs.Common.{get_or}
use Rattle.fo_terms.specs.declared.term.FoTerm.{FoTerm}
use Rattle.fo_terms.specs.declared.literal.Literal.{Literal}
use Rattle.fo_terms.specs.Substitution.{put_literal}
use Rattle.fo_cells.specs.declared.cell.Cell.{Cell}
use Rattle.fo_cells.specs.declared.cell.Cell.TheVariants.{Var, Fun}
use Rattle.fo_cells.specs.Cells.{is_equation, atom_cells}
use Rattle.unit_tree.specs.declared.token.Token.{Token}
use Rattle.unit_tree.specs.declared.token.Token.TheVariants.{Head, Variable, Symbol, End}
use Rattle.unit_tree.specs.declared.token.Edge.{Edge}

abbrev pub token_of : Cell → Token
token_of (Var x) = Variable x
token_of (Fun n size f) = Symbol n f

-- its sign and kind, then its terms in reading order
abbrev pub word_of : Literal → List Token
word_of l = Head l.positive (is_equation l.atom) ∷ (map token_of (atom_cells l.atom) ++ End ∷ [])

-- an edge of the first node that says this token leads to the second
abbrev pub Leads : List (List Edge) → ℕ → Token → ℕ → Type 0
Leads nodes from token to = Contains (get_or nodes from []) (record { token = token; to = to })

-- the word, its last token first, leads from the first node to this one
abbrev pub Reached : List (List Edge) → List Token → ℕ → Type 0
Reached nodes [] to = to ≡ 0
Reached nodes (token ∷ word) to = (from : ℕ) × Reached nodes word from × Leads nodes from token to

-- the second list behind the first one, which is turned round
abbrev pub onto : {X : Type 0} → List X → List X → List X
onto [] ys = ys
onto (x ∷ xs) ys = onto xs (x ∷ ys)

-- the tree holds the literal
abbrev pub Holds : List (List Edge) → Literal → Type 0
Holds nodes l = (to : ℕ) × Reached nodes (onto (word_of l) []) to

-- edges lead to later nodes, and to no node two
pub record IsTree (nodes : List (List Edge)) : Type 0 where
  pub rooted : 0 < length nodes
  pub later : (from to : ℕ) (token : Token) → Leads nodes from token to → from < to
  pub within : (from to : ℕ) (token : Token) → Leads nodes from token to → to < length nodes
  pub one : (from other to : ℕ) (token last : Token) → Leads nodes from token to → Leads nodes other last to → (from ≡ other) × (token ≡ last)

-- some literal of the tree has an instance among the literals
abbrev pub SubsumesOne : List (List Edge) → List Literal → Type 0
SubsumesOne nodes ls = (l : Literal) × Holds nodes l × ((v : ℕ → FoTerm) × Contains ls (put_literal v l))
