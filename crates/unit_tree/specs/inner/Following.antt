-- Ways through the tree, and how the terms of a literal are followed.
use Rattle.std.specs.Prelude.{◌≡◌, ℕ, List, [], ◌∷◌, ◌++◌, length}
use Rattle.fo_terms.specs.declared.term.FoTerm.{FoTerm}
use Rattle.fo_terms.specs.Substitution.{fun}
use Rattle.unit_tree.specs.declared.token.Token.{Token}
use Rattle.unit_tree.specs.declared.token.Token.TheVariants.{Head, Variable, Symbol, End}
use Rattle.unit_tree.specs.declared.token.Edge.{Edge}
use Rattle.unit_tree.specs.Tree.{Leads}

-- the word leads on from this node
abbrev pub GoesOn : List (List Edge) → ℕ → List Token → Type 0
GoesOn nodes from [] = Unit {0}
GoesOn nodes from (token ∷ word) = (to : ℕ) × Leads nodes from token to × GoesOn nodes to word

-- with these values of variables, the word is that of the terms
abbrev pub Matches : (ℕ → FoTerm) → List Token → List FoTerm → Type 0
Matches v [] ts = ⊥
Matches v (Head positive equation ∷ word) ts = ⊥
Matches v (End ∷ word) ts = (word ≡ []) × (ts ≡ [])
Matches v (Variable x ∷ word) [] = ⊥
Matches v (Variable x ∷ word) (t ∷ ts) = (v x ≡ t) × Matches v word ts
Matches v (Symbol n f ∷ word) [] = ⊥
Matches v (Symbol n f ∷ word) (t ∷ ts) = (args : List FoTerm) × (t ≡ fun f args) × (length args ≡ n) × Matches v word (args ++ ts)
