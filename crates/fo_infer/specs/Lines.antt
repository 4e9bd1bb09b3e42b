-- Refutations: each line follows by its origin.
use Rattle.std.specs.Prelude.{◌≡◌, ℕ, List, [], ◌∷◌, ◌++◌, Some, slice_get}
use Rattle.fo_terms.specs.declared.clause.Clause.{Clause}
use Rattle.fo_terms.specs.Normal.{normal_of}
use Rattle.fo_infer.specs.declared.refutation.Line.{Line}
use Rattle.fo_infer.specs.declared.refutation.Origin.{Origin}
use Rattle.fo_infer.specs.declared.refutation.Origin.TheVariants.{Input, Alone, Pair}
use Rattle.fo_infer.specs.declared.made.Rule.{Rule}
use Rattle.fo_infer.specs.Inferences.{Position, AloneGives, PairGives}

-- the clause is the normal form of an input
pub record FollowsInput (inputs : List Clause) (number : ℕ) (c : Clause) : Type 0 where
  pub input : Clause
  pub input_is : slice_get inputs number ≡ Some input
  pub normal : c.literals ≡ normal_of input.literals

-- an earlier line's rule gives the clause
pub record FollowsAlone (earlier : List Clause) (of : ℕ) (rule : Rule) (c : Clause) : Type 0 where
  pub parent : Clause
  pub parent_is : slice_get earlier of ≡ Some parent
  pub gives : AloneGives parent rule c

-- two earlier lines' rule gives the clause
pub record FollowsPair (position : Position) (earlier : List Clause) (left right : ℕ) (rule : Rule) (c : Clause) : Type 0 where
  pub left_parent : Clause
  pub right_parent : Clause
  pub left_is : slice_get earlier left ≡ Some left_parent
  pub right_is : slice_get earlier right ≡ Some right_parent
  pub gives : PairGives position left_parent right_parent rule c

-- the clause follows from inputs and earlier clauses by its origin
abbrev pub Follows : Position → List Clause → List Clause → Origin → Clause → Type 0
Follows position inputs earlier (Input number) c = FollowsInput inputs number c
Follows position inputs earlier (Alone of rule) c = FollowsAlone earlier of rule c
Follows position inputs earlier (Pair left right rule) c = FollowsPair position earlier left right rule c

-- each line follows by its origin from the lines before it, the list's clauses standing before all of them
abbrev pub FollowFrom : Position → List Clause → List Clause → List Line → Type 0
FollowFrom position inputs earlier [] = Unit {0}
FollowFrom position inputs earlier (l ∷ ls) = Follows position inputs earlier l.origin l.clause × FollowFrom position inputs (earlier ++ l.clause ∷ []) ls

-- each line follows by its origin, and the last one is the empty clause
pub record Refutes (position : Position) (inputs : List Clause) (lines : List Line) : Type 0 where
  pub follow : FollowFrom position inputs [] lines
  pub before : List Line
  pub last : Line
  pub ends : lines ≡ before ++ last ∷ []
  pub empty : last.clause.literals ≡ []
