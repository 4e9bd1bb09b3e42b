-- Derivations of the empty clause from the clauses of statements, each clause with a number.
use Rattle.std.specs.Prelude.{◌≡◌, ℕ, ◌<◌, List, [], ◌∷◌, ◌++◌, length, All, Contains, Some, slice_get}
use Rattle.std.specs.Option.{option_map_or}
use Rattle.std.specs.List.{flat_map}
use Rattle.fo_terms.specs.declared.clause.Clause.{Clause}
use Rattle.fo_terms.specs.Normal.{normal_of}
use Rattle.fo_infer.specs.declared.made.Rule.{Rule}
use Rattle.fo_infer.specs.declared.refutation.Line.{Line}
use Rattle.fo_infer.specs.declared.refutation.Origin.{Origin}
use Rattle.fo_infer.specs.declared.refutation.Origin.TheVariants.{Input, Alone, Pair}
use Rattle.fo_infer.specs.Inferences.{plain_position, AloneGives, PairGives}
use Rattle.fol_cnf.specs.declared.named_clause.NamedClause.{NamedClause}

-- a line with its number
pub record Numbered : Type 0 where
  pub number : ℕ
  pub line : Line

-- the line at a place, with it, where there is one
abbrev pub numbered_at : List Line → ℕ → List Numbered
numbered_at lines n = option_map_or (λ l. record { number = n; line = l } ∷ []) (slice_get lines n) []

-- the lines at these places
abbrev pub numbered : List Line → List ℕ → List Numbered
numbered lines ns = flat_map (numbered_at lines) ns

-- the clause is, in normal form, the one with this number among the statements' clauses, and its statement is cited
pub record IsOfStatement (cs : List NamedClause) (cited : List ℕ) (number : ℕ) (c : Clause) : Type 0 where
  pub named : NamedClause
  pub named_is : slice_get cs number ≡ Some named
  pub statement : Contains cited named.statement
  pub normal : c.literals ≡ normal_of named.clause.literals

-- the rule gives the clause from an earlier line's
pub record FollowsOne (earlier : List Numbered) (of : ℕ) (rule : Rule) (c : Clause) : Type 0 where
  pub parent : Numbered
  pub parent_in : Contains earlier parent
  pub parent_is : parent.number ≡ of
  pub gives : AloneGives parent.line.clause rule c

-- the rule gives the clause from two earlier lines'
pub record FollowsTwo (earlier : List Numbered) (left right : ℕ) (rule : Rule) (c : Clause) : Type 0 where
  pub left_parent : Numbered
  pub right_parent : Numbered
  pub left_in : Contains earlier left_parent
  pub left_is : left_parent.number ≡ left
  pub right_in : Contains earlier right_parent
  pub right_is : right_parent.number ≡ right
  pub gives : PairGives plain_position left_parent.line.clause right_parent.line.clause rule c

-- the clause is one of a cited statement, or follows by its rule from earlier lines
abbrev pub Follows : List NamedClause → List ℕ → List Numbered → Origin → Clause → Type 0
Follows cs cited earlier (Input number) c = IsOfStatement cs cited number c
Follows cs cited earlier (Alone of rule) c = FollowsOne earlier of rule c
Follows cs cited earlier (Pair left right rule) c = FollowsTwo earlier left right rule c

abbrev pub FollowAll : List NamedClause → List ℕ → List Numbered → List Numbered → Type 0
FollowAll cs cited earlier [] = Unit {0}
FollowAll cs cited earlier (x ∷ xs) = Follows cs cited earlier x.line.origin x.line.clause × FollowAll cs cited (earlier ++ x ∷ []) xs

-- each line follows from those before it, and the last one is the empty clause. The cited statements are among the first `count`
pub record IsDerivation (cs : List NamedClause) (count : ℕ) (cited : List ℕ) (xs : List Numbered) : Type 0 where
  pub statements : All (λ s. s < count) cited
  pub follow : FollowAll cs cited [] xs
  pub before : List Numbered
  pub last : Numbered
  pub ends : xs ≡ before ++ last ∷ []
  pub empty : last.line.clause.literals ≡ []
