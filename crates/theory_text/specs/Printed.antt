-- How a theory is printed: its types, its constants, and then its facts and goals in their order.
use Rattle.std.specs.Prelude.{◌≡◌, ℕ, ◌+◌, ◌≤◌, nat_le, Bool, ◌&&◌, List, [], ◌∷◌, ◌++◌, take, drop, Option, Some, None}
use Rattle.std.specs.List.{list_all, prefix_len}
use Rattle.hol_terms.specs.declared.term.Term.{Term}
use Rattle.theory_syntax.specs.Grammar.{Whole}
use Rattle.theory_terms.specs.declared.decl.Decl.{Decl}
use Rattle.theory_terms.specs.Signature.{Declared}
use Rattle.theory_terms.specs.Meanings.{depth}
use Rattle.theory_print.specs.Lexemes.{Lexeme, Name, Colon, TypeWord, ConstWord, FactWord, GoalWord, AssumeWord, Semi}
use Rattle.theory_print.specs.Types.{type_lexemes}
use Rattle.theory_print.specs.Views.{has_text}
use Rattle.theory_print.specs.Written.{sentence_lexemes}
use Rattle.theory_reader.specs.declared.statement.Fact.{Fact}
use Rattle.theory_reader.specs.declared.statement.Goal.{Goal}
use Rattle.theory_reader.specs.Declarations.{Declarations, known}

-- the lexemes of a sentence, none where it can't be written
abbrev pub or_none : Option (List Lexeme) → List Lexeme
or_none (Some xs) = xs
or_none None = []

-- with `k` in the names of bound variables, over the types and constants of the whole theory
module _ (k : ℕ) (all : Declared) where
  abbrev pub shown : Term → List Lexeme
  shown t = or_none (sentence_lexemes k all t)

  abbrev pub type_item : List ℕ → List Lexeme
  type_item n = TypeWord ∷ Name n ∷ Semi ∷ []

  abbrev pub const_item : Decl → List Lexeme
  const_item c = ConstWord ∷ Name c.name ∷ Colon ∷ (type_lexemes all.types c.ty Whole ++ Semi ∷ [])

  abbrev pub fact_item : Fact → List Lexeme
  fact_item f = FactWord ∷ Name f.name ∷ Colon ∷ (shown f.formula ++ Semi ∷ [])

  abbrev pub assumption_items : List Fact → List Lexeme
  assumption_items [] = []
  assumption_items (f ∷ fs) = AssumeWord ∷ Name f.name ∷ Colon ∷ (shown f.formula ++ assumption_items fs)

  abbrev pub goal_item : Goal → List Lexeme
  goal_item g = GoalWord ∷ Name g.name ∷ Colon ∷ (shown g.formula ++ (assumption_items g.assumes ++ Semi ∷ []))

  abbrev pub type_items : List (List ℕ) → List Lexeme
  type_items [] = []
  type_items (n ∷ ns) = type_item n ++ type_items ns

  abbrev pub const_items : List Decl → List Lexeme
  const_items [] = []
  const_items (c ∷ cs) = const_item c ++ const_items cs

  abbrev pub goal_items : List Goal → List Lexeme
  goal_items [] = []
  goal_items (g ∷ gs) = goal_item g ++ goal_items gs

  -- a goal that stands before the fact at this place
  abbrev pub stands_before : ℕ → Goal → Bool
  stands_before i g = nat_le g.before i

  -- the number of goals that stand before the fact at this place
  abbrev pub goals_before : ℕ → List Goal → ℕ
  goals_before i gs = prefix_len (stands_before i) gs

  -- facts, the first of which has this place, each behind the goals that stand before it
  abbrev pub statements : ℕ → List Fact → List Goal → List Lexeme
  statements i [] gs = goal_items gs
  statements i (f ∷ fs) gs =
      goal_items (take (goals_before i gs) gs) ++ (fact_item f ++ statements (i + 1) fs (drop (goals_before i gs) gs))

  -- a sentence that can be written, and whose tree is no deeper than any that is read
  abbrev pub IsWritten : Term → Type 0
  IsWritten t = (xs : List Lexeme) × (sentence_lexemes k all t ≡ Some xs) × (depth t ≤ 1024)

  abbrev pub FactsWritten : List Fact → Type 0
  FactsWritten [] = Unit {0}
  FactsWritten (f ∷ fs) = IsWritten f.formula × FactsWritten fs

  abbrev pub GoalsWritten : List Goal → Type 0
  GoalsWritten [] = Unit {0}
  GoalsWritten (g ∷ gs) = (IsWritten g.formula × FactsWritten g.assumes) × GoalsWritten gs

-- some text has each fact's sentence
abbrev pub facts_have_text : List Fact → Bool
facts_have_text = list_all (λ f. has_text f.formula)

abbrev pub goal_has_text : Goal → Bool
goal_has_text g = has_text g.formula && facts_have_text g.assumes

-- some text has each sentence of a theory
abbrev pub sentences_have_text : Declarations → Bool
sentences_have_text t = facts_have_text t.facts && list_all goal_has_text t.goals

-- the lexemes of a theory
abbrev pub theory_lexemes : ℕ → Declarations → List Lexeme
theory_lexemes k t =
    type_items k (known t) t.types ++ (const_items k (known t) t.consts ++ statements k (known t) 0 t.facts t.goals)
