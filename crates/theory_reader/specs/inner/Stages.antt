-- What the private stages of the reader promise.
use Rattle.std.specs.Prelude.{◌≡◌, ℕ, List, Result, Ok, Err, IsTrue}
use Rattle.text_kit.specs.declared.cut.Token.{Token}
use Rattle.first_fault.specs.declared.fault.Fault.{Fault}
use Rattle.first_fault.specs.declared.fault.Fault.TheVariants as syntax
use Rattle.theory_syntax.specs.declared.tree.Item.{Item}
use Rattle.theory_terms.specs.declared.fault.TheoryKind.TheVariants as kind
use Rattle.theory_terms.specs.declared.fault.TheoryFault.{TheoryFault}
use Rattle.theory_terms.specs.declared.fault.TheoryFault.TheVariants as fault
use Rattle.theory_terms.specs.Signature.{sig_of}
use Rattle.theory_terms.specs.Answers.{Answer, Good, Refused}
use Rattle.theory_reader.specs.declared.statement.Fact.{Fact}
use Rattle.theory_reader.specs.declared.parts.Parts.{Parts}
use Rattle.theory_reader.specs.Declarations.{Declarations, known}
use Rattle.theory_reader.specs.Sound.{fact_names, goal_names, facts_hold_sentences, goals_hold_sentences, are_named, are_distinct, are_behind, are_few}
use Rattle.theory_reader.specs.Toks.{byte_at}
use Rattle.theory_reader.specs.Reading.{ReadsItems, Faulty}

-- the declarations of the text, or its fault before any is looked at
abbrev pub GivesItems : List ℕ → Result (List Item) TheoryFault → Type 0
GivesItems text (Ok items) = ReadsItems text items
GivesItems text (Err (fault.At at k)) = Faulty text at k
GivesItems text (Err fault.NoMemory) = Unit {0}

-- a fault of the grammar by its byte
abbrev pub Located : List ℕ → List Token → Fault → TheoryFault → Type 0
Located text ts (syntax.Syntax place) e = e ≡ fault.At (byte_at text ts place) kind.Syntax
Located text ts (syntax.TooDeep place) e = e ≡ fault.At (byte_at text ts place) kind.TooDeep
Located text ts syntax.NoMemory e = e ≡ fault.NoMemory

-- what is declared so far
abbrev pub so_far : Parts → Declarations
so_far p = record { types = p.known.types; consts = p.known.consts; facts = p.facts; goals = p.goals }

-- the tables of names are those of the facts and of the goals
pub record Agrees (p : Parts) : Type 0 where
  pub facts : p.fact_names ≡ fact_names p.facts
  pub goals : p.goal_names ≡ goal_names p.goals

-- the parts are what the answer says, or the fault is its fault; behind a fault nothing is said of them
abbrev pub Becomes : Answer Declarations → Parts → Result (Unit {0}) TheoryFault → Type 0
Becomes a p (Ok u) = (a ≡ Good (so_far p)) × Agrees p
Becomes a p (Err e) = Refused a e

-- the assumptions are what the answer says, with the table of their names, or the fault is its fault
abbrev pub Assumes : Answer (List Fact) → List (List ℕ) → List Fact → Result (Unit {0}) TheoryFault → Type 0
Assumes a names assumes (Ok u) = (a ≡ Good assumes) × (names ≡ fact_names assumes)
Assumes a names assumes (Err e) = Refused a e

-- what the type of theories keeps, but for the numbers of types and goals
pub record IsSound (d : Declarations) : Type 0 where
  pub facts : IsTrue (facts_hold_sentences (sig_of (known d)) d.facts)
  pub goals : IsTrue (goals_hold_sentences (sig_of (known d)) d.goals)
  pub named : IsTrue (are_named d.types d.consts d.facts d.goals)
  pub distinct : IsTrue (are_distinct d.types d.consts d.facts d.goals)
  pub behind : IsTrue (are_behind d.facts d.goals)
  pub few : IsTrue (are_few d.facts d.goals)
