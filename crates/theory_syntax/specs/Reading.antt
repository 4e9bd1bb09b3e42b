-- What the tokens of a theory file read as, and where their first fault is.
use Rattle.std.specs.Prelude.{ℕ, List}
use Rattle.first_fault.specs.Answers as answers
pub use Rattle.first_fault.specs.Levels.{Within}
pub use Rattle.first_fault.specs.Answers.{Text, Syntax, TooDeep, Tells}
use Rattle.first_fault.specs.declared.fault.Fault.{Fault}
use Rattle.theory_syntax.specs.declared.tokens.Tok.{Tok}
use Rattle.theory_syntax.specs.declared.tree.Item.{Item}
use Rattle.theory_syntax.specs.Grammar.{Placed, IsTheory}

-- derivable with every level within the limit `m`
abbrev pub Reads : ℕ → List Tok → List Item → Type 0
Reads m ts ds = answers.Reads Tok (List Item) IsTheory m ts ds

-- some theory goes on so
abbrev pub Begins : List Placed → Type 0
Begins p = answers.Begins Tok (List Item) IsTheory p

abbrev pub SyntaxAt : ℕ → List Tok → ℕ → Type 0
SyntaxAt m ts place = answers.SyntaxAt Tok (List Item) IsTheory m ts place

abbrev pub TooDeepAt : ℕ → List Tok → ℕ → Type 0
TooDeepAt m ts place = answers.TooDeepAt Tok (List Item) IsTheory m ts place

abbrev pub Answer : Type 0
Answer = answers.Answer (List Item)

abbrev pub IsAnswer : ℕ → List Tok → Answer → Type 0
IsAnswer m ts a = answers.IsAnswer Tok (List Item) IsTheory m ts a

-- the tokens have this fault, at this place among them; want of memory is free
abbrev pub Refused : ℕ → List Tok → Fault → Type 0
Refused m ts e = answers.Refused Tok (List Item) IsTheory m ts e

-- each list of tokens has an answer, and none has two
abbrev pub SomeAnswer : Type 0
SomeAnswer = answers.SomeAnswer Tok (List Item) IsTheory

abbrev pub OneAnswer : Type 0
OneAnswer = answers.OneAnswer Tok (List Item) IsTheory
