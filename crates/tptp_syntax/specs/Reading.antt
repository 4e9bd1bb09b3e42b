-- What a text reads as, and where its first fault is.
use Rattle.std.specs.Prelude.{◌≡◌, ◌⊎◌, ℕ, List, [], map, length, get_or}
use Rattle.first_fault.specs.Answers as answers
use Rattle.first_fault.specs.declared.fault.Fault.{Fault}
use Rattle.tptp_syntax.specs.declared.tokens.Tok.{Tok}
use Rattle.tptp_syntax.specs.declared.claim.Claimed.{Claimed}
use Rattle.tptp_syntax.specs.declared.problem.Problem.{Problem}
use Rattle.tptp_syntax.specs.declared.problem.Statement.{Statement}
use Rattle.tptp_syntax.specs.declared.problem.TptpFault.{TptpFault}
use Rattle.tptp_syntax.specs.declared.problem.TptpFault.TheVariants as fault
use Rattle.tptp_syntax.specs.Tokens.{lexed}
use Rattle.tptp_syntax.specs.Grammar.{most, Listed, IsProblemText}

-- the tokens are a problem
abbrev pub Reads : List Tok → Listed → Type 0
Reads ts v = answers.Reads Tok Listed IsProblemText most ts v

-- what a name says
abbrev pub said : List (List ℕ) → ℕ → List ℕ
said words n = get_or words n []

abbrev pub statement_of : List (List ℕ) → Claimed → Statement
statement_of words c = record { name = said words c.name; conjecture = c.conjecture; formula = c.formula }

-- the problem with its names written out
abbrev pub problem_of : List (List ℕ) → Listed → Problem
problem_of words v = record { names = map (said words) v.symbols; statements = map (statement_of words) v.statements }

-- the text is this problem
pub record IsProblem (text : List ℕ) (p : Problem) : Type 0 where
  pub listed : Listed
  pub reads : Reads (lexed text).tokens listed
  pub is : p ≡ problem_of (lexed text).words listed

-- no problem goes on with the token at a place among the tokens, or that token's bracket is the 4,097th that is open
abbrev pub StopsAt : List Tok → ℕ → Type 0
StopsAt ts i = answers.SyntaxAt Tok Listed IsProblemText most ts i ⊎ answers.TooDeepAt Tok Listed IsProblemText most ts i

-- the fault at a place among the tokens, as the reader of tokens tells it
abbrev pub Halts : List Tok → Fault → Type 0
Halts ts e = answers.Refused Tok Listed IsProblemText most ts e

-- the first byte of the token at a place, or the text's length
abbrev pub byte_of : List ℕ → ℕ → ℕ
byte_of text i = get_or (lexed text).places i (length text)

-- no problem goes on at this byte
pub record IsBad (text : List ℕ) (at : ℕ) : Type 0 where
  pub place : ℕ
  pub stops : StopsAt (lexed text).tokens place
  pub is : at ≡ byte_of text place

-- a refusal names the first bad byte; want of memory is free
abbrev pub IsRefused : List ℕ → TptpFault → Type 0
IsRefused text (fault.BadText at) = IsBad text at
IsRefused text fault.NoMemory = Unit {0}

-- ---- each text has one answer

pub data Answer : Type 0 where
  Read : Problem → Answer
  Bad : ℕ → Answer

abbrev pub IsAnswer : List ℕ → Answer → Type 0
IsAnswer text (Read p) = IsProblem text p
IsAnswer text (Bad at) = IsBad text at

abbrev pub Tells : Answer → TptpFault → Type 0
Tells a (fault.BadText at) = a ≡ Bad at
Tells a fault.NoMemory = Unit {0}

abbrev pub SomeAnswer : Type 0
SomeAnswer = (text : List ℕ) → (a : Answer) × IsAnswer text a

abbrev pub OneAnswer : Type 0
OneAnswer = (text : List ℕ) (a b : Answer) → IsAnswer text a → IsAnswer text b → a ≡ b
