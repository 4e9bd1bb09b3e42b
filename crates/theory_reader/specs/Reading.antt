-- What a file reads as, and its first fault.
use Rattle.std.specs.Prelude.{◌≡◌, ℕ, List, Result, Ok, Err}
use Rattle.text_kit.specs.declared.cut.Token.{Token}
use Rattle.text_kit.specs.Tokens.{Cuts, Breaks}
use Rattle.theory_syntax.specs.declared.tree.Item.{Item}
use Rattle.theory_syntax.specs.Reading as syntax
use Rattle.theory_terms.specs.declared.fault.TheoryKind.{TheoryKind}
use Rattle.theory_terms.specs.declared.fault.TheoryKind.TheVariants as kind
use Rattle.theory_terms.specs.declared.fault.TheoryFault.{TheoryFault}
use Rattle.theory_terms.specs.declared.fault.TheoryFault.TheVariants as fault
use Rattle.theory_terms.specs.Answers.{Answer, Good, Bad, Refused}
use Rattle.theory_reader.specs.declared.theory.Theory.{Theory}
use Rattle.theory_reader.specs.Declarations.{Declarations}
use Rattle.theory_reader.specs.Seen.{declarations}
use Rattle.theory_reader.specs.Toks.{toks_of, byte_at}
use Rattle.theory_reader.specs.Declaring.{theory_of}

-- the text is cut into tokens, which are derivable as these declarations with every level at most 256
pub record ReadsItems (text : List ℕ) (items : List Item) : Type 0 where
  pub tokens : List Token
  pub cut : Cuts 0 text tokens
  pub derived : syntax.Reads 256 (toks_of text tokens) items

-- the text reads as the theory of these declarations
pub record Reads (text : List ℕ) (t : Declarations) : Type 0 where
  pub items : List Item
  pub read : ReadsItems text items
  pub declared : theory_of text items ≡ Good t

-- the text's first fault, of this kind, stands at this byte: a byte that begins no token comes first, then a token at which
-- no theory goes on or whose level is above 256, and then the first fault of the declarations
pub data Faulty : List ℕ → ℕ → TheoryKind → Type 0 where
  bad_byte : {text : List ℕ} {at : ℕ} → Breaks 0 text at → Faulty text at kind.Token
  syntax_at : {text : List ℕ} {ts : List Token} {place : ℕ} → Cuts 0 text ts → syntax.SyntaxAt 256 (toks_of text ts) place →
      Faulty text (byte_at text ts place) kind.Syntax
  too_deep_at : {text : List ℕ} {ts : List Token} {place : ℕ} → Cuts 0 text ts → syntax.TooDeepAt 256 (toks_of text ts) place →
      Faulty text (byte_at text ts place) kind.TooDeep
  bad_declaration : {text : List ℕ} {items : List Item} {at : ℕ} {k : TheoryKind} → ReadsItems text items →
      theory_of text items ≡ Bad at k → Faulty text at k

-- the text's answer: its theory, or its first fault
abbrev pub IsAnswer : List ℕ → Answer Declarations → Type 0
IsAnswer text (Good t) = Reads text t
IsAnswer text (Bad at k) = Faulty text at k

-- the result is the text's answer; want of memory is free
abbrev pub IsReadAs : List ℕ → Result Theory TheoryFault → Type 0
IsReadAs text (Ok t) = Reads text (declarations t)
IsReadAs text (Err (fault.At at k)) = Faulty text at k
IsReadAs text (Err fault.NoMemory) = Unit {0}

-- each text has an answer, and none has two
abbrev pub SomeAnswer : Type 0
SomeAnswer = (text : List ℕ) → (a : Answer Declarations) × IsAnswer text a

abbrev pub OneAnswer : Type 0
OneAnswer = (text : List ℕ) (a b : Answer Declarations) → IsAnswer text a → IsAnswer text b → a ≡ b

-- the result is this answer; want of memory is free
abbrev pub Tells : Answer Declarations → Result Theory TheoryFault → Type 0
Tells a (Ok t) = a ≡ Good (declarations t)
Tells a (Err e) = Refused a e
