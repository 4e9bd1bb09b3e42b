-- What stands at the front of a text where a name or a number is wanted.
use Rattle.std.specs.Prelude.{◌≡◌, ◌⊎◌, ℕ, ◌+◌, ◌^◌, ◌<◌, List, ◌∷◌, length, decimal, Some, None}
use Rattle.theory_terms.specs.Words.{place}
use Rattle.proof_words.specs.Sharing.{Shares, IsNumber}
use Rattle.proof_syntax.specs.declared.fault.PartFault.{PartFault}
use Rattle.proof_syntax.specs.declared.fault.PartFault.TheVariants as fault
use Rattle.proof_syntax.specs.Tokens.{Tok, Word, cut}
use Rattle.proof_syntax.specs.Parts.{NoWord}

-- ---- a name

-- the name of number `n`
pub record GotName (names : List (List ℕ)) (text : List ℕ) (n : ℕ) (rest : List ℕ) : Type 0 where
  pub name : List ℕ
  pub tokens : cut text ≡ Word name ∷ cut rest
  pub number : place name names ≡ Some n

-- a name that isn't among them, at its first byte
pub record Undeclared (names : List (List ℕ)) (text : List ℕ) (left : ℕ) : Type 0 where
  pub name : List ℕ
  pub rest : List Tok
  pub tokens : cut text ≡ Word name ∷ rest
  pub unknown : place name names ≡ None
  pub count : left ≡ length text

abbrev pub FailsName : List (List ℕ) → List ℕ → PartFault → Type 0
FailsName names text (fault.Stops left) = NoWord (cut text) × (left ≡ length text)
FailsName names text (fault.GoesBeyond left) = Undeclared names text left
FailsName names text fault.NoMemory = ⊥

-- ---- a number

pub record GotNumber (text : List ℕ) (n : ℕ) (rest : List ℕ) : Type 0 where
  pub small : n < 2 ^ 64
  pub tokens : cut text ≡ Word (decimal n) ∷ cut rest

-- a word that is no number, at the first byte with which none goes on
pub record NoNumber (text : List ℕ) (left : ℕ) : Type 0 where
  pub word : List ℕ
  pub rest : List Tok
  pub tokens : cut text ≡ Word word ∷ rest
  pub into : ℕ
  pub shares : Shares IsNumber word into
  pub count : left + into ≡ length text

abbrev pub FailsNumber : List ℕ → PartFault → Type 0
FailsNumber text (fault.Stops left) = (NoWord (cut text) × (left ≡ length text)) ⊎ NoNumber text left
FailsNumber text (fault.GoesBeyond left) = ⊥
FailsNumber text fault.NoMemory = ⊥
