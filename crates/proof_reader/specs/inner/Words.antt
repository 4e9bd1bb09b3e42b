-- A word at the front of a text, where some words alone go on.
use Rattle.std.specs.Prelude.{◌≡◌, ◌⊎◌, ℕ, ◌+◌, ◌<◌, List, [], ◌∷◌, length, map, codes, decimal}
use Rattle.proof_words.specs.Sharing.{Shares}
use Rattle.proof_syntax.specs.declared.fault.PartFault.{PartFault}
use Rattle.proof_syntax.specs.declared.fault.PartFault.TheVariants as fault
use Rattle.proof_syntax.specs.Tokens.{Tok, Word, cut, line_end}
use Rattle.proof_syntax.specs.Machine.{Rule}
use Rattle.proof_syntax.specs.Parts.{NoWord, IsNot}

-- a word that is none of those that are meant, at the first byte with which none of them goes on
pub record Other (Meant : List ℕ → Type 0) (text : List ℕ) (left : ℕ) : Type 0 where
  pub word : List ℕ
  pub rest : List Tok
  pub tokens : cut text ≡ Word word ∷ rest
  pub into : ℕ
  pub shares : Shares Meant word into
  pub count : left + into ≡ length text

abbrev pub FailsWord : (List ℕ → Type 0) → List ℕ → PartFault → Type 0
FailsWord Meant text (fault.Stops left) = (NoWord (cut text) × (left ≡ length text)) ⊎ Other Meant text left
FailsWord Meant text (fault.GoesBeyond left) = ⊥
FailsWord Meant text fault.NoMemory = ⊥

-- the words of the rules
abbrev pub words_of : List Rule → List (List ℕ)
words_of rules = map (λ r. r.word) rules

-- the words with which a line of steps begins: the number that is due, and `end`
abbrev pub openings : ℕ → List (List ℕ)
openings n = decimal n ∷ codes "end" ∷ []

-- nothing stands behind the last line
abbrev pub FailsLast : List ℕ → PartFault → Type 0
FailsLast text (fault.Stops left) =
    (IsNot line_end (cut text) × (left ≡ length text)) ⊎ ((rest : List ℕ) × (cut text ≡ line_end ∷ cut rest) × (0 < length rest) × (left ≡ length rest))
FailsLast text (fault.GoesBeyond left) = ⊥
FailsLast text fault.NoMemory = ⊥
