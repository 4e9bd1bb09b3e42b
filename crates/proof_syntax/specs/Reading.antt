-- What a proof text reads as, and where its fault is.
use Rattle.std.specs.Prelude.{◌≡◌, ◌⊎◌, ℕ, ◌+◌, ◌≤◌, List, [], ◌∷◌, ◌++◌, length, take, codes, Result, Ok, Err}
use Rattle.first_fault.specs.Levels.{put}
use Rattle.first_fault.specs.Answers as answers
use Rattle.theory_reader.specs.declared.theory.Theory.{Theory}
use Rattle.proof_syntax.specs.declared.file.ProofFile.{ProofFile}
use Rattle.proof_syntax.specs.declared.fault.ProofFault.{ProofFault}
use Rattle.proof_syntax.specs.declared.fault.ProofFault.TheVariants as fault
use Rattle.proof_syntax.specs.Tokens.{Tok, Word, Mark, cut, spelled}
use Rattle.proof_syntax.specs.Grammar.{Placed, IsProof, most}

-- ---- the first line

abbrev pub first_line : List ℕ
first_line = codes "sledge proof 1\n"

-- nothing, or what ends with a line's end
abbrev pub AreLines : List ℕ → Type 0
AreLines bs = (bs ≡ []) ⊎ ((front : List ℕ) × (bs ≡ front ++ 10 ∷ []))

-- the lines before the first line of the proof are passed over, and the body stands behind it
pub record StartsBehind (text before body : List ℕ) : Type 0 where
  pub is : text ≡ before ++ first_line ++ body
  pub lines : AreLines before
  pub earliest : (front rest : List ℕ) → text ≡ front ++ first_line ++ rest → AreLines front → length before ≤ length front

abbrev pub NeverStarts : List ℕ → Type 0
NeverStarts text = (front rest : List ℕ) → text ≡ front ++ first_line ++ rest → AreLines front → ⊥

-- ---- how far into a token some text still goes on

-- some text goes on with the token behind these
abbrev pub GoesOn : Theory → List Placed → Tok → Type 0
GoesOn t p x = (q : List Placed) × (v : ProofFile) × (others : List Tok) × IsProof t q v × (put q [] ≡ put p (x ∷ others))

-- the first `n` bytes of the word, and no more, are those of a word with which a text goes on
pub record Shares (t : Theory) (p : List Placed) (w : List ℕ) (n : ℕ) : Type 0 where
  pub room : n ≤ length w
  pub some : (n ≡ 0) ⊎ ((v : List ℕ) × GoesOn t p (Word v) × (take n v ≡ take n w))
  pub most : (v : List ℕ) → GoesOn t p (Word v) → take (n + 1) v ≡ take (n + 1) w → ⊥

abbrev pub Into : Theory → List Placed → List Tok → ℕ → Type 0
Into t p [] n = n ≡ 0
Into t p (Mark s ∷ rest) n = n ≡ 0
Into t p (Word w ∷ rest) n = Shares t p w n

-- ---- the body

-- no text goes on with this byte of the body, or none ends where the body does
pub record StopsAt (t : Theory) (body : List ℕ) (at : ℕ) : Type 0 where
  pub place : ℕ
  pub found : answers.SyntaxAt Tok ProofFile (IsProof t) most (cut body) place
  pub into : ℕ
  pub is_into : Into t found.before found.rest into
  pub is : at ≡ length (spelled (take place (cut body))) + into

-- here begins a name that isn't declared, or a term that opens nesting 4,097
pub record GoesBeyondAt (t : Theory) (body : List ℕ) (at : ℕ) : Type 0 where
  pub place : ℕ
  pub found : answers.TooDeepAt Tok ProofFile (IsProof t) most (cut body) place
  pub is : at ≡ length (spelled (take place (cut body)))

-- ---- the text

pub record Reads (t : Theory) (text : List ℕ) (p : ProofFile) : Type 0 where
  pub before : List ℕ
  pub body : List ℕ
  pub starts : StartsBehind text before body
  pub read : answers.Reads Tok ProofFile (IsProof t) most (cut body) p

-- the place of byte `at` of the body
abbrev pub behind : List ℕ → ℕ → ℕ
behind before at = length (before ++ first_line) + at

-- the first byte at which no text goes on, or at which a name that isn't declared or a term that is nested too deep begins; or the text's length
pub data Faulty (t : Theory) (text : List ℕ) : ℕ → Type 0 where
  never_starts : NeverStarts text → Faulty t text (length text)
  stops : {before body : List ℕ} {at : ℕ} → StartsBehind text before body → StopsAt t body at → Faulty t text (behind before at)
  goes_beyond : {before body : List ℕ} {at : ℕ} → StartsBehind text before body → GoesBeyondAt t body at → Faulty t text (behind before at)

-- ---- answers

pub data Answer : Type 0 where
  Proof : ProofFile → Answer
  Fault : ℕ → Answer

abbrev pub IsAnswer : Theory → List ℕ → Answer → Type 0
IsAnswer t text (Proof p) = Reads t text p
IsAnswer t text (Fault at) = Faulty t text at

-- the result is the text's answer; want of memory is free
abbrev pub IsReadAs : Theory → List ℕ → Result ProofFile ProofFault → Type 0
IsReadAs t text (Ok p) = Reads t text p
IsReadAs t text (Err (fault.At at)) = Faulty t text at
IsReadAs t text (Err fault.NoMemory) = Unit {0}

-- no text has two answers
abbrev pub OneAnswer : Type 0
OneAnswer = (t : Theory) (text : List ℕ) (a b : Answer) → IsAnswer t text a → IsAnswer t text b → a ≡ b

-- the result is this answer; want of memory is free
abbrev pub Tells : Answer → Result ProofFile ProofFault → Type 0
Tells a (Ok p) = a ≡ Proof p
Tells a (Err (fault.At at)) = a ≡ Fault at
Tells a (Err fault.NoMemory) = Unit {0}
