-- What an output uses: the one answer for its bytes.
use Rattle.std.specs.Prelude.{◌≡◌, ℕ, zero, suc, ◌+◌, ◌<◌, Bool, List, [], ◌∷◌, length, if◌then◌else◌, IsTrue, MatchBool, Option, Some, None}
use Rattle.tstp_read.specs.declared.lines.Span.{Span}
use Rattle.tstp_read.specs.declared.tokens.Token.{Token}
use Rattle.tstp_read.specs.declared.answer.UsedFault.{UsedFault}
use Rattle.tstp_read.specs.declared.answer.UsedFault.TheVariants as fault
use Rattle.tstp_read.specs.Lines.{succeeds, part_of, bytes_of}
use Rattle.tstp_read.specs.Tokens.{Cut, Into, BadAt, cut, Tok, tokens_of}
use Rattle.tstp_read.specs.Statements.{Statement, IsList, IsFault, Refutes}
use Rattle.tstp_read.specs.Sources.{HasParent}
use Rattle.tstp_read.specs.Reached as reached

pub data Answer : Type 0 where
  NoStatus : Answer
  NoProof : Answer
  BadText : ℕ → Answer
  Leaves : List (List ℕ) → Answer

abbrev pub called : Statement → List ℕ
called s = s.name.said

abbrev pub AreLeaves : List Statement → Statement → List (List ℕ) → Type 0
AreLeaves ss root names = reached.AreLeaves Statement called HasParent ss root names

-- where the token of this number stands, and the end behind the last one
abbrev pub place_of : ℕ → List Token → ℕ → ℕ
place_of end [] i = end
place_of end (t ∷ ts) zero = t.at
place_of end (t ∷ ts) (suc i) = place_of end ts i

-- what the tokens of a part answer: they are no list of statements, or one without a root, or one with leaves
pub data Says (from len : ℕ) (ts : List Token) (toks : List Tok) : Answer → Type 0 where
  faulty : {i : ℕ} → IsFault toks i → Says from len ts toks (BadText (from + place_of len ts i))
  rootless : {ss : List Statement} → IsList toks ss → reached.NoRoot Statement Refutes ss → Says from len ts toks NoProof
  rooted : {ss : List Statement} {root : Statement} {names : List (List ℕ)} → IsList toks ss → reached.IsRoot Statement Refutes ss root → AreLeaves ss root names →
      Says from len ts toks (Leaves names)

abbrev pub TokensSay : ℕ → List ℕ → List Token → Answer → Type 0
TokensSay from bytes ts a = Says from (length bytes) ts (tokens_of bytes ts) a

abbrev pub CutSays : ℕ → List ℕ → Cut → Answer → Type 0
CutSays from bytes (BadAt at) a = a ≡ BadText (from + at)
CutSays from bytes (Into ts) a = TokensSay from bytes ts a

-- what the bytes of a part say that begins at the place `from`
abbrev pub BytesSay : ℕ → List ℕ → Answer → Type 0
BytesSay from bytes a = CutSays from bytes (cut 0 0 bytes) a

abbrev pub PartSays : List ℕ → Option Span → Answer → Type 0
PartSays text None a = a ≡ NoProof
PartSays text (Some part) a = BytesSay part.from (bytes_of text part) a

-- the answer for an output
abbrev pub IsAnswer : List ℕ → Answer → Type 0
IsAnswer text a = MatchBool (succeeds text) (PartSays text (part_of text) a) (a ≡ NoStatus)

-- the answer is this fault; want of memory is free
abbrev pub AsFault : (Answer → Type 0) → UsedFault → Type 0
AsFault Is fault.NoStatus = Is NoStatus
AsFault Is fault.NoProof = Is NoProof
AsFault Is (fault.BadText at) = Is (BadText at)
AsFault Is fault.NoMemory = Unit {0}

abbrev pub TokensFail : ℕ → List ℕ → List Token → UsedFault → Type 0
TokensFail from bytes ts e = AsFault (TokensSay from bytes ts) e

abbrev pub BytesFail : ℕ → List ℕ → UsedFault → Type 0
BytesFail from bytes e = AsFault (BytesSay from bytes) e

abbrev pub IsRefusedAs : List ℕ → UsedFault → Type 0
IsRefusedAs text e = AsFault (IsAnswer text) e
