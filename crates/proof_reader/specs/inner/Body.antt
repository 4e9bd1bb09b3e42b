-- What the readers of the goal's line and of the whole body promise.
use Rattle.std.specs.Prelude.{◌≡◌, ℕ, ◌+◌, List, ◌∷◌, length, codes, Some}
use Rattle.first_fault.specs.Levels.{Within}
use Rattle.first_fault.specs.Answers as answers
use Rattle.theory_terms.specs.Words.{place}
use Rattle.theory_reader.specs.declared.theory.Theory.{Theory}
use Rattle.theory_reader.specs.Sound.{goal_names}
use Rattle.proof_syntax.specs.declared.file.ProofFile.{ProofFile}
use Rattle.proof_syntax.specs.declared.fault.PartFault.{PartFault}
use Rattle.proof_syntax.specs.declared.fault.PartFault.TheVariants as fault
use Rattle.proof_syntax.specs.Tokens.{Tok, Word, cut, spelled, space, line_end}
use Rattle.proof_syntax.specs.Grammar.{Placed, IsProof, most}
use Rattle.proof_syntax.specs.Reading.{Into}
use Rattle.proof_syntax.specs.Machine.{put, goes, whole_run, GoalWord}
use Rattle.proof_syntax.specs.Parts.{end_of, Exceeds}

-- the body reads as this file
abbrev pub BodyReads : Theory → List ℕ → ProofFile → Type 0
BodyReads t body file = answers.Reads Tok ProofFile (IsProof t) most (cut body) file

abbrev pub Begins : Theory → List Placed → Type 0
Begins t p = answers.Begins Tok ProofFile (IsProof t) p

-- the body begins as `before`, and its walk doesn't take the next token, of which `into` bytes still go on
pub record BodyHalts (t : Theory) (body : List ℕ) (left : ℕ) : Type 0 where
  pub before : List Placed
  pub rest : List Tok
  pub tokens : cut body ≡ put before rest
  pub within : Within most before
  pub begins : Begins t before
  pub stuck : whole_run t GoalWord (put before rest) ≡ goes before (end_of rest)
  pub into : ℕ
  pub is_into : Into t before rest into
  pub count : left + into ≡ length (spelled rest)

-- a fault of a body, its place counted in the bytes that are left
abbrev pub FailsBody : Theory → List ℕ → PartFault → Type 0
FailsBody t body (fault.Stops left) = BodyHalts t body left
FailsBody t body (fault.GoesBeyond left) = Exceeds (Begins t) body left
FailsBody t body fault.NoMemory = Unit {0}

-- the line of goal number `g`
pub record GotGoal (t : Theory) (body : List ℕ) (g : ℕ) (rest : List ℕ) : Type 0 where
  pub name : List ℕ
  pub number : place name (goal_names t.goals) ≡ Some g
  pub tokens : cut body ≡ Word (codes "goal") ∷ space ∷ Word name ∷ line_end ∷ cut rest
