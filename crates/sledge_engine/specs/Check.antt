-- What `check` answers and why.
use Rattle.std.specs.Prelude.{ℕ, List, length}
use Rattle.hol_terms.specs.declared.env.Env.{Env}
use Rattle.kernel_rules.specs.declared.step.Step.{Step}
use Rattle.kernel_rules.specs.Derivations.{Checks, Proves}
use Rattle.hol_kernel.specs.Checking.{IsFirstRefused}
use Rattle.theory_reader.specs.declared.theory.Theory.{Theory}
use Rattle.theory_reader.specs.Sound.{goal_names}
use Rattle.theory_reader.specs.Seen.{IsEnvOf}
use Rattle.proof_syntax.specs.declared.file.ProofFile.{ProofFile}
use Rattle.proof_syntax.specs.Names.{name_in}
use Rattle.proof_syntax.specs.Reading.{Reads, Faulty}
use Rattle.sledge_engine.specs.Words.{CheckLine}
use Rattle.sledge_engine.specs.Files.{Outside, Holds, FileRefusal, HoldsTheory, TheoryRefusal, most_proof_bytes}
use Rattle.sledge_engine.specs.Texts.{byte_text, step_text, checked_text}
use Rattle.sledge_engine.specs.Used.{used_names}

-- the reply of this status and this text: to steps that are to prove the goal of this number
pub data StepsReply (t : Theory) (goal : ℕ) (steps : List Step) (env : Env) : ℕ → List ℕ → Type 0 where
  -- a step has no sequent, and each one before it has
  refused : (at : ℕ) → IsFirstRefused env steps at → StepsReply t goal steps env 7 (step_text at)
  -- each step has a sequent, but the last one isn't the goal without hypotheses, or there is none
  other_end : Checks env steps → (Proves env steps → ⊥) → StepsReply t goal steps env 7 (step_text (length steps))
  -- the goal is derived from the facts that are named
  proves : Proves env steps → StepsReply t goal steps env 0 (checked_text (name_in (goal_names t.goals) goal) (used_names t goal steps))

-- to the bytes of a proof file
pub data BytesReply (t : Theory) (bytes : List ℕ) : ℕ → List ℕ → Type 0 where
  faulty : (at : ℕ) → Faulty t bytes at → BytesReply t bytes 7 (byte_text at)
  steps : (p : ProofFile) (env : Env) (status : ℕ) (text : List ℕ) → Reads t bytes p → IsEnvOf t p.goal env → StepsReply t p.goal p.steps env status text →
      BytesReply t bytes status text

-- to a proof file over a theory
pub data ProofFileReply (o : Outside) (t : Theory) (name : List ℕ) : ℕ → List ℕ → Type 0 where
  no_proof : (status : ℕ) (text : List ℕ) → FileRefusal o name most_proof_bytes status text → ProofFileReply o t name status text
  proof : (bytes : List ℕ) (status : ℕ) (text : List ℕ) → Holds o.files name most_proof_bytes bytes → BytesReply t bytes status text →
      ProofFileReply o t name status text

-- to a line over files
pub data CheckReply (o : Outside) (l : CheckLine) : ℕ → List ℕ → Type 0 where
  no_theory : (status : ℕ) (text : List ℕ) → TheoryRefusal o l.theory status text → CheckReply o l status text
  over : (t : Theory) (status : ℕ) (text : List ℕ) → HoldsTheory o.files l.theory t → ProofFileReply o t l.proof status text → CheckReply o l status text
