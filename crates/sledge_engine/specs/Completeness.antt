-- What a finished race doesn't miss.
use Rattle.std.specs.Prelude.{ℕ, ◌≡◌, ◌≢◌, ◌⊎◌, true, List, [], length, slice_get, IsTrue, Option, Some, None, IsSome}
use Rattle.hol_terms.specs.declared.env.Env.{Env}
use Rattle.hol_kernel.specs.declared.proven.Proven.{Proven}
use Rattle.race_core.specs.declared.outcome.Verdict.TheVariants as verdict
use Rattle.race_core.specs.declared.slot.SlotEnd.{SlotEnd}
use Rattle.race_core.specs.Histories.{expiries, id_of}
use Rattle.race_core.specs.Verdicts.{verdict_of}
use Rattle.race_outside.specs.Causes.{Rose}
use Rattle.race_board.specs.Drains.{most_bytes, AreFirst}
use Rattle.theory_reader.specs.declared.theory.Theory.{Theory}
use Rattle.theory_reader.specs.Seen.{IsEnvOf}
use Rattle.tstp_read.specs.Used.{BadText, IsAnswer, Leaves, NoProof, NoStatus}
use Rattle.slot_work.specs.Answers.{used_facts}
use Rattle.slot_work.specs.Replays.{Found}
use Rattle.sledge_engine.specs.declared.contest.Contest.{Contest}
use Rattle.sledge_engine.specs.declared.finished.Finished.{Finished}
use Rattle.sledge_engine.specs.Headline.{Launching}
use Rattle.sledge_engine.specs.Reports.{race_status}

-- a child was waited for in time, and its pipe was read
pub record WasHeard (end : SlotEnd Proven) : Type 0 where
  pub started : verdict_of end.outcome ≢ verdict.NoStart
  pub in_time : verdict_of end.outcome ≢ verdict.TimedOut
  pub unlost : verdict_of end.outcome ≢ verdict.Lost
  pub room : verdict_of end.outcome ≢ verdict.NoMemory
  pub sound : end.kept.pipe_faults ≡ 0

-- the bytes' proof rests on facts from which the goal is found
pub record HasFacts (t : Theory) (goal budget : ℕ) (bytes : List ℕ) : Type 0 where
  pub leaves : List (List ℕ)
  pub answer : IsAnswer bytes (Leaves leaves)
  pub found : (env : Env) → IsEnvOf t goal env → Found env (used_facts t goal leaves) budget

-- the bytes have a fault, or their proof rests on facts from which the goal isn't found
pub data LacksFacts (t : Theory) (goal budget : ℕ) (bytes : List ℕ) : Type 0 where
  no_status : IsAnswer bytes NoStatus → LacksFacts t goal budget bytes
  no_proof : IsAnswer bytes NoProof → LacksFacts t goal budget bytes
  bad_text : (at : ℕ) → IsAnswer bytes (BadText at) → LacksFacts t goal budget bytes
  unfound : (leaves : List (List ℕ)) (env : Env) → IsAnswer bytes (Leaves leaves) → IsEnvOf t goal env → (Found env (used_facts t goal leaves) budget → ⊥) →
      LacksFacts t goal budget bytes

pub record IsComplete (t : Theory) (goal : ℕ) (c : Contest) (l : Launching) (f : Finished) : Type 0 where
  -- where a slot was heard, and at most 4 MiB of its bytes have facts from which the goal is found, there is a winner
  pub found : (k : ℕ) (end : SlotEnd Proven) → slice_get f.slots k ≡ Some end → WasHeard end → length end.kept.bytes ≢ most_bytes →
      HasFacts t goal c.budget end.kept.bytes → IsSome f.winner
  -- where the children are sound, the launcher didn't fail and the limit of time didn't pass, at status 1 every slot was started and keeps what its child
  -- gives first, and that is too long or lacks facts from which the goal is found
  pub unfound : ((i : ℕ) → IsTrue (l.children i).sound) → (Rose l.before.faults l.now.faults → ⊥) → expiries f.events ≡ [] → race_status f ≡ 1 →
      (k : ℕ) (end : SlotEnd Proven) → slice_get f.slots k ≡ Some end →
      (i : ℕ) × (id_of l.before.starts f.events k ≡ Some i) × AreFirst most_bytes (l.children i).whole end.kept.bytes
      × ((length end.kept.bytes ≡ most_bytes) ⊎ LacksFacts t goal c.budget end.kept.bytes)
