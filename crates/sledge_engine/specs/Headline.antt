-- The headline: what a finished race for a goal says.
use Rattle.std.specs.Prelude.{ℕ, ◌≡◌, ◌≢◌, ◌<◌, Bool, true, false, List, [], Contains, All, map, slice_get, Option, Some, None}
use Rattle.hol_terms.specs.declared.env.Env.{Env}
use Rattle.kernel_rules.specs.Derivations.{Proves, leaves}
use Rattle.hol_kernel.specs.declared.proven.Proven.{Proven}
use Rattle.race_core.specs.declared.outcome.Verdict.{Verdict}
use Rattle.race_core.specs.declared.outcome.Verdict.TheVariants as verdict
use Rattle.race_core.specs.declared.outcome.Outcome.TheVariants as outcome
use Rattle.race_core.specs.declared.slot.SlotEnd.{SlotEnd}
use Rattle.race_core.specs.Histories.{PassedOnce, first_proved, id_of}
use Rattle.race_core.specs.Ran.{Ran}
use Rattle.race_core.specs.Standings.{Standing}
use Rattle.race_core.specs.Verdicts.{verdict_of}
use Rattle.race_outside.specs.Pipes.{Told}
use Rattle.race_board.specs.Drains.{most_bytes, AreFirst}
use Rattle.race_board.specs.Ends.{Terms, AreRight, is_read}
use Rattle.race_run.specs.Losses.{IsAlone}
use Rattle.race_run.specs.Races.{IsSchedule}
use Rattle.theory_reader.specs.declared.theory.Theory.{Theory}
use Rattle.theory_reader.specs.Seen.{IsEnvOf}
use Rattle.slot_work.specs.Answers.{Answers}
use Rattle.slot_work.specs.Replays.{Minimal}
use Rattle.sledge_engine.specs.declared.contest.Contest.{Contest}
use Rattle.sledge_engine.specs.declared.finished.Finished.{Finished}
use Rattle.sledge_engine.specs.Orders.{orders_for}

-- a launcher: what it tells of the child of each id, and how it stood before and stands after
pub record Launching : Type 0 where
  pub children : ℕ → Told
  pub before : Standing
  pub now : Standing

-- the terms of a race for a goal; what its slots' bytes are worth isn't said by a key but by `Answers`
abbrev pub terms_of : Theory → ℕ → Contest → Launching → Terms
terms_of t goal c l = record { key = []; orders = orders_for t goal c.prover c.slices; limit = c.limit; children = l.children; first = l.before }

-- a reported proof: steps of the kernel that prove the goal, with leaves within the names; the replay within the budget fails without any one of these
pub record IsReported (env : Env) (budget : ℕ) (p : Proven) : Type 0 where
  pub proves : Proves env p.steps
  pub leaves_within : All (λ n. Contains p.names n) (leaves p.steps)
  pub minimal : Minimal env p.names budget

-- the slot has accepted this proof
pub record Accepts (slots : List (SlotEnd Proven)) (k : ℕ) (p : Proven) : Type 0 where
  pub end : SlotEnd Proven
  pub at : slice_get slots k ≡ Some end
  pub is : end.outcome ≡ outcome.Proved p

-- a verdict of a slot that gave no facts which replayed in time
abbrev pub gave_none : Verdict → Bool
gave_none verdict.Proved = false
gave_none verdict.Cancelled = false
gave_none verdict.Lost = false
gave_none verdict.NoMemory = false
gave_none _ = true

pub record Headline (t : Theory) (goal : ℕ) (c : Contest) (l : Launching) (f : Finished) : Type 0 where
  -- schedule: from as many waiting slots as there are slices every event of the one stored history is legal, and then every slot is settled with the
  -- verdict of its outcome
  pub schedule : IsSchedule c.slices f.until f.events f.slots f.winner
  -- whatever children print: each outcome is right for what its slot has kept, by its events
  pub right : AreRight (Answers t goal c.budget) (terms_of t goal c l) f.until f.slots f.events
  -- bytes that children print: what is kept of a slot that was heard is what its own child gives first, 4 MiB and one byte, or all where that is less
  pub heard : (k : ℕ) (end : SlotEnd Proven) → slice_get f.slots k ≡ Some end → is_read (verdict_of end.outcome) ≡ true → end.kept.pipe_faults ≡ 0 →
      (i : ℕ) × (id_of l.before.starts f.events k ≡ Some i) × AreFirst most_bytes (l.children i).whole end.kept.bytes
  -- a reported proof is a derivation of the goal from no facts but those it names, and none of these can be spared
  pub proof : (k : ℕ) → f.winner ≡ Some k → (env : Env) × (p : Proven) × IsEnvOf t goal env × Accepts f.slots k p × IsReported env c.budget p
  -- it is the first accepted proof
  pub first : f.winner ≡ first_proved f.events
  -- without a winner no slot has a proof, and none was cancelled: each gave no facts that replayed in time, but those that wanted for memory or are lost
  pub unproved : f.winner ≡ None → (k : ℕ) (end : SlotEnd Proven) → slice_get f.slots k ≡ Some end → verdict_of end.outcome ≢ verdict.NoMemory →
      verdict_of end.outcome ≢ verdict.Lost → gave_none (verdict_of end.outcome) ≡ true
  -- no slot is lost of a race of one slot, or with one worker and no limit of time
  pub unlost : IsAlone c.slices c.workers c.limit → (k : ℕ) (end : SlotEnd Proven) → slice_get f.slots k ≡ Some end → verdict_of end.outcome ≢ verdict.Lost
  -- every slot passed its states once
  pub passed : (k : ℕ) → k < c.slices → PassedOnce f.events k
  -- the launcher started, killed and waited for just the children that the history says: each that was started was waited for
  pub ran : Ran l.before l.now (orders_for t goal c.prover c.slices) c.limit f.until f.events
  -- slot k's order is that of slice k
  pub orders : map (λ end. end.order) f.slots ≡ orders_for t goal c.prover c.slices
