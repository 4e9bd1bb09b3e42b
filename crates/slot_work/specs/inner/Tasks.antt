-- How the work on the bytes of a child stands.
use Rattle.std.specs.Prelude.{◌≡◌, ℕ, ◌+◌, ◌*◌, ◌<◌, ◌≤◌, Bool, true, false, List, [], length, IsTrue}
use Rattle.hol_kernel.specs.declared.proven.Proven.{Proven}
use Rattle.theory_reader.specs.Seen.{IsEnvOf, seen}
use Rattle.race_core.specs.declared.outcome.Outcome.{Outcome}
use Rattle.race_core.specs.declared.outcome.Outcome.TheVariants as outcome
use Rattle.tstp_read.specs.declared.answer.UsedFault.{UsedFault}
use Rattle.tstp_read.specs.declared.answer.UsedFault.TheVariants as fault
use Rattle.tstp_read.specs.Used.{Leaves, IsAnswer}
use Rattle.fact_minimise.specs.Sublists.{IsSublist}
use Rattle.fact_minimise.specs.Progress.{Progress, IsSound}
use Rattle.slot_work.specs.declared.slot.Slot.{Slot}
use Rattle.slot_work.specs.declared.stage.Stage.{Stage}
use Rattle.slot_work.specs.declared.stage.Stage.TheVariants as stage
use Rattle.slot_work.specs.declared.stage.Next.{Next}
use Rattle.slot_work.specs.declared.stage.Next.TheVariants as next
use Rattle.slot_work.specs.Visible.{goal_fits}
use Rattle.slot_work.specs.Answers.{Answers, used_facts}
use Rattle.slot_work.specs.inner.Finding.{Finds}

-- what contracts see of a task: the key of its job, the bytes, whether it is over, and how many turns it has at most
pub record Working : Type 0 where
  pub key : List ℕ
  pub bytes : List ℕ
  pub over : Bool
  pub left : ℕ

-- the environment is the goal's, which fits
pub record IsSlot (s : Slot) : Type 0 where
  pub is_goal : s.goal < length s.theory.now.goals
  pub fits : IsTrue (goal_fits s.theory.now s.goal)
  pub env_is : IsEnvOf s.theory.now s.goal s.env

-- the facts that the bytes' proof rests on
pub record AreUsed (s : Slot) (used : List ℕ) : Type 0 where
  pub leaves : List (List ℕ)
  pub answer : IsAnswer s.bytes (Leaves leaves)
  pub used_is : used ≡ used_facts s.theory.now s.goal leaves

-- they are found, and are being minimised
pub record IsMinimising (s : Slot) (used : List ℕ) (now : Progress) : Type 0 where
  pub are_used : AreUsed s used
  pub found : Finds s.env s.budget used
  pub sublist : IsSublist now.kept used
  pub sound : IsSound (Finds s.env s.budget) now

abbrev pub StandsAt : Slot → Stage → Type 0
StandsAt s stage.Begun = Unit {0}
StandsAt s (stage.Minimising used minimise) = IsMinimising s used minimise
StandsAt s stage.Over = Unit {0}

abbrev pub is_over : Stage → Bool
is_over stage.Begun = false
is_over (stage.Minimising used minimise) = false
is_over stage.Over = true

-- of m facts beside the goal no more are used, and a minimiser of n facts has at most n * n + 2 * n turns
abbrev pub most_turns : ℕ → ℕ
most_turns m = m * m + 2 * m

abbrev pub left_at : ℕ → Stage → ℕ
left_at m stage.Begun = most_turns m + 2
left_at m (stage.Minimising used minimise) = minimise.left + 1
left_at m stage.Over = 0

abbrev pub beside : Slot → ℕ
beside s = length (seen s.theory.now s.goal)

-- what a turn comes to: a further stage with fewer turns left, or an outcome that the bytes may have
abbrev pub IsNext : Slot → ℕ → Next → Type 0
IsNext s left (next.Goes stage) = StandsAt s stage × (is_over stage ≡ false) × (left_at (beside s) stage < left)
IsNext s left (next.Ends o) = Answers s.theory.now s.goal s.budget s.bytes o

-- the outcome of bytes with this fault
abbrev pub outcome_of_fault : UsedFault → Outcome Proven
outcome_of_fault fault.NoStatus = outcome.NoStatus
outcome_of_fault fault.NoProof = outcome.NoProof
outcome_of_fault (fault.BadText at) = outcome.BadText at
outcome_of_fault fault.NoMemory = outcome.NoMemory

-- the minimising of these facts begins
pub record BeginsWith (facts used : List ℕ) (now : Progress) : Type 0 where
  pub used_are : used ≡ facts
  pub kept_are : now.kept ≡ facts
  pub none_needed : now.needed ≡ []
  pub few_turns : now.left ≤ most_turns (length facts)

abbrev pub BeginsAt : List ℕ → Stage → Type 0
BeginsAt facts stage.Begun = ⊥
BeginsAt facts (stage.Minimising used minimise) = BeginsWith facts used minimise
BeginsAt facts stage.Over = ⊥

abbrev pub Begins : List ℕ → Next → Type 0
Begins facts (next.Goes stage) = BeginsAt facts stage
Begins facts (next.Ends o) = o ≡ outcome.NoMemory
