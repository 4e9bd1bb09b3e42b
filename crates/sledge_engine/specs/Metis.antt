-- What `metis` answers and why.
use Rattle.std.specs.Prelude.{ℕ, ◌++◌, Bool, if◌then◌else◌, List, []}
use Rattle.hol_terms.specs.declared.env.Env.{Env}
use Rattle.hol_kernel.specs.declared.proven.Proven.{Proven}
use Rattle.kernel_rules.specs.declared.step.Step.{Step}
use Rattle.race_core.specs.declared.outcome.Outcome.TheVariants.{Proved, Saturated, Spent}
use Rattle.theory_reader.specs.declared.theory.Theory.{Theory}
use Rattle.theory_reader.specs.Sound.{fact_names}
use Rattle.theory_reader.specs.Seen.{IsEnvOf, seen}
use Rattle.proof_syntax.specs.Texts.{proof_text}
use Rattle.slot_work.specs.Replays.{From}
use Rattle.sledge_engine.specs.Words.{MetisLine}
use Rattle.sledge_engine.specs.Choice.{chosen, names_at, AllVisible, IsFirstHidden}
use Rattle.sledge_engine.specs.Files.{Outside}
use Rattle.sledge_engine.specs.Goals.{AboutGoal}
use Rattle.sledge_engine.specs.Texts.{fact_text, saturated_text, spent_text, metis_text}

-- the proof's text where it is to be shown
abbrev pub shown : Bool → Theory → ℕ → List Step → List ℕ
shown shows t goal steps = if shows then proof_text t goal steps else []

-- the report of a proof, with the names of its facts
abbrev pub proved_text : Bool → Theory → ℕ → Proven → List ℕ
proved_text shows t goal p = metis_text (names_at (fact_names (seen t goal)) p.names) ++ shown shows t goal p.steps

-- the reply of this status and this text to the goal of this number, which is to be proved from the facts of these names by searches of so many picks
pub data GoalReply (t : Theory) (goal : ℕ) (names : List (List ℕ)) (budget : ℕ) (shows : Bool) : ℕ → List ℕ → Type 0 where
  -- a name isn't that of a fact before the goal, or of an assumption of it, which fits
  hidden : (name : List ℕ) → IsFirstHidden t goal names name → GoalReply t goal names budget shows 2 (fact_text name)
  -- the named facts are found: the goal is derived in the kernel from the facts that are reported, none of which can be left out
  proved : (env : Env) (p : Proven) → AllVisible t goal names → IsEnvOf t goal env → From env (chosen names t goal) budget (Proved p) →
      GoalReply t goal names budget shows 0 (proved_text shows t goal p)
  -- the search from the named facts ended without a refutation
  saturated : (env : Env) → AllVisible t goal names → IsEnvOf t goal env → From env (chosen names t goal) budget Saturated → GoalReply t goal names budget shows 1 saturated_text
  spent : (env : Env) → AllVisible t goal names → IsEnvOf t goal env → From env (chosen names t goal) budget Spent → GoalReply t goal names budget shows 1 spent_text

abbrev pub MetisReply : Outside → MetisLine → ℕ → List ℕ → Type 0
MetisReply o l = AboutGoal o l.theory l.goal (λ t goal. GoalReply t goal l.facts l.budget l.shows)
