-- What the code holds of a goal that a command names.
use Rattle.std.specs.Prelude.{ℕ, ◌≡◌, ◌<◌, false, IsTrue, List, [], Some, None, length}
use Rattle.theory_reader.specs.Seen.{IsEnvOf}
use Rattle.theory_reader.specs.declared.theory.Theory.{Theory}
use Rattle.sledge_engine.specs.declared.posing.Found.{Found}
use Rattle.sledge_engine.specs.declared.posing.Found.TheVariants as found
use Rattle.sledge_engine.specs.declared.posing.Posed.{Posed}
use Rattle.sledge_engine.specs.declared.posing.Posed.TheVariants.{Goal, Refused}
use Rattle.sledge_engine.specs.Choice.{goal_place}
use Rattle.sledge_engine.specs.Files.{Outside}
use Rattle.slot_work.specs.Visible.{goal_fits}
use Rattle.sledge_engine.specs.Goals.{GoalRefusal, Poses}
use Rattle.sledge_engine.specs.Texts.{goal_text, large_goal_text}

-- the text says that no goal has this name, or that the one that has it doesn't fit
pub data IsMissing (t : Theory) (name : List ℕ) : List ℕ → Type 0 where
  nowhere : goal_place t name ≡ None → IsMissing t name (goal_text name)
  large : (goal : ℕ) → goal_place t name ≡ Some goal → goal_fits t goal ≡ false → IsMissing t name (large_goal_text name)

-- the goal of this name in a theory, over its environment, and no text yet, or a refusal with its text
abbrev pub IsFoundGoal : Theory → List ℕ → List ℕ → Found → Type 0
IsFoundGoal t name text (found.Goal goal env) =
    (goal_place t name ≡ Some goal) × IsTrue (goal_fits t goal) × (goal < length t.goals) × IsEnvOf t goal env × (text ≡ [])
IsFoundGoal t name text (found.Refused status) = (status ≡ 4) × IsMissing t name text

-- and in the theory that stands under a name
abbrev pub IsPosed : Outside → List ℕ → List ℕ → List ℕ → Posed → Type 0
IsPosed o theory name text (Goal t goal env) = Poses o.files theory name t goal × (goal < length t.goals) × IsEnvOf t goal env × (text ≡ [])
IsPosed o theory name text (Refused status) = GoalRefusal o theory name status text
