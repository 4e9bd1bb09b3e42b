-- What follows from the definitions of replies.
use Rattle.std.specs.Prelude.{ℕ, ◌≡◌, Bool, List, Some}
use Rattle.hol_terms.specs.declared.env.Env.{Env}
use Rattle.race_outside.specs.Causes.{Rose}
use Rattle.race_outside.specs.Shelves.{Files}
use Rattle.theory_reader.specs.declared.theory.Theory.{Theory}
use Rattle.theory_reader.specs.Seen.{IsEnvOf}
use Rattle.slot_work.specs.Replays.{Found}
use Rattle.sledge_engine.specs.Choice.{chosen}
use Rattle.sledge_engine.specs.Files.{Outside}
use Rattle.sledge_engine.specs.Goals.{GoalRefusal, Poses}
use Rattle.sledge_engine.specs.Metis.{GoalReply}

-- a goal that stands in a theory and fits isn't refused, where the shelf tells and didn't fail
abbrev pub PosedIsNotRefused : Type 0
PosedIsNotRefused =
    (o : Outside) (files : Files) (theory name : List ℕ) (t : Theory) (goal status : ℕ) (text : List ℕ) → o.files ≡ Some files → (Rose o.before o.after → ⊥) →
    Poses o.files theory name t goal → GoalRefusal o theory name status text → ⊥

-- status 0 of `metis` comes only where the goal is found from the named facts, and 1 only where it isn't
abbrev pub StatusTellsFound : Type 0
StatusTellsFound =
    (t : Theory) (goal : ℕ) (names : List (List ℕ)) (budget : ℕ) (shows : Bool) (status : ℕ) (text : List ℕ) → GoalReply t goal names budget shows status text →
    (status ≡ 0 → (env : Env) × IsEnvOf t goal env × Found env (chosen names t goal) budget)
    × (status ≡ 1 → (env : Env) × IsEnvOf t goal env × (Found env (chosen names t goal) budget → ⊥))
