-- A command's theory, and its goal in it.
use Rattle.std.specs.Prelude.{ℕ, ◌≡◌, false, IsTrue, List, Option, Some, None}
use Rattle.race_outside.specs.Shelves.{Files}
use Rattle.theory_reader.specs.declared.theory.Theory.{Theory}
use Rattle.sledge_engine.specs.Choice.{goal_place}
use Rattle.sledge_engine.specs.Files.{Outside, HoldsTheory, TheoryRefusal}
use Rattle.slot_work.specs.Visible.{goal_fits}
use Rattle.sledge_engine.specs.Texts.{goal_text, large_goal_text}

-- the theory that stands under this name has a goal of this name, which fits
pub record Poses (files : Option Files) (theory name : List ℕ) (t : Theory) (goal : ℕ) : Type 0 where
  pub held : HoldsTheory files theory t
  pub place : goal_place t name ≡ Some goal
  pub fits : IsTrue (goal_fits t goal)

-- it hasn't
pub data GoalRefusal (o : Outside) (theory name : List ℕ) : ℕ → List ℕ → Type 0 where
  no_theory : (status : ℕ) (text : List ℕ) → TheoryRefusal o theory status text → GoalRefusal o theory name status text
  no_goal : (t : Theory) → HoldsTheory o.files theory t → goal_place t name ≡ None → GoalRefusal o theory name 4 (goal_text name)
  too_large : (t : Theory) (goal : ℕ) → HoldsTheory o.files theory t → goal_place t name ≡ Some goal → goal_fits t goal ≡ false →
      GoalRefusal o theory name 4 (large_goal_text name)

-- the reply of this status and this text: to the goal, or that it can't be asked about
pub data AboutGoal (o : Outside) (theory name : List ℕ) (R : Theory → ℕ → ℕ → List ℕ → Type 0) : ℕ → List ℕ → Type 0 where
  refused : (status : ℕ) (text : List ℕ) → GoalRefusal o theory name status text → AboutGoal o theory name R status text
  about : (t : Theory) (goal status : ℕ) (text : List ℕ) → Poses o.files theory name t goal → R t goal status text → AboutGoal o theory name R status text
