-- What a job is for.
use Rattle.std.specs.Prelude.{◌≡◌, ℕ, ◌<◌, List, length, IsTrue}
use Rattle.hol_terms.specs.declared.env.Env.{Env}
use Rattle.theory_reader.specs.declared.theory.Theory.{Theory}
use Rattle.theory_reader.specs.Seen.{IsEnvOf}
use Rattle.slot_work.specs.Visible.{visible, goal_fits}

-- a goal of a theory, by its number, its environment, the facts that it may be proved from, and the picks that a search may make
pub record Posed : Type 0 where
  pub theory : Theory
  pub goal : ℕ
  pub env : Env
  pub visible : List ℕ
  pub budget : ℕ

-- the job is for this goal
pub record IsJobOf (t : Theory) (goal budget : ℕ) (job : Posed) : Type 0 where
  pub theory_is : job.theory ≡ t
  pub goal_is : job.goal ≡ goal
  pub budget_is : job.budget ≡ budget
  pub is_goal : goal < length t.goals
  pub fits : IsTrue (goal_fits t goal)
  pub env : IsEnvOf t goal job.env
  pub visible_is : job.visible ≡ visible t goal
