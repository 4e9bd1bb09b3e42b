-- What the code of `metis` holds on to, and what that stands for.
use Rattle.std.specs.Prelude.{ℕ, ◌≡◌, ◌<◌, IsTrue, List, length, map}
use Rattle.theory_reader.specs.Seen.{IsEnvOf, seen}
use Rattle.slot_work.specs.declared.replayed.Replayed.{Replayed}
use Rattle.slot_work.specs.Replays.{From, outcome_of}
use Rattle.sledge_engine.specs.declared.metis.Asked.{Asked}
use Rattle.sledge_engine.specs.Choice.{chosen}
use Rattle.slot_work.specs.Visible.{goal_fits}

-- the environment and the facts are those of the goal, which fits
pub record IsAsked (a : Asked) : Type 0 where
  pub goal : a.goal < length a.theory.now.goals
  pub env : IsEnvOf a.theory.now a.goal a.env.now
  pub fits : IsTrue (goal_fits a.theory.now a.goal)
  pub facts : map (λ f. f.now) a.facts.now ≡ seen a.theory.now a.goal

-- the names that the words say
abbrev pub said : Asked → List (List ℕ)
said a = map (λ w. w.now) a.words.now

-- a replay of the facts of these names
abbrev pub IsReplayed : Asked → Replayed → Type 0
IsReplayed a r = From a.env.now (chosen (said a) a.theory.now a.goal) a.budget (outcome_of r)
