-- What is ready for a race, and what is entered.
use Rattle.std.specs.Prelude.{ℕ, ◌≡◌, List}
use Rattle.theory_gen.specs.Generated.{generated}
use Rattle.theory_reader.specs.declared.theory.Theory.{Theory}
use Rattle.theory_reader.specs.Reading.{Reads}
use Rattle.theory_reader.specs.Seen.{declarations}
use Rattle.sledge_words.specs.declared.command.Command.TheVariants as command
use Rattle.sledge_words.specs.declared.line.Line.{Line}
use Rattle.sledge_words.specs.Lines.{IsLine}
use Rattle.slot_work.specs.Visible.{visible}
use Rattle.sledge_engine.specs.declared.contest.Contest.{Contest}
use Rattle.sledge_engine.specs.declared.preparing.Ready.{Ready}
use Rattle.sledge_engine.specs.declared.trial.Entry.{Entry}
use Rattle.sledge_engine.specs.declared.trial.Prepared.{Prepared}
use Rattle.sledge_engine.specs.declared.trial.Telling.TheVariants.{Prove, Drill}
use Rattle.sledge_engine.specs.Files.{Outside}
use Rattle.sledge_engine.specs.Reports.{chosen_counts}
use Rattle.sledge_engine.specs.Runs.{drill_contest, prove_contest}
use Rattle.sledge_engine.specs.inner.Planned.{ArePlanned}
use Rattle.sledge_engine.specs.inner.Trials.{IsEntry, IsPrepared}

-- the visible facts and the plan of a goal's race
pub record IsReady (t : Theory) (goal : ℕ) (c : Contest) (r : Ready) : Type 0 where
  pub visible_are : r.visible ≡ visible t goal
  pub plan : ArePlanned t goal c.prover c.slices r.plan

pub record IsProveEntry (l : Line) (t : Theory) (goal : ℕ) (e : Entry) : Type 0 where
  pub entry : IsEntry e
  pub theory : e.trial.theory ≡ t
  pub goal_is : e.trial.goal ≡ goal
  pub contest : e.trial.contest ≡ prove_contest l
  pub telling : e.trial.telling ≡ Prove l.proof

pub record IsDrillEntry (l : Line) (t : Theory) (goal : ℕ) (e : Entry) : Type 0 where
  pub entry : IsEntry e
  pub theory : e.trial.theory ≡ t
  pub goal_is : e.trial.goal ≡ goal
  pub contest : e.trial.contest ≡ drill_contest l
  pub telling : e.trial.telling ≡ Drill l.number (chosen_counts e.trial.theory e.trial.goal 4)

-- what words ask for whose line is this, where the generated theory is this
abbrev pub IsGenerated : Line → Theory → List ℕ → Prepared → Type 0
IsGenerated l t text p =
    (words : List (List ℕ)) (o : Outside) → IsLine words l → l.command ≡ command.Drill → Reads (generated l.number) (declarations t) → IsPrepared words o text p
