-- What the code holds of a race that is asked for.
use Rattle.std.specs.Prelude.{ℕ, ◌≡◌, ◌<◌, ◌≤◌, IsTrue, IfSome, List, [], length, map, Option}
use Rattle.std.specs.Option.{option_map_or}
use Rattle.theory_reader.specs.declared.theory.Theory.{Theory}
use Rattle.sledge_words.specs.declared.command.Command.TheVariants as command
use Rattle.sledge_words.specs.declared.line.Line.{Line}
use Rattle.sledge_words.specs.Lines.{IsLine}
use Rattle.slot_work.specs.Visible.{goal_fits, visible}
use Rattle.sledge_engine.specs.declared.contest.Contest.{Contest}
use Rattle.sledge_engine.specs.declared.finished.Finished.{Finished}
use Rattle.sledge_engine.specs.declared.trial.Entry.{Entry}
use Rattle.sledge_engine.specs.declared.trial.Prepared.{Prepared}
use Rattle.sledge_engine.specs.declared.trial.Prepared.TheVariants.{Race, Answered}
use Rattle.sledge_engine.specs.declared.trial.Telling.{Telling}
use Rattle.sledge_engine.specs.declared.trial.Telling.TheVariants.{Prove, Drill}
use Rattle.sledge_engine.specs.declared.trial.Trial.{Trial}
use Rattle.sledge_engine.specs.Files.{Outside}
use Rattle.sledge_engine.specs.Goals.{Poses}
use Rattle.sledge_engine.specs.Completeness.{IsComplete}
use Rattle.sledge_engine.specs.Headline.{Headline, Launching}
use Rattle.sledge_engine.specs.Orders.{orders_for}
use Rattle.sledge_engine.specs.Replies.{Told}
use Rattle.sledge_engine.specs.Reports.{chosen_counts, drill_text, prove_text, race_status}
use Rattle.sledge_engine.specs.Texts.{memory_text}
use Rattle.sledge_engine.specs.Runs.{Generates, QuietReply, RaceReply, RunReply, drill_contest, prove_contest}
use Rattle.sledge_engine.specs.Words.{arguments, goal_line}
use Rattle.sledge_engine.specs.inner.Sinking.{IsPut}

-- a race may be run with these numbers
pub record IsContest (c : Contest) : Type 0 where
  pub some : 0 < c.slices
  pub few : c.slices ≤ 64
  pub workers : (0 < c.workers) × (c.workers ≤ 16)
  pub limit : IfSome c.limit (λ milliseconds. milliseconds ≤ 600000)

-- the visible facts and the orders are those of the goal's race, and the goal fits
pub record IsEntry (e : Entry) : Type 0 where
  pub goal : e.trial.goal < length e.trial.theory.goals
  pub fits : IsTrue (goal_fits e.trial.theory e.trial.goal)
  pub contest : IsContest e.trial.contest
  pub visible_are : e.visible ≡ visible e.trial.theory e.trial.goal
  pub orders : e.orders ≡ orders_for e.trial.theory e.trial.goal e.trial.contest.prover e.trial.contest.slices

-- what is told of the race
abbrev pub report_of : Telling → Theory → ℕ → Finished → List ℕ
report_of (Prove shows) t goal f = prove_text shows t goal f
report_of (Drill n chosen) t goal f = drill_text n chosen t goal f

abbrev pub report : Trial → Finished → List ℕ
report r f = report_of r.telling r.theory r.goal f

-- the words ask for this race
pub data AsksFor (words : List (List ℕ)) (o : Outside) (r : Trial) : Type 0 where
  prove : (l : Line) → IsLine words l → l.command ≡ command.Prove →
      Poses o.files (goal_line (arguments words l)).theory (goal_line (arguments words l)).goal r.theory r.goal → r.contest ≡ prove_contest l → r.telling ≡ Prove l.proof →
      AsksFor words o r
  drill : (l : Line) → IsLine words l → l.command ≡ command.Drill → Generates l.number r.theory r.goal → r.contest ≡ drill_contest l →
      r.telling ≡ Drill l.number (chosen_counts r.theory r.goal 4) → AsksFor words o r

abbrev pub IsPrepared : List (List ℕ) → Outside → List ℕ → Prepared → Type 0
IsPrepared words o text (Race e) = IsEntry e × AsksFor words o e.trial
IsPrepared words o text (Answered status) = QuietReply words o status text

-- the race was run for the goal
pub record IsRaced (r : Trial) (l : Launching) (f : Finished) : Type 0 where
  pub headline : Headline r.theory r.goal r.contest l f
  pub complete : IsComplete r.theory r.goal r.contest l f

-- the report of this race was put, or that there was no memory for it
pub data IsReport (r : Trial) (f : Finished) (sink : Told) (given : ℕ) : Type 0 where
  reported : IsPut sink (report r f) (race_status f) given → IsReport r f sink given
  wanting : IsPut sink memory_text 6 given → IsReport r f sink given

-- a reply by this race was put
abbrev pub IsRaceTold : Trial → Launching → Told → Option Finished → ℕ → Type 0
IsRaceTold r l sink race given =
    (status : ℕ) × (text : List ℕ) × RaceReply r.theory r.goal r.contest l (report r) race status text × IsPut sink text status given

abbrev pub IsRunTold : List (List ℕ) → Outside → Launching → Told → Option Finished → ℕ → Type 0
IsRunTold words o l sink race given = (status : ℕ) × (text : List ℕ) × RunReply words o l race status text × IsPut sink text status given
