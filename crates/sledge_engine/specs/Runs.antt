-- What `run` answers and why: as `answer` does, or by a race for a goal.
use Rattle.std.specs.Prelude.{ℕ, ◌≡◌, Bool, true, false, List, Option, Some, None, codes}
use Rattle.race_outside.specs.Causes.{Rose}
use Rattle.race_outside.specs.Sinks.{TookAll, TookSome}
use Rattle.theory_gen.specs.Generated.{generated}
use Rattle.theory_terms.specs.declared.fault.TheoryKind.{TheoryKind}
use Rattle.theory_reader.specs.declared.theory.Theory.{Theory}
use Rattle.theory_reader.specs.Reading.{Reads, Faulty}
use Rattle.theory_reader.specs.Seen.{declarations}
use Rattle.sledge_words.specs.declared.command.Command.{Command}
use Rattle.sledge_words.specs.declared.command.Command.TheVariants as command
use Rattle.sledge_words.specs.declared.line.Line.{Line}
use Rattle.sledge_words.specs.Lines.{IsLine}
use Rattle.sledge_engine.specs.declared.contest.Contest.{Contest}
use Rattle.sledge_engine.specs.declared.finished.Finished.{Finished}
use Rattle.sledge_engine.specs.Words.{GoalLine, arguments, goal_line}
use Rattle.sledge_engine.specs.Texts.{goal_text, large_goal_text, memory_text, theory_text, usage_text}
use Rattle.sledge_engine.specs.Choice.{goal_place}
use Rattle.sledge_engine.specs.Files.{Outside}
use Rattle.slot_work.specs.Visible.{goal_fits}
use Rattle.sledge_engine.specs.Goals.{GoalRefusal, Poses}
use Rattle.sledge_engine.specs.Replies.{CommandReply, Told}
use Rattle.sledge_engine.specs.Headline.{Headline, Launching}
use Rattle.sledge_engine.specs.Completeness.{IsComplete}
use Rattle.sledge_engine.specs.Reports.{chosen_counts, drill_text, prove_text, race_status}

-- ---- the race that a line asks for

abbrev pub races : Command → Bool
races command.Prove = true
races command.Drill = true
races _ = false

-- `prove`: as the line says
abbrev pub prove_contest : Line → Contest
prove_contest l = record { slices = l.slices; workers = l.workers; budget = l.budget; limit = l.timeout; prover = l.prover }

-- `drill`: four slices, the default budget and no limit of time
abbrev pub drill_contest : Line → Contest
drill_contest l = record { slices = 4; workers = l.workers; budget = 2000; limit = None; prover = l.prover }

abbrev pub drill_goal : List ℕ
drill_goal = codes "g"

-- the generated theory with so many facts, and its goal, which fits
pub record Generates (n : ℕ) (t : Theory) (goal : ℕ) : Type 0 where
  pub reads : Reads (generated n) (declarations t)
  pub place : goal_place t drill_goal ≡ Some goal
  pub fits : goal_fits t goal ≡ true

-- it reads as no theory, or has no such goal
pub data GeneratedRefusal (n : ℕ) : ℕ → List ℕ → Type 0 where
  faulty : (at : ℕ) (k : TheoryKind) → Faulty (generated n) at k → GeneratedRefusal n 4 (theory_text at k)
  no_goal : (t : Theory) → Reads (generated n) (declarations t) → goal_place t drill_goal ≡ None → GeneratedRefusal n 4 (goal_text drill_goal)
  too_large : (t : Theory) (goal : ℕ) → Reads (generated n) (declarations t) → goal_place t drill_goal ≡ Some goal → goal_fits t goal ≡ false →
      GeneratedRefusal n 4 (large_goal_text drill_goal)

-- ---- replies

-- to words that ask for no race, or for one that isn't run
pub data QuietReply (words : List (List ℕ)) (o : Outside) : ℕ → List ℕ → Type 0 where
  -- they are no line
  usage : ((l : Line) → IsLine words l → ⊥) → QuietReply words o 2 usage_text
  -- a line of a command that doesn't race is answered as by `answer`
  line : (l : Line) (status : ℕ) (text : List ℕ) → IsLine words l → races l.command ≡ false → CommandReply l.command l (arguments words l) o status text →
      QuietReply words o status text
  not_posed : (l : Line) (status : ℕ) (text : List ℕ) → IsLine words l → l.command ≡ command.Prove →
      GoalRefusal o (goal_line (arguments words l)).theory (goal_line (arguments words l)).goal status text → QuietReply words o status text
  not_generated : (l : Line) (status : ℕ) (text : List ℕ) → IsLine words l → l.command ≡ command.Drill → GeneratedRefusal l.number status text → QuietReply words o status text

-- by a race for a goal, of which this is reported: the race, where one was finished, the status and the text
pub data RaceReply (t : Theory) (goal : ℕ) (c : Contest) (l : Launching) (report : Finished → List ℕ) : Option Finished → ℕ → List ℕ → Type 0 where
  raced : (f : Finished) → Headline t goal c l f → IsComplete t goal c l f → RaceReply t goal c l report (Some f) (race_status f) (report f)
  -- want of memory while the report is made
  untold : (f : Finished) → Headline t goal c l f → IsComplete t goal c l f → RaceReply t goal c l report (Some f) 6 memory_text
  -- want of memory before the first start
  unraced : RaceReply t goal c l report None 6 memory_text

pub data RunReply (words : List (List ℕ)) (o : Outside) (l : Launching) : Option Finished → ℕ → List ℕ → Type 0 where
  quiet : (status : ℕ) (text : List ℕ) → QuietReply words o status text → RunReply words o l None status text
  prove : (line : Line) (t : Theory) (goal : ℕ) (race : Option Finished) (status : ℕ) (text : List ℕ) → IsLine words line → line.command ≡ command.Prove →
      Poses o.files (goal_line (arguments words line)).theory (goal_line (arguments words line)).goal t goal →
      RaceReply t goal (prove_contest line) l (prove_text line.proof t goal) race status text → RunReply words o l race status text
  drill : (line : Line) (t : Theory) (goal : ℕ) (race : Option Finished) (status : ℕ) (text : List ℕ) → IsLine words line → line.command ≡ command.Drill →
      Generates line.number t goal →
      RaceReply t goal (drill_contest line) l (drill_text line.number (chosen_counts t goal 4) t goal) race status text → RunReply words o l race status text
  -- want of memory before a race
  memory : RunReply words o l None 6 memory_text

-- the status is that of a reply whose text the sink took; where the sink failed it is 5, and it took a beginning of such a text
pub data RunAnswered (words : List (List ℕ)) (o : Outside) (l : Launching) (sink : Told) (race : Option Finished) : ℕ → Type 0 where
  told : (status : ℕ) (text : List ℕ) → RunReply words o l race status text → TookAll sink.taken text sink.now → RunAnswered words o l sink race status
  cut_off : (status : ℕ) (text : List ℕ) → RunReply words o l race status text → TookSome sink.taken text sink.now → Rose sink.before sink.after →
      RunAnswered words o l sink race 5
