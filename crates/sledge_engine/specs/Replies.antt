-- What a command answers and why: for each way to answer its exit status and its text.
use Rattle.std.specs.Prelude.{ℕ, List, Option}
use Rattle.race_outside.specs.Causes.{Rose}
use Rattle.race_outside.specs.Sinks.{TookAll, TookSome}
use Rattle.theory_gen.specs.Generated.{generated}
use Rattle.sledge_words.specs.declared.command.Command.{Command}
use Rattle.sledge_words.specs.declared.command.Command.TheVariants as command
use Rattle.sledge_words.specs.declared.line.Line.{Line}
use Rattle.sledge_words.specs.Lines.{IsLine}
use Rattle.sledge_engine.specs.Words.{arguments, metis_line, check_line, slice_line}
use Rattle.sledge_engine.specs.Files.{Outside}
use Rattle.sledge_engine.specs.Metis.{MetisReply}
use Rattle.sledge_engine.specs.Check.{CheckReply}
use Rattle.sledge_engine.specs.Filter.{FilterReply}
use Rattle.sledge_engine.specs.Problem.{ProblemReply}
use Rattle.sledge_engine.specs.Texts.{Is, usage_text, memory_text}

-- to a line of each command with these words as its arguments; `prove`, `drill`, `refute` and `batch` wait for children, and `model` and `chain`
-- aren't built yet
abbrev pub CommandReply : Command → Line → List (List ℕ) → Outside → ℕ → List ℕ → Type 0
CommandReply command.Prove l words o = Is 2 usage_text
CommandReply command.Drill l words o = Is 2 usage_text
CommandReply command.Metis l words o = MetisReply o (metis_line l words)
CommandReply command.Check l words o = CheckReply o (check_line words)
CommandReply command.Filter l words o = FilterReply o (slice_line l words)
CommandReply command.Problem l words o = ProblemReply o (slice_line l words)
CommandReply command.Gen l words o = Is 0 (generated l.number)
CommandReply command.Model l words o = Is 2 usage_text
CommandReply command.Refute l words o = Is 2 usage_text
CommandReply command.Chain l words o = Is 2 usage_text
CommandReply command.Batch l words o = Is 2 usage_text

-- to words
pub data Reply (words : List (List ℕ)) (o : Outside) : ℕ → List ℕ → Type 0 where
  -- they are no line
  usage : ((l : Line) → IsLine words l → ⊥) → Reply words o 2 usage_text
  line : (l : Line) (status : ℕ) (text : List ℕ) → IsLine words l → CommandReply l.command l (arguments words l) o status text → Reply words o status text
  -- want of memory, at any time
  memory : Reply words o 6 memory_text

-- a sink: what it took, where it tells, and its count of faults, before and after
pub record Told : Type 0 where
  pub taken : Option (List ℕ)
  pub now : Option (List ℕ)
  pub before : ℕ
  pub after : ℕ

-- the status is that of a reply whose text the sink took; where the sink failed it is 5, and it took a beginning of such a text
pub data Answered (words : List (List ℕ)) (o : Outside) (t : Told) : ℕ → Type 0 where
  told : (status : ℕ) (text : List ℕ) → Reply words o status text → TookAll t.taken text t.now → Answered words o t status
  cut_off : (status : ℕ) (text : List ℕ) → Reply words o status text → TookSome t.taken text t.now → Rose t.before t.after → Answered words o t 5
