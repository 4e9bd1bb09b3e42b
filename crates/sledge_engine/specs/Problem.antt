-- What `problem` answers: the problem text of the facts that the filter chooses, in the order of their ranks.
use Rattle.std.specs.Prelude.{ℕ, List, map}
use Rattle.tptp_print.specs.Problems.{problem_text}
use Rattle.sledge_engine.specs.Files.{Outside}
use Rattle.sledge_engine.specs.Filter.{slice_choice}
use Rattle.sledge_engine.specs.Goals.{AboutGoal}
use Rattle.sledge_engine.specs.Texts.{Is}
use Rattle.sledge_engine.specs.Words.{SliceLine}

abbrev pub ProblemReply : Outside → SliceLine → ℕ → List ℕ → Type 0
ProblemReply o l = AboutGoal o l.theory l.goal (λ t goal. Is 0 (problem_text t goal (map (λ c. c.fact) (slice_choice t goal l.slice))))
