-- A line as it is lent.
use Rattle.std.specs.Prelude.{map}
use Rattle.sledge_engine.specs.declared.words.MetisLine.{MetisLine as LentMetis}
use Rattle.sledge_engine.specs.declared.words.CheckLine.{CheckLine as LentCheck}
use Rattle.sledge_engine.specs.declared.words.SliceLine.{SliceLine as LentSlice}
use Rattle.sledge_engine.specs.declared.words.GoalLine.{GoalLine as LentGoal}
use Rattle.sledge_engine.specs.Words.{MetisLine, CheckLine, GoalLine, SliceLine}

abbrev pub metis_shown : LentMetis → MetisLine
metis_shown l = record { theory = l.theory.now; goal = l.goal.now; facts = map (λ w. w.now) l.facts.now; budget = l.budget; shows = l.shows }

abbrev pub check_shown : LentCheck → CheckLine
check_shown l = record { theory = l.theory.now; proof = l.proof.now }

abbrev pub slice_shown : LentSlice → SliceLine
slice_shown l = record { theory = l.theory.now; goal = l.goal.now; slice = l.slice }

abbrev pub goal_shown : LentGoal → GoalLine
goal_shown l = record { theory = l.theory.now; goal = l.goal.now }
