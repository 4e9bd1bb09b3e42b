use Rattle.race_core.specs.declared.slot.SlotState.TheVariants.{Running, Overdue, Reaped, ReapedLate}
use Rattle.race_core.proofs.Timed.{timed-is}
use Rattle.race_core.proofs.laws.overdue_where_the_limit_passed.Goals as goal

pub returns-clause-running : goal.returns-clause-running
returns-clause-running c = λ n until es r h k is. (timed-is n until es r h).stands k Running is

pub returns-clause-overdue : goal.returns-clause-overdue
returns-clause-overdue c = λ n until es r h k is. (timed-is n until es r h).stands k Overdue is

pub returns-clause-reaped : goal.returns-clause-reaped
returns-clause-reaped c = λ n until es r h k is. (timed-is n until es r h).stands k Reaped is

pub returns-clause-reaped_late : goal.returns-clause-reaped_late
returns-clause-reaped_late c = λ n until es r h k is. (timed-is n until es r h).stands k ReapedLate is
