use Rattle.std.proofs.Common.{refl}
use Rattle.hol_kernel.proofs.Growing.{extends_refl}
use Rattle.hol_kernel.proofs.Making.{err_free}
use Rattle.hol_terms.proofs.Both.{true_or_false}
use Rattle.hol_lift.proofs.lifting.lift_wanted.Goals as goal

pub lift_line-requires-clause-symbols : goal.lift_line-requires-clause-symbols
lift_line-requires-clause-symbols c = c.requires.symbols

pub lift_line-requires-clause-ready : goal.lift_line-requires-clause-ready
lift_line-requires-clause-ready c = c.requires.ready c.if-wanted.true

pub returns-in_err-th-clause-kept : goal.returns-in_err-th-clause-kept
returns-in_err-th-clause-kept c = c.lift_line.ensures.kept

pub returns-in_err-th-clause-facts : goal.returns-in_err-th-clause-facts
returns-in_err-th-clause-facts c = c.lift_line.ensures.facts

pub returns-in_err-th-clause-gives : goal.returns-in_err-th-clause-gives
returns-in_err-th-clause-gives c = err_free c.from_residual.result _ c.from_residual.ensures.0

pub returns-in_ok-th-clause-kept : goal.returns-in_ok-th-clause-kept
returns-in_ok-th-clause-kept c = c.lift_line.ensures.kept

pub returns-in_ok-th-clause-facts : goal.returns-in_ok-th-clause-facts
returns-in_ok-th-clause-facts c = c.lift_line.ensures.facts

pub returns-in_ok-th-clause-gives : goal.returns-in_ok-th-clause-gives
returns-in_ok-th-clause-gives c = λ h. (c.in_ok-th.th, refl, c.in_ok-th.ensures.gives)

pub returns-else-wanted-clause-kept : goal.returns-else-wanted-clause-kept
returns-else-wanted-clause-kept c = extends_refl c.args.log.now

pub returns-else-wanted-clause-facts : goal.returns-else-wanted-clause-facts
returns-else-wanted-clause-facts c = refl

pub returns-else-wanted-clause-gives : goal.returns-else-wanted-clause-gives
returns-else-wanted-clause-gives c = λ h. absurd (true_or_false c.args.wanted h c.if-wanted.false)
