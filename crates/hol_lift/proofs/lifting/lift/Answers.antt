use Rattle.std.proofs.Common.{refl}
use Rattle.tagged_terms.specs.Readings.{signs_of}
use Rattle.hol_kernel.proofs.Growing.{extends_refl}
use Rattle.hol_kernel.proofs.Making.{err_free}
use Rattle.hol_lift.proofs.Upto.{are_ordered, has_last, refuted}
use Rattle.hol_lift.proofs.lifting.lift.Goals as goal

pub wanted-requires : goal.wanted-requires
wanted-requires c = are_ordered c.args.clauses.now c.args.r.now.lines c.requires.refutes.follow

pub returns-in_err-marks-clause-kept : goal.returns-in_err-marks-clause-kept
returns-in_err-marks-clause-kept c = extends_refl c.args.log.now

pub returns-in_err-marks-clause-facts : goal.returns-in_err-marks-clause-facts
returns-in_err-marks-clause-facts c = refl

pub returns-in_err-marks-clause-gives : goal.returns-in_err-marks-clause-gives
returns-in_err-marks-clause-gives c = err_free c.from_residual.result _ c.from_residual.ensures.0

pub lift_lines-requires-clause-symbols : goal.lift_lines-requires-clause-symbols
lift_lines-requires-clause-symbols c = c.requires.symbols

pub lift_lines-requires-clause-inputs : goal.lift_lines-requires-clause-inputs
lift_lines-requires-clause-inputs c = c.requires.inputs

pub lift_lines-requires-clause-follow : goal.lift_lines-requires-clause-follow
lift_lines-requires-clause-follow c = c.requires.refutes.follow

pub lift_lines-requires-clause-marks : goal.lift_lines-requires-clause-marks
lift_lines-requires-clause-marks c = c.in_ok-marks.ensures

pub returns-in_err-made-clause-kept : goal.returns-in_err-made-clause-kept
returns-in_err-made-clause-kept c = c.lift_lines.ensures.kept

pub returns-in_err-made-clause-facts : goal.returns-in_err-made-clause-facts
returns-in_err-made-clause-facts c = c.lift_lines.ensures.facts

pub returns-in_err-made-clause-gives : goal.returns-in_err-made-clause-gives
returns-in_err-made-clause-gives c = err_free c.from_residual-in_err-made.result _ c.from_residual-in_err-made.ensures.0

pub last_made-requires : goal.last_made-requires
last_made-requires c = has_last c.args.log.now c.lift_lines.new.log (signs_of c.args.symbols.now) c.args.clauses.now c.args.thms.now c.args.r.now.lines c.in_ok-marks.marks c.in_ok-made.made c.requires.refutes c.in_ok-marks.ensures c.in_ok-made.ensures.gives

pub returns-clause-kept : goal.returns-clause-kept
returns-clause-kept c = c.lift_lines.ensures.kept

pub returns-clause-facts : goal.returns-clause-facts
returns-clause-facts c = c.lift_lines.ensures.facts

pub returns-clause-gives : goal.returns-clause-gives
returns-clause-gives c = refuted c.args.log.now c.lift_lines.new.log (signs_of c.args.symbols.now) c.args.clauses.now c.args.thms.now c.args.r.now.lines c.in_ok-marks.marks c.in_ok-made.made c.requires.refutes c.in_ok-marks.ensures c.in_ok-made.ensures.gives c.last_made.result c.last_made.ensures
