use Rattle.std.proofs.Common.{sym, subst, ◌∙◌}
use Rattle.tagged_terms.specs.Readings.{signs_of}
use Rattle.hol_kernel.proofs.Growing.{extends_trans, thm_stays}
use Rattle.hol_kernel.proofs.Making.{err_free}
use Rattle.clause_instances.specs.Images.{image}
use Rattle.clause_instances.specs.Theorems.{AreSigns, HasInstance}
use Rattle.hol_lift.proofs.PairsJoin.{concl_stays, lands_on, lands_from}
use Rattle.hol_lift.proofs.pair.both_instances.Goals as goal

pub instance-requires-clause-symbols : goal.instance-requires-clause-symbols
instance-requires-clause-symbols c = c.requires.symbols.serve

pub instance-requires-clause-fits : goal.instance-requires-clause-fits
instance-requires-clause-fits c = c.requires.left_fits

pub instance-requires-clause-th : goal.instance-requires-clause-th
instance-requires-clause-th c = c.requires.left

pub instance-requires-clause-false_is : goal.instance-requires-clause-false_is
instance-requires-clause-false_is c = c.requires.left_false

pub returns-in_err-one-clause-kept : goal.returns-in_err-one-clause-kept
returns-in_err-one-clause-kept c = c.instance.ensures.kept

pub returns-in_err-one-clause-facts : goal.returns-in_err-one-clause-facts
returns-in_err-one-clause-facts c = c.instance.ensures.facts

pub returns-in_err-one-clause-left : goal.returns-in_err-one-clause-left
returns-in_err-one-clause-left c = err_free c.from_residual.result _ c.from_residual.ensures.0

pub returns-in_err-one-clause-right : goal.returns-in_err-one-clause-right
returns-in_err-one-clause-right c = err_free c.from_residual.result _ c.from_residual.ensures.0

pub instance-requires-2-clause-symbols : goal.instance-requires-2-clause-symbols
instance-requires-2-clause-symbols c = subst (λ e. AreSigns e.sig (signs_of c.args.symbols.now)) (sym c.instance.ensures.kept.env) c.requires.symbols.serve

pub instance-requires-2-clause-fits : goal.instance-requires-2-clause-fits
instance-requires-2-clause-fits c = subst (λ e. HasInstance e.sig (signs_of c.args.symbols.now) (image c.args.right.now.by c.args.right.now.binds.now c.args.right.now.seen.now) c.args.right.now.literals.now) (sym c.instance.ensures.kept.env) c.requires.right_fits

pub instance-requires-2-clause-th : goal.instance-requires-2-clause-th
instance-requires-2-clause-th c = thm_stays _ _ _ c.instance.ensures.kept c.requires.right

pub instance-requires-2-clause-false_is : goal.instance-requires-2-clause-false_is
instance-requires-2-clause-false_is c = concl_stays c.args.log.now c.instance.new.log c.args.right.now.thm.0 c.instance.ensures.kept c.requires.right c.requires.right_false

pub returns-in_err-other-clause-kept : goal.returns-in_err-other-clause-kept
returns-in_err-other-clause-kept c = extends_trans _ _ _ c.instance.ensures.kept c.instance-2.ensures.kept

pub returns-in_err-other-clause-facts : goal.returns-in_err-other-clause-facts
returns-in_err-other-clause-facts c = c.instance-2.ensures.facts ∙ c.instance.ensures.facts

pub returns-in_err-other-clause-left : goal.returns-in_err-other-clause-left
returns-in_err-other-clause-left c = err_free c.from_residual-in_err-other.result _ c.from_residual-in_err-other.ensures.0

pub returns-in_err-other-clause-right : goal.returns-in_err-other-clause-right
returns-in_err-other-clause-right c = err_free c.from_residual-in_err-other.result _ c.from_residual-in_err-other.ensures.0

pub returns-clause-kept : goal.returns-clause-kept
returns-clause-kept c = extends_trans _ _ _ c.instance.ensures.kept c.instance-2.ensures.kept

pub returns-clause-facts : goal.returns-clause-facts
returns-clause-facts c = c.instance-2.ensures.facts ∙ c.instance.ensures.facts

pub returns-clause-left : goal.returns-clause-left
returns-clause-left c = lands_on c.args.log.now c.instance.new.log c.instance-2.new.log c.args.left.now.thm.0 c.in_ok-one.one.0 _ _ c.instance-2.ensures.kept c.in_ok-one.ensures.gives

pub returns-clause-right : goal.returns-clause-right
returns-clause-right c = lands_from c.args.log.now c.instance.new.log c.instance-2.new.log c.args.right.now.thm.0 c.in_ok-other.other.0 _ _ c.instance.ensures.kept c.requires.right c.in_ok-other.ensures.gives
