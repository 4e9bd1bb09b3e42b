use Rattle.std.proofs.Common.{◌∙◌}
use Rattle.hol_kernel.proofs.Growing.{extends_trans}
use Rattle.hol_kernel.proofs.Making.{err_free}
use Rattle.hol_clauses.proofs.Instances.{reached_start, reached_step, reached_all, given_still}
use Rattle.hol_clauses.proofs.instantiating.instantiate.Goals as goal

pub loop-b-init : goal.loop-b-init
loop-b-init c = reached_start c.args.log.now c.args.th.0 c.requires.th

pub inst-requires-clause-ty : goal.inst-requires-clause-ty
inst-requires-clause-ty c = (given_still c.args.log.now c.loop-b.log c.args.bindings.now c.loop-b.b-index c.b-item.result c.loop-b.invariant.kept c.requires.bindings c.loop-b-test.true c.b-item.is).0

pub inst-requires-clause-t : goal.inst-requires-clause-t
inst-requires-clause-t c = (given_still c.args.log.now c.loop-b.log c.args.bindings.now c.loop-b.b-index c.b-item.result c.loop-b.invariant.kept c.requires.bindings c.loop-b-test.true c.b-item.is).1

pub inst-requires-clause-a : goal.inst-requires-clause-a
inst-requires-clause-a c = c.loop-b.invariant.gives.is_thm

pub returns-in_err-at-clause-kept : goal.returns-in_err-at-clause-kept
returns-in_err-at-clause-kept c = extends_trans _ _ _ c.loop-b.invariant.kept c.inst.ensures.kept

pub returns-in_err-at-clause-facts : goal.returns-in_err-at-clause-facts
returns-in_err-at-clause-facts c = c.inst.ensures.facts ∙ c.loop-b.invariant.facts

pub returns-in_err-at-clause-gives : goal.returns-in_err-at-clause-gives
returns-in_err-at-clause-gives c = err_free c.from_residual.result _ c.from_residual.ensures.0

pub loop-b-preserved : goal.loop-b-preserved
loop-b-preserved c = reached_step c.args.log.now c.loop-b.log c.inst.new.self c.args.bindings.now c.loop-b.b-index c.b-item.result c.args.th.0 _ c.in_ok-at.at.0 c.loop-b-test.true c.b-item.is c.loop-b.invariant c.inst.ensures.kept c.inst.ensures.facts c.in_ok-at.ensures.gives

pub returns-clause-kept : goal.returns-clause-kept
returns-clause-kept c = c.loop-b.invariant.kept

pub returns-clause-facts : goal.returns-clause-facts
returns-clause-facts c = c.loop-b.invariant.facts

pub returns-clause-gives : goal.returns-clause-gives
returns-clause-gives c = reached_all c.args.log.now c.loop-b.log c.args.bindings.now c.loop-b.b-index c.args.th.0 _ c.loop-b-test.false c.loop-b.invariant
