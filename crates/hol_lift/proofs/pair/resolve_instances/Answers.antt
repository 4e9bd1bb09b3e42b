use Rattle.std.proofs.Common.{sym, subst, ◌∙◌}
use Rattle.tagged_terms.specs.Readings.{signs_of}
use Rattle.fo_terms.specs.Substitution.{put_literals}
use Rattle.hol_kernel.proofs.Growing.{extends_trans}
use Rattle.hol_kernel.proofs.Making.{err_free}
use Rattle.clause_instances.specs.Images.{image}
use Rattle.clause_instances.specs.Theorems.{clause_of}
use Rattle.hol_lift.specs.inner.Typed.{AllFormulas, Opposed}
use Rattle.hol_lift.proofs.Drops.{formulas_stay}
use Rattle.hol_lift.proofs.Singles.{instance_formulas}
use Rattle.hol_lift.proofs.PairsJoin.{resolved_both}
use Rattle.hol_lift.proofs.pair.resolve_instances.Goals as goal

pub both_instances-requires-clause-symbols : goal.both_instances-requires-clause-symbols
both_instances-requires-clause-symbols c = c.requires.symbols

pub both_instances-requires-clause-left_fits : goal.both_instances-requires-clause-left_fits
both_instances-requires-clause-left_fits c = c.requires.left_fits

pub both_instances-requires-clause-right_fits : goal.both_instances-requires-clause-right_fits
both_instances-requires-clause-right_fits c = c.requires.right_fits

pub both_instances-requires-clause-left : goal.both_instances-requires-clause-left
both_instances-requires-clause-left c = c.requires.left

pub both_instances-requires-clause-right : goal.both_instances-requires-clause-right
both_instances-requires-clause-right c = c.requires.right

pub both_instances-requires-clause-left_false : goal.both_instances-requires-clause-left_false
both_instances-requires-clause-left_false c = c.requires.left_false

pub both_instances-requires-clause-right_false : goal.both_instances-requires-clause-right_false
both_instances-requires-clause-right_false c = c.requires.right_false

pub returns-in_err-one-clause-kept : goal.returns-in_err-one-clause-kept
returns-in_err-one-clause-kept c = c.both_instances.ensures.kept

pub returns-in_err-one-clause-facts : goal.returns-in_err-one-clause-facts
returns-in_err-one-clause-facts c = c.both_instances.ensures.facts

pub returns-in_err-one-clause-gives : goal.returns-in_err-one-clause-gives
returns-in_err-one-clause-gives c = err_free c.from_residual.result _ c.from_residual.ensures.0

pub returns-in_err-p-clause-kept : goal.returns-in_err-p-clause-kept
returns-in_err-p-clause-kept c = c.both_instances.ensures.kept

pub returns-in_err-p-clause-facts : goal.returns-in_err-p-clause-facts
returns-in_err-p-clause-facts c = c.both_instances.ensures.facts

pub returns-in_err-p-clause-gives : goal.returns-in_err-p-clause-gives
returns-in_err-p-clause-gives c = err_free c.from_residual-in_err-p.result _ c.from_residual-in_err-p.ensures.0

pub returns-in_err-q-clause-kept : goal.returns-in_err-q-clause-kept
returns-in_err-q-clause-kept c = c.both_instances.ensures.kept

pub returns-in_err-q-clause-facts : goal.returns-in_err-q-clause-facts
returns-in_err-q-clause-facts c = c.both_instances.ensures.facts

pub returns-in_err-q-clause-gives : goal.returns-in_err-q-clause-gives
returns-in_err-q-clause-gives c = err_free c.from_residual-in_err-q.result _ c.from_residual-in_err-q.ensures.0

pub resolve_typed-requires-clause-opposed : goal.resolve_typed-requires-clause-opposed
resolve_typed-requires-clause-opposed c = subst (λ z. Opposed c.in_ok-p.p c.args.i z c.args.j) (sym c.in_ok-q.ensures) (subst (λ z. Opposed z c.args.i (clause_of (signs_of c.args.symbols.now) (put_literals (image c.args.right.now.by c.args.right.now.binds.now c.args.right.now.seen.now) c.args.right.now.literals.now)) c.args.j) (sym c.in_ok-p.ensures) c.requires.opposed)

pub resolve_typed-requires-clause-left_formulas : goal.resolve_typed-requires-clause-left_formulas
resolve_typed-requires-clause-left_formulas c = formulas_stay c.args.log.now c.both_instances.new.log _ c.both_instances.ensures.kept (subst (AllFormulas c.args.log.now.env.sig) (sym c.in_ok-p.ensures) (instance_formulas c.args.log.now.env.sig (signs_of c.args.symbols.now) (image c.args.left.now.by c.args.left.now.binds.now c.args.left.now.seen.now) c.args.left.now.literals.now c.requires.symbols c.requires.left_fits))

pub resolve_typed-requires-clause-right_formulas : goal.resolve_typed-requires-clause-right_formulas
resolve_typed-requires-clause-right_formulas c = formulas_stay c.args.log.now c.both_instances.new.log _ c.both_instances.ensures.kept (subst (AllFormulas c.args.log.now.env.sig) (sym c.in_ok-q.ensures) (instance_formulas c.args.log.now.env.sig (signs_of c.args.symbols.now) (image c.args.right.now.by c.args.right.now.binds.now c.args.right.now.seen.now) c.args.right.now.literals.now c.requires.symbols c.requires.right_fits))

pub resolve_typed-requires-clause-left : goal.resolve_typed-requires-clause-left
resolve_typed-requires-clause-left c = c.in_ok-one.ensures.left.is_thm

pub resolve_typed-requires-clause-right : goal.resolve_typed-requires-clause-right
resolve_typed-requires-clause-right c = c.in_ok-one.ensures.right.is_thm

pub resolve_typed-requires-clause-left_false : goal.resolve_typed-requires-clause-left_false
resolve_typed-requires-clause-left_false c = c.in_ok-one.ensures.left.concl

pub resolve_typed-requires-clause-right_false : goal.resolve_typed-requires-clause-right_false
resolve_typed-requires-clause-right_false c = c.in_ok-one.ensures.right.concl

pub returns-clause-kept : goal.returns-clause-kept
returns-clause-kept c = extends_trans _ _ _ c.both_instances.ensures.kept c.resolve_typed.ensures.kept

pub returns-clause-facts : goal.returns-clause-facts
returns-clause-facts c = c.resolve_typed.ensures.facts ∙ c.both_instances.ensures.facts

pub returns-clause-gives : goal.returns-clause-gives
returns-clause-gives c = resolved_both c.args.log.now c.both_instances.new.log c.resolve_typed.new.log (signs_of c.args.symbols.now) c.args.left.now.thm.0 c.args.right.now.thm.0 c.in_ok-one.one.0 c.in_ok-one.other.0 (image c.args.left.now.by c.args.left.now.binds.now c.args.left.now.seen.now) (image c.args.right.now.by c.args.right.now.binds.now c.args.right.now.seen.now) c.args.left.now.literals.now c.args.right.now.literals.now c.in_ok-one.ensures.left c.in_ok-one.ensures.right c.args.i c.args.j c.in_ok-p.p c.in_ok-q.q c.in_ok-p.ensures c.in_ok-q.ensures
    c.resolve_typed.result c.resolve_typed.ensures.gives
