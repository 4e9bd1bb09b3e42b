use Rattle.std.proofs.Common.{refl, ap}
use Rattle.std.specs.FinSet as set
use Rattle.kernel_rules.specs.Rules.{seq}
use Rattle.hol_kernel.specs.Logs.{thm}
use Rattle.hol_kernel.proofs.Growing.{extends_refl}
use Rattle.hol_kernel.proofs.Making.{err_free}
use Rattle.hol_derived.proofs.Cuts.{gives_as}
use Rattle.hol_derived.proofs.replacing.replace_along.Goals as goal

pub context-requires-clause-eq : goal.context-requires-clause-eq
context-requires-clause-eq c = c.requires.eq

pub context-requires-clause-th : goal.context-requires-clause-th
context-requires-clause-th c = c.requires.th

pub context-requires-clause-is : goal.context-requires-clause-is
context-requires-clause-is c = c.requires.is

pub context-requires-clause-part : goal.context-requires-clause-part
context-requires-clause-part c = c.requires.part

pub returns-in_err-property-clause-kept : goal.returns-in_err-property-clause-kept
returns-in_err-property-clause-kept c = extends_refl c.args.log.now

pub returns-in_err-property-clause-gives : goal.returns-in_err-property-clause-gives
returns-in_err-property-clause-gives c = err_free c.from_residual.result _ c.from_residual.ensures.0

pub subst_own-requires-clause-eq : goal.subst_own-requires-clause-eq
subst_own-requires-clause-eq c = c.requires.eq

pub subst_own-requires-clause-a : goal.subst_own-requires-clause-a
subst_own-requires-clause-a c = c.requires.th

pub subst_own-requires-clause-is : goal.subst_own-requires-clause-is
subst_own-requires-clause-is c = c.requires.is

pub subst_own-requires-clause-f : goal.subst_own-requires-clause-f
subst_own-requires-clause-f c = c.in_ok-property.ensures.property

pub subst_own-requires-clause-fits : goal.subst_own-requires-clause-fits
subst_own-requires-clause-fits c = c.in_ok-property.ensures.before

pub returns-clause-kept : goal.returns-clause-kept
returns-clause-kept c = c.subst_own.ensures.kept

pub returns-clause-gives : goal.returns-clause-gives
returns-clause-gives c =
    let e = (thm c.args.log.now c.args.eq.0).concl in
    let t = (thm c.args.log.now c.args.th.0).concl in
    gives_as c.subst_own.result c.subst_own.new.self _ _
    (ap (seq (set.union (thm c.args.log.now c.args.eq.0).hyps (thm c.args.log.now c.args.th.0).hyps)) c.in_ok-property.ensures.after) c.subst_own.ensures.gives

pub returns-in_err-property-clause-facts : goal.returns-in_err-property-clause-facts
returns-in_err-property-clause-facts c = refl

pub returns-clause-facts : goal.returns-clause-facts
returns-clause-facts c = c.subst_own.ensures.facts
