use Rattle.std.proofs.Common.{◌∙◌, ap}
use Rattle.std.specs.FinSet as set
use Rattle.kernel_rules.specs.Connectives.{right_of}
use Rattle.kernel_rules.specs.Rules.{seq}
use Rattle.hol_kernel.specs.Logs.{thm}
use Rattle.hol_derived.specs.Paths.{part_at, replaced_at}
use Rattle.hol_derived.proofs.Cuts.{gives_as}
use Rattle.hol_derived.proofs.replacing.replace_at.Goals as goal

pub replace_along-requires-clause-eq : goal.replace_along-requires-clause-eq
replace_along-requires-clause-eq c = c.requires.eq

pub replace_along-requires-clause-th : goal.replace_along-requires-clause-th
replace_along-requires-clause-th c = c.requires.th

pub replace_along-requires-clause-is : goal.replace_along-requires-clause-is
replace_along-requires-clause-is c = c.requires.is

pub replace_along-requires-clause-part : goal.replace_along-requires-clause-part
replace_along-requires-clause-part c = ap (λ p. part_at p (thm c.args.log.now c.args.th.0).concl) c.as_slice.ensures ∙ c.requires.part

pub returns-clause-kept : goal.returns-clause-kept
returns-clause-kept c = c.replace_along.ensures.kept

pub returns-clause-gives : goal.returns-clause-gives
returns-clause-gives c =
    let e = (thm c.args.log.now c.args.eq.0).concl in
    let t = (thm c.args.log.now c.args.th.0).concl in
    gives_as c.replace_along.result c.replace_along.new.log _ _
    (ap (seq (set.union (thm c.args.log.now c.args.eq.0).hyps (thm c.args.log.now c.args.th.0).hyps)) (ap (λ p. replaced_at p (right_of e) t) c.as_slice.ensures)) c.replace_along.ensures.gives

pub returns-clause-facts : goal.returns-clause-facts
returns-clause-facts c = c.replace_along.ensures.facts
