use Rattle.std.proofs.Common.{◌<◌, length, sym, subst, ap, true, ◌∙◌, arith}
use Rattle.hol_terms.specs.Formulas.{IsFormula}
use Rattle.hyp_sets.specs.Sets.{only}
use Rattle.kernel_rules.specs.Connectives.{imp, neg}
use Rattle.kernel_rules.specs.Rules.{seq}
use Rattle.hol_kernel.proofs.Growing.{extends_trans}
use Rattle.hol_derived.proofs.Cuts.{gives_as}
use Rattle.hol_derived.proofs.Splits.{formula_stays}
use Rattle.lambda_lift.specs.Tables.{expand}
use Rattle.hol_clausify.proofs.LiftedBodies.{positive, whole_formula, goal_whole}
use Rattle.hol_clausify.proofs.lifting.lifted_goal.Goals as goal

pub implication_fails-requires-clause-whole : goal.implication_fails-requires-clause-whole
implication_fails-requires-clause-whole c =
    let log = c.args.log.now in
    let is = c.in_ok-whole-2.ensures ∙ ap (expand c.args.table.now) c.in_ok-whole.ensures in
    formula_stays log c.equations_hold.new.log _ (extends_trans _ _ _ c.body_fails.ensures.kept c.equations_hold.ensures.kept)
    (subst (IsFormula log.env.sig) (sym is) (whole_formula log.env.sig c.args.formula.now c.args.lifted.now c.args.table.now c.requires.lifted c.requires.formula true))

pub implication_fails-requires-clause-is : goal.implication_fails-requires-clause-is
implication_fails-requires-clause-is c =
    let es = c.args.lifted.now.equations in
    let some : 0 < length es = subst (λ n. 0 < n) c.len.ensures (positive c.len.result c.if-len-eq0.false) in
    let is = c.in_ok-whole-2.ensures ∙ ap (expand c.args.table.now) c.in_ok-whole.ensures in
    is ∙ goal_whole c.args.table.now c.args.lifted.now.body es some ∙ (λ i. imp (sym (ap (λ q. q.concl) c.in_ok-premises.ensures.gives.is) i) (sym c.in_ok-body.ensures i))

pub returns-clause-gives : goal.returns-clause-gives
returns-clause-gives c =
    let is = c.in_ok-whole-2.ensures ∙ ap (expand c.args.table.now) c.in_ok-whole.ensures in
    gives_as c.implication_fails.result c.implication_fails.new.log _ _ (ap (λ z. seq (only (neg c.args.formula.now)) (neg z)) is) c.implication_fails.ensures.gives
