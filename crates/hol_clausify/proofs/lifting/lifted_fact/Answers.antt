use Rattle.std.proofs.Common.{◌<◌, length, sym, subst, ap, ◌∙◌, arith}
use Rattle.std.specs.FinSet as set
use Rattle.kernel_rules.specs.Connectives.{conj}
use Rattle.kernel_rules.specs.Rules.{seq}
use Rattle.hol_derived.proofs.Cuts.{gives_as}
use Rattle.hol_derived.proofs.Unions.{none_joined}
use Rattle.hol_clausify.proofs.LiftedBodies.{positive, fact_whole}
use Rattle.lambda_lift.specs.Tables.{expand}
use Rattle.hol_clausify.proofs.lifting.lifted_fact.Goals as goal

pub returns-clause-gives : goal.returns-clause-gives
returns-clause-gives c =
    let es = c.args.lifted.now.equations in
    let some : 0 < length es = subst (λ n. 0 < n) c.len.ensures (positive c.len.result c.if-len-eq0.false) in
    let table = c.args.table.now in
    let one = c.equations_hold.ensures.kept.earlier c.in_ok-body.body.0 c.in_ok-body.ensures.gives.is_thm ∙ c.in_ok-body.ensures.gives.is in
    let two = c.in_ok-equations.ensures.gives.is in
    gives_as c.and_intro.result c.and_intro.new.self _ _
    ((λ i. seq (set.union (one i).hyps (two i).hyps) (conj (one i).concl (two i).concl)) ∙ (λ i. seq (none_joined set.empty i) (sym (fact_whole table c.args.lifted.now.body es some) i))) c.and_intro.ensures.gives
