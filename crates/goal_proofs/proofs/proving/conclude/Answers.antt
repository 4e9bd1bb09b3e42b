use Rattle.std.proofs.Common.{sym, subst}
use Rattle.std.specs.FinSet as set
use Rattle.hol_terms.specs.declared.env.Env.{Env}
use Rattle.hol_terms.specs.Formulas.{IsFormula}
use Rattle.hol_terms.proofs.Formulas.{sentence_formula}
use Rattle.kernel_rules.specs.Connectives.{neg}
use Rattle.kernel_rules.specs.Rules.{seq}
use Rattle.hol_kernel.specs.Logs.{thm}
use Rattle.hol_kernel.specs.Growth.{Gives}
use Rattle.goal_proofs.proofs.Lifted.{ends_in_goal}
use Rattle.goal_proofs.proofs.proving.conclude.Goals as goal

pub classical-requires-clause-t : goal.classical-requires-clause-t
classical-requires-clause-t c =
    let e = c.args.log.now.env in
    subst (λ (d : Env). IsFormula e.sig d.goal) (sym c.env-env.ensures) (sentence_formula e.sig e.goal e.goal_is_sentence)

pub returns-clause-last : goal.returns-clause-last
returns-clause-last c =
    let log = c.args.log.now in
    let new = c.classical.new.self in
    let th = c.in_ok-classical.field-0.0 in
    let gives = subst (λ (d : Env). Gives new th (seq (set.remove (thm log c.args.refuted.0).hyps (neg d.goal)) d.goal)) c.env-env.ensures c.in_ok-classical.ensures.gives in
    ends_in_goal log new c.args.refuted.0 th _ c.requires c.classical.ensures.kept c.in_ok-classical.ensures.made gives
