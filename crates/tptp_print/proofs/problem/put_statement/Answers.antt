use Rattle.std.proofs.Common.{◌++◌, ◌∙◌}
use Rattle.std.proofs.lemmas.Result.{on_ok_weaker}
use Rattle.lambda_lift.proofs.Scoped.{scope_outside}
use Rattle.tptp_print.specs.Formulas.{formula_text}
use Rattle.tptp_print.proofs.Stating.{stated}
use Rattle.tptp_print.proofs.problem.put_statement.Goals as goal

pub returns : goal.returns
returns c =
    let sig = c.args.sig.now in
    on_ok_weaker c.put-2.result
    (λ e. stated sig c.args.consts.now c.args.goal (c.args.prefix.now ++ c.args.name.now) c.args.formula.now c.args.draft.now c.lifted_whole.new.table c.in_ok-formula.formula
    c.put.new.self c.put_name.new.page c.put_role.new.page c.put_formula.new.page c.put-2.new.self
    c.in_ok-formula.ensures.formula c.in_ok-formula.ensures.table c.in_ok-put.ensures c.in_ok-put_name.ensures c.in_ok-put_role.ensures
    (c.in_ok-put_formula.ensures ∙ (λ i. formula_text c.args.consts.now ((c.as_slice-table.ensures ∙ c.entries.ensures) i) (c.get.ensures i) (scope_outside i) c.put_role.new.page)) e)
    c.put-2.ensures
