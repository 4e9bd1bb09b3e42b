use Rattle.formula_clauses.proofs.Sizing.{property_over, variables_over, variables_within}
use Rattle.formula_clauses.proofs.choosing.small_variables.Goals as goal

pub returns-in_default : goal.returns-in_default
returns-in_default c = property_over c.args.table.now c.args.ty.now c.args.f.now c.in_default.ensures

pub returns-then-len-left : goal.returns-then-len-left
returns-then-len-left c =
    variables_over c.args.table.now c.args.ty.now c.args.f.now c.in_ok-vs.vs c.len.result c.in-Some.left c.in-Some.ensures c.len.ensures c.in_ok-vs.ensures c.if-len-left.true

pub returns : goal.returns
returns c = (
  c.in_ok-vs.ensures,
  variables_within c.args.table.now c.args.ty.now c.args.f.now c.in_ok-vs.vs c.len.result c.in-Some.left c.in-Some.ensures c.len.ensures c.in_ok-vs.ensures c.if-len-left.false,
)
