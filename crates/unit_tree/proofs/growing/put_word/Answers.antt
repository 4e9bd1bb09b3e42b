use Rattle.fo_cells.specs.declared.cell.Cell.TheVariants.{Var}
use Rattle.unit_tree.specs.declared.token.Token.TheVariants.{Head}
use Rattle.unit_tree.proofs.Putting.{begun, one_more, stopped, ended_grows, ended_here}
use Rattle.unit_tree.proofs.growing.put_word.Goals as goal

pub loop-cell-init : goal.loop-cell-init
loop-cell-init c = begun c.args.nodes.now.items c.follow.new.nodes.items (Head c.args.positive c.args.equation) c.in_ok-at.at c.requires c.in_ok-at.ensures.ok

pub returns-in_err-at-2-clause-grows : goal.returns-in_err-at-2-clause-grows
returns-in_err-at-2-clause-grows c =
    stopped c.args.nodes.now.items c.loop-cell.nodes.items c.follow-in-loop-cell.new.nodes.items (Head c.args.positive c.args.equation) c.args.cells.now c.loop-cell.cell-index c.loop-cell.at c.loop-cell.invariant c.in_err-at-2.ensures.err

pub loop-cell-preserved : goal.loop-cell-preserved
loop-cell-preserved c =
    one_more c.args.nodes.now.items c.loop-cell.nodes.items c.follow-in-loop-cell.new.nodes.items (Head c.args.positive c.args.equation) c.cell_token.result c.args.cells.now c.loop-cell.cell-index c.loop-cell.at c.in_ok-at-2.at (Var 0) c.loop-cell-test.true c.loop-cell.invariant
    c.cell_token.ensures c.in_ok-at-2.ensures.ok

pub returns-in_err-follow-clause-grows : goal.returns-in_err-follow-clause-grows
returns-in_err-follow-clause-grows c =
    stopped c.args.nodes.now.items c.loop-cell.nodes.items c.follow-2.new.nodes.items (Head c.args.positive c.args.equation) c.args.cells.now c.loop-cell.cell-index c.loop-cell.at c.loop-cell.invariant c.in_err-follow.ensures.err

pub returns-clause-grows : goal.returns-clause-grows
returns-clause-grows c =
    ended_grows c.args.nodes.now.items c.loop-cell.nodes.items c.follow-2.new.nodes.items (Head c.args.positive c.args.equation) c.args.cells.now c.loop-cell.cell-index c.loop-cell.at c.in_ok-follow.field-0 c.loop-cell-test.false c.loop-cell.invariant c.in_ok-follow.ensures.ok

pub returns-clause-ok : goal.returns-clause-ok
returns-clause-ok c =
    ended_here c.args.nodes.now.items c.loop-cell.nodes.items c.follow-2.new.nodes.items (Head c.args.positive c.args.equation) c.args.cells.now c.loop-cell.cell-index c.loop-cell.at c.in_ok-follow.field-0 c.loop-cell-test.false c.loop-cell.invariant c.in_ok-follow.ensures.ok
