use Rattle.std.proofs.Common.{take}
use Rattle.unit_tree.specs.declared.token.Token.TheVariants.{Head}
use Rattle.unit_tree.proofs.Going.{Going, so_far}
use Rattle.unit_tree.proofs.growing.put_word.Given as goal

abbrev pub invariant-loop-cell : goal.invariant-loop-cell
invariant-loop-cell l = Going l.fn.nodes.items l.nodes.items (so_far (Head l.positive l.equation) (take l.cell-index l.cells)) l.at
