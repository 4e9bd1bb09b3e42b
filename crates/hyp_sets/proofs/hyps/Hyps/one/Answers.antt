use Rattle.std.proofs.Common.{sym, subst}
use Rattle.hyp_sets.specs.inner.Trees.{Ascends}
use Rattle.hyp_sets.proofs.Ascending.{one_ascends}
use Rattle.hyp_sets.proofs.hyps.Hyps.one.Goals as goal

pub invariant_of-result : goal.invariant_of-result
invariant_of-result c = subst Ascends (sym c.in_ok-tree.ensures) (one_ascends c.args.t)
