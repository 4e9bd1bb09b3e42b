use Rattle.hyp_sets.proofs.tree.Tree.TheLaws.{the_size}
use Rattle.hyp_sets.proofs.joining.+last_apart.Given as goal

abbrev pub decreases-last_apart : goal.decreases-last_apart
decreases-last_apart l = the_size l.r.now
