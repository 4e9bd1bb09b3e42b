use Rattle.hyp_sets.proofs.tree.Tree.TheLaws.{the_size}
use Rattle.hyp_sets.proofs.uniting.+covers.Given as goal

abbrev pub decreases-covers : goal.decreases-covers
decreases-covers l = the_size l.part.now
