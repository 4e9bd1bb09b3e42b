use Rattle.std.proofs.Common.{length}
use Rattle.logic_tests.proofs.clausify.+are_refutations.Given as goal

abbrev pub decreases-are_refutations : goal.decreases-are_refutations
decreases-are_refutations l = length l.sources.now
