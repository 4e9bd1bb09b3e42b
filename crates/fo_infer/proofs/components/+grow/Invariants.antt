use Rattle.std.proofs.Common.{length}
use Rattle.fo_infer.proofs.components.+grow.Given as goal

abbrev pub decreases-grow : goal.decreases-grow
decreases-grow l = length l.rest.now
