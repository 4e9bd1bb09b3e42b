use Rattle.std.proofs.Common.{length}
use Rattle.fo_infer.proofs.components.+covers_components.Given as goal

abbrev pub decreases-covers_components : goal.decreases-covers_components
decreases-covers_components l = length l.rest.now
