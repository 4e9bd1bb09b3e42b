use Rattle.std.proofs.Common.{◌≡◌, ◌++◌, List, length}
use Rattle.tstp_read.specs.declared.sources.Part.{Part}
use Rattle.tstp_read.specs.inner.Machine.{all_given}
use Rattle.tstp_read.proofs.sources.given_by_all.Given as goal

abbrev pub invariant-parts : goal.invariant-parts
invariant-parts l = (done : List Part) × (l.fn.parts ≡ l.rest ++ done) × (l.all ≡ all_given done)

abbrev pub decreases-parts : goal.decreases-parts
decreases-parts l = length l.rest
