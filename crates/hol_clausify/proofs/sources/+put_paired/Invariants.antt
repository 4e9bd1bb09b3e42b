use Rattle.std.proofs.Common.{length}
use Rattle.hol_clausify.proofs.sources.+put_paired.Given as goal

abbrev pub decreases-put_paired : goal.decreases-put_paired
decreases-put_paired l = length l.clauses.now
