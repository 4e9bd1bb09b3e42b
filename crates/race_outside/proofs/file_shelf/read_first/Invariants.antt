use Rattle.std.proofs.Common.{◌≤◌, length}
use Rattle.race_outside.proofs.file_shelf.read_first.Given as goal

abbrev pub invariant-chunks : goal.invariant-chunks
invariant-chunks g l = length l.into ≤ l.most
