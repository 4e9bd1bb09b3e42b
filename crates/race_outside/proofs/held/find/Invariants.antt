use Rattle.std.proofs.Common.{◌≡◌, drop}
use Rattle.race_outside.specs.Shelves.{files_of}
use Rattle.race_outside.proofs.held.find.Given as goal

abbrev pub invariant-loop-file : goal.invariant-loop-file
invariant-loop-file l = files_of (drop l.file-index l.file-items) l.name ≡ files_of l.file-items l.name
