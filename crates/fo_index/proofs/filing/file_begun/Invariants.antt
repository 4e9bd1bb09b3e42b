use Rattle.fo_index.specs.inner.Shelved.{Grows}
use Rattle.fo_index.proofs.Shelved.{Passed}
use Rattle.fo_index.proofs.filing.file_begun.Given as goal

abbrev pub invariant-loop-length : goal.invariant-loop-length
invariant-loop-length l = record { grows : Grows l.initial.begun l.begun; passed : Passed l.begun l.front l.length l.place }
