use Rattle.std.proofs.Common.{◌≡◌, ◌++◌, take}
use Rattle.theory_reader.specs.Sound.{const_names}
use Rattle.proof_reader.proofs.lookup.add_consts.Given as goal

abbrev pub invariant-loop-decl : goal.invariant-loop-decl
invariant-loop-decl l = l.names ≡ l.fn.names ++ const_names (take l.decl-index l.consts)
