use Rattle.std.proofs.Common.{◌≡◌, take}
use Rattle.theory_reader.specs.Toks.{toks_of}
use Rattle.theory_reader.proofs.toks.toks.Given as goal

abbrev pub invariant-loop-token : goal.invariant-loop-token
invariant-loop-token l = l.out ≡ toks_of l.text (take l.token-index l.cut)
