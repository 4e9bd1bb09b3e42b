use Rattle.std.proofs.Common.{◌≡◌}
use Rattle.tstp_print.specs.Names.{free_numbers}
use Rattle.tstp_print.proofs.vocabulary.new_numbers.Given as goal

abbrev pub invariant-loop-k : goal.invariant-loop-k
invariant-loop-k l = l.out ≡ free_numbers l.fn.names l.k
