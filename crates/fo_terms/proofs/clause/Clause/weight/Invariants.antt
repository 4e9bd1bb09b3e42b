use Rattle.std.proofs.Common.{◌≡◌, take, map, sum}
use Rattle.fo_terms.specs.Weight.{literal_size, capped}
use Rattle.fo_terms.proofs.clause.Clause.weight.Given as goal

abbrev pub invariant-loop-l : goal.invariant-loop-l
invariant-loop-l l = l.total ≡ capped (sum (map literal_size (take l.l-index l.self.literals)))
