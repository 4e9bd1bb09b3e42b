use Rattle.std.proofs.Common.{◌≡◌, map, take}
use Rattle.goal_search.specs.Encoded.{encoded_literal}
use Rattle.goal_search.proofs.encoding.encode_clause.Given as goal

abbrev pub invariant-loop-literal : goal.invariant-loop-literal
invariant-loop-literal l = l.out ≡ map (encoded_literal l.signs.signs) (take l.literal-index l.literals)
