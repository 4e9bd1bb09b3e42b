use Rattle.std.proofs.Common.{◌≡◌, take, map}
use Rattle.tagged_terms.specs.Readings.{signs_of}
use Rattle.tagged_terms.specs.Terms.{term_at}
use Rattle.tagged_terms.proofs.decoding.+decoding.Given as goal

abbrev pub invariant-decode_all-loop-t : goal.invariant-decode_all-loop-t
invariant-decode_all-loop-t l = l.out ≡ map (λ t. term_at (signs_of l.symbols) t l.s) (take l.t-index l.terms)
