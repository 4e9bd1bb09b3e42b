use Rattle.std.proofs.Common.{length}
use Rattle.theory_syntax.specs.inner.Parts.{GotHyps}
use Rattle.theory_syntax.proofs.text_reader.hyps.Given as goal

abbrev pub invariant-more : goal.invariant-more
invariant-more l = GotHyps l.limit l.fn.toks l.out l.rest

abbrev pub decreases-more : goal.decreases-more
decreases-more l = length l.rest
