use Rattle.std.proofs.Common.{length}
use Rattle.theory_syntax.proofs.ItemPieces.{ItemsSoFar}
use Rattle.theory_syntax.proofs.text_reader.all.Given as goal

abbrev pub invariant-items : goal.invariant-items
invariant-items l = ItemsSoFar l.limit l.fn.toks l.out l.rest

abbrev pub decreases-items : goal.decreases-items
decreases-items l = length l.rest
