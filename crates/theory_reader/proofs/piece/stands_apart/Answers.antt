use Rattle.theory_reader.specs.inner.Pieces as pieces
use Rattle.theory_reader.proofs.piece.stands_apart.Goals as goal

pub returns-then-len-to : goal.returns-then-len-to
returns-then-len-to c = λ t. pieces.last c.if-len-to.true

pub returns-else-len-to : goal.returns-else-len-to
returns-else-len-to c = λ t. pieces.closed (c.is_closed.ensures t)
