use Rattle.tstp_read.proofs.Cutting as cutting
use Rattle.tstp_read.proofs.tokens.tokens.Goals as goal

pub pieces-preserved-in-Gap : goal.pieces-preserved-in-Gap
pieces-preserved-in-Gap c = cutting.cut_gap c.args.text.now c.pieces.at c.pieces.found c.pieces.invariant c.pieces-test.true _ c.rest_at.ensures c.in-Gap.len c.in-Gap.ensures.value c.in-Gap.ensures.within

pub pieces-preserved : goal.pieces-preserved
pieces-preserved c = rw c.in-Ok.ensures.ok
    (cutting.cut_token c.args.text.now c.pieces.at c.pieces.found c.pieces.invariant c.pieces-test.true _ c.rest_at.ensures c.in-Token.kind c.in-Token.len c.in-Token.ensures.value c.in-Token.ensures.within)

pub returns-in-Nothing-clause-refused : goal.returns-in-Nothing-clause-refused
returns-in-Nothing-clause-refused c = cutting.cut_nothing c.args.text.now c.pieces.at c.pieces.found c.pieces.invariant c.pieces-test.true _ c.rest_at.ensures c.in-Nothing.ensures.value

pub returns-clause-cut : goal.returns-clause-cut
returns-clause-cut c = cutting.cut_done c.args.text.now c.pieces.at c.pieces.found c.pieces.invariant c.pieces-test.false
