use Rattle.theory_syntax.proofs.HypPieces as pieces
use Rattle.theory_syntax.proofs.text_reader.hyps.Goals as goal

pub more-init : goal.more-init
more-init c = rw c.begin-out.ensures (pieces.begins c.args.limit c.args.toks.now c.requires)

pub returns-in-Err : goal.returns-in-Err
returns-in-Err c = pieces.hyp_fails c.args.limit c.args.toks.now _ _ _ c.more.invariant c.in-Err.ensures

pub more-preserved : goal.more-preserved
more-preserved c = rw c.in-Ok-push.ensures.ok (pieces.goes_on c.args.limit c.args.toks.now _ _ _ _ c.more.invariant c.in-Ok.ensures)

pub returns : goal.returns
returns c = (c.more.invariant, c.more-test.ensures)
