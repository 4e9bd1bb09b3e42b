use Rattle.std.proofs.Common.{arith, ◌≡◌, length}
use Rattle.theory_syntax.proofs.ItemPieces as pieces
use Rattle.theory_syntax.proofs.text_reader.all.Goals as goal

pub returns-in-Err : goal.returns-in-Err
returns-in-Err c = pieces.item_fails c.args.limit c.args.toks.now _ _ _ c.items.invariant c.in-Err.ensures

pub items-preserved : goal.items-preserved
items-preserved c = rw c.in-Ok-push.ensures.ok (pieces.goes_on c.args.limit c.args.toks.now _ _ _ _ c.items.invariant c.in-Ok.ensures)

pub returns : goal.returns
returns c = let done : length c.items.rest.now ≡ 0 = omega arith in pieces.text_ends c.args.limit c.args.toks.now _ _ c.items.invariant done
