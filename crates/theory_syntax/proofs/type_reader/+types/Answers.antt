use Rattle.theory_syntax.proofs.TypePieces as pieces
use Rattle.theory_syntax.proofs.type_reader.+types.Goals as goal

pub single-returns-in-Word : goal.single-returns-in-Word
single-returns-in-Word t c = pieces.name c.args.limit c.args.level c.args.toks.now _ _ c.requires c.in-Word.ensures

pub single-returns-in-Bool : goal.single-returns-in-Bool
single-returns-in-Bool t c = pieces.of_truth c.args.limit c.args.level c.args.toks.now _ c.requires c.in-Bool.ensures

pub single-returns-in-Err : goal.single-returns-in-Err
single-returns-in-Err t c = pieces.open_fails c.args.limit c.args.level c.args.toks.now _ _ _ c.requires c.in-Open.ensures c.in-Err.ensures

pub single-returns-in-None : goal.single-returns-in-None
single-returns-in-None t c = pieces.unclosed c.args.limit c.args.level c.args.toks.now _ _ _ _ c.requires c.in-Open.ensures c.in-Ok.ensures c.in-None.ensures

pub single-returns-in-Some : goal.single-returns-in-Some
single-returns-in-Some t c = pieces.closed c.args.limit c.args.level c.args.toks.now _ _ _ _ _ c.requires c.in-Open.ensures c.in-Ok.ensures c.in-Some.ensures

pub single-returns-in-Other : goal.single-returns-in-Other
single-returns-in-Other t c = pieces.none c.args.limit c.args.level c.args.toks.now c.in-Other.ensures

pub whole-returns-in-Err : goal.whole-returns-in-Err
whole-returns-in-Err t c = pieces.single_fails c.args.limit c.args.level c.args.toks.now _ c.in-Err.ensures

pub whole-returns-in-None : goal.whole-returns-in-None
whole-returns-in-None t c = pieces.alone c.args.limit c.args.level c.args.toks.now _ _ c.in-Ok.ensures c.in-None.ensures

pub whole-returns-in-Err-deeper : goal.whole-returns-in-Err-deeper
whole-returns-in-Err-deeper t c = pieces.right_fails c.args.limit c.args.level c.args.toks.now _ _ _ _ c.in-Ok.ensures c.in-Some.ensures c.in-Err-deeper.ensures

pub whole-returns-in-Ok-arrow : goal.whole-returns-in-Ok-arrow
whole-returns-in-Ok-arrow t c = rw c.in-Ok-arrow.ensures (pieces.both c.args.limit c.args.level c.args.toks.now _ _ _ _ _ c.in-Ok.ensures c.in-Some.ensures c.in-Ok-deeper.ensures)
