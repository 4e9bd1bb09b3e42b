use Rattle.theory_syntax.proofs.TextPieces as pieces
use Rattle.theory_syntax.proofs.text_reader.fact_item.Goals as goal

pub returns-in-Err : goal.returns-in-Err
returns-in-Err c = pieces.fact_fails c.args.limit c.args.toks.now c.args.x _ c.requires _ c.in-Err.ensures

pub returns-in-None : goal.returns-in-None
returns-in-None c = pieces.fact_no_semi c.args.limit c.args.toks.now c.args.x _ c.requires _ _ c.in-Ok.ensures c.in-None.ensures

pub returns-in-Some : goal.returns-in-Some
returns-in-Some c = pieces.fact_ok c.args.limit c.args.toks.now c.args.x _ c.requires _ _ c.in-Ok.ensures _ c.in-Some.ensures
