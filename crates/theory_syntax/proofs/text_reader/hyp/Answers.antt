use Rattle.theory_syntax.proofs.HypPieces as pieces
use Rattle.theory_syntax.proofs.text_reader.hyp.Goals as goal

pub returns-in-None : goal.returns-in-None
returns-in-None c = pieces.not_there c.args.limit c.args.toks.now c.requires c.in-None.ensures

pub returns-in-None-word : goal.returns-in-None-word
returns-in-None-word c = pieces.no_name c.args.limit c.args.toks.now _ c.in-Some.ensures c.in-None-word.ensures

pub returns-in-None-behind : goal.returns-in-None-behind
returns-in-None-behind c = pieces.no_colon c.args.limit c.args.toks.now _ c.in-Some.ensures _ _ c.in-Some-word.ensures c.in-None-behind.ensures

pub returns-in-Err : goal.returns-in-Err
returns-in-Err c = pieces.term_fails c.args.limit c.args.toks.now _ c.in-Some.ensures _ _ c.in-Some-word.ensures _ c.in-Some-behind.ensures _ c.in-Err.ensures

pub returns-in-Ok : goal.returns-in-Ok
returns-in-Ok c = pieces.term_ok c.args.limit c.args.toks.now _ c.in-Some.ensures _ _ c.in-Some-word.ensures _ c.in-Some-behind.ensures _ _ c.in-Ok.ensures
