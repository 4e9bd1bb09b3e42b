use Rattle.theory_syntax.proofs.TextPieces as pieces
use Rattle.theory_syntax.proofs.text_reader.goal_item.Goals as goal

pub returns-in-Err : goal.returns-in-Err
returns-in-Err c = pieces.goal_fails c.args.limit c.args.toks.now c.args.x _ c.requires _ c.in-Err.ensures

pub hyps-requires : goal.hyps-requires
hyps-requires c = c.in-Ok.ensures.ends

pub returns-in-Err-hyps : goal.returns-in-Err-hyps
returns-in-Err-hyps c = pieces.hyps_fail c.args.limit c.args.toks.now c.args.x _ c.requires _ _ c.in-Ok.ensures _ c.in-Err-hyps.ensures

pub returns-in-None : goal.returns-in-None
returns-in-None c = pieces.goal_no_semi c.args.limit c.args.toks.now c.args.x _ c.requires _ _ c.in-Ok.ensures _ _ c.in-Ok-hyps.ensures.0 c.in-Ok-hyps.ensures.1 c.in-None.ensures

pub returns-in-Some : goal.returns-in-Some
returns-in-Some c = pieces.goal_ok c.args.limit c.args.toks.now c.args.x _ c.requires _ _ c.in-Ok.ensures _ _ c.in-Ok-hyps.ensures.0 _ c.in-Some.ensures
