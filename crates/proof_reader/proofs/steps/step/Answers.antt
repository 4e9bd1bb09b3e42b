use Rattle.proof_reader.proofs.StepPieces as pieces
use Rattle.proof_reader.proofs.steps.step.Goals as goal

pub returns-in-None : goal.returns-in-None
returns-in-None c = pieces.no_space c.args.names.now c.args.text.now c.in-None.ensures

pub returns-in-Err : goal.returns-in-Err
returns-in-Err c = pieces.word_fails c.args.names.now c.args.text.now c.in-Some.named.now c.in-Some.ensures c.in-Err.e c.in-Err.ensures

pub returns-in-Err-made : goal.returns-in-Err-made
returns-in-Err-made c = pieces.args_fail c.args.names.now c.args.text.now c.in-Some.named.now c.in-Some.ensures c.in-Ok.rule c.in-Ok.wanted.now c.in-Ok.ensures c.in-Err-made.e c.in-Err-made.ensures

pub returns-in-None-sign : goal.returns-in-None-sign
returns-in-None-sign c = pieces.no_line_end c.args.names.now c.args.text.now c.in-Some.named.now c.in-Some.ensures c.in-Ok.rule c.in-Ok.wanted.now c.in-Ok.ensures
    c.in-Ok-made.step c.in-Ok-made.end.now c.in-Ok-made.ensures c.in-None-sign.ensures

pub returns-in-Some-sign : goal.returns-in-Some-sign
returns-in-Some-sign c = pieces.step_ok c.args.names.now c.args.text.now c.in-Some.named.now c.in-Some.ensures c.in-Ok.rule c.in-Ok.wanted.now c.in-Ok.ensures
    c.in-Ok-made.step c.in-Ok-made.end.now c.in-Ok-made.ensures c.in-Some-sign.rest.now c.in-Some-sign.ensures
