use Rattle.std.proofs.Common.{sym, ◌∙◌}
use Rattle.proof_reader.proofs.BodyPieces as pieces
use Rattle.proof_reader.proofs.reader.goal_line.Goals as goal

pub returns-in-Err-clause-read : goal.returns-in-Err-clause-read
returns-in-Err-clause-read c = pieces.word_fails c.args.theory.now c.args.body.now c.in-Err.e c.in-Err.ensures

pub returns-in-None-clause-read : goal.returns-in-None-clause-read
returns-in-None-clause-read c = pieces.no_space c.args.theory.now c.args.body.now c.in-Ok.spaced.now c.in-Ok.ensures c.in-None.ensures

pub returns-in-None-word-clause-read : goal.returns-in-None-word-clause-read
returns-in-None-word-clause-read c = pieces.no_name c.args.theory.now c.args.body.now c.in-Ok.spaced.now c.in-Ok.ensures c.in-Some.named.now c.in-Some.ensures c.in-None-word.ensures

pub returns-in-None-goal_named-clause-read : goal.returns-in-None-goal_named-clause-read
returns-in-None-goal_named-clause-read c = pieces.unknown_goal c.args.theory.now c.args.body.now c.in-Ok.spaced.now c.in-Ok.ensures c.in-Some.named.now c.in-Some.ensures
    c.in-Some-word.name.now c.in-Some-word.end.now c.in-Some-word.ensures (sym c.in-None-goal_named.is ∙ c.goal_named.ensures)

pub returns-in-None-sign-clause-read : goal.returns-in-None-sign-clause-read
returns-in-None-sign-clause-read c = pieces.no_line_end c.args.theory.now c.args.body.now c.in-Ok.spaced.now c.in-Ok.ensures c.in-Some.named.now c.in-Some.ensures
    c.in-Some-word.name.now c.in-Some-word.end.now c.in-Some-word.ensures c.in-Some-goal_named.goal (sym c.in-Some-goal_named.is ∙ c.goal_named.ensures) c.in-None-sign.ensures

pub returns-in-Some-sign-clause-read : goal.returns-in-Some-sign-clause-read
returns-in-Some-sign-clause-read c = pieces.goal_ok c.args.theory.now c.args.body.now c.in-Ok.spaced.now c.in-Ok.ensures c.in-Some.named.now c.in-Some.ensures
    c.in-Some-word.name.now c.in-Some-word.end.now c.in-Some-word.ensures c.in-Some-goal_named.goal (sym c.in-Some-goal_named.is ∙ c.goal_named.ensures) c.in-Some-sign.rest.now c.in-Some-sign.ensures
