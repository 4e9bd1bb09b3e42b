use Rattle.hol_terms.specs.declared.env.Env.{Env}
use Rattle.theory_reader.specs.Seen.{IsEnvOf}
use Rattle.sledge_engine.specs.Check.{StepsReply}
use Rattle.sledge_engine.proofs.Replying.{if_ok_map}
use Rattle.sledge_engine.proofs.check.answer_file.Goals as goal

pub returns : goal.returns
returns c =
    let t = c.args.theory.now in
    let file = c.args.file in
    let text = c.answer_steps.new.text in
    if_ok_map c.answer_steps.result (λ status. StepsReply t file.goal file.steps c.in_ok-env.env status text)
    (λ status. (env : Env) × IsEnvOf t file.goal env × StepsReply t file.goal file.steps env status text)
    (λ status h. (c.in_ok-env.env, c.in_ok-env.ensures, h)) c.answer_steps.ensures
