use Rattle.std.proofs.Common.{◌≡◌, Err, IfOk, subst}
use Rattle.hol_terms.specs.declared.env.Env.{Env}
use Rattle.theory_reader.specs.Seen.{IsEnvOf}
use Rattle.proof_syntax.specs.Reading.{IsReadAs}
use Rattle.sledge_engine.specs.Check.{BytesReply, StepsReply, faulty, steps}
use Rattle.sledge_engine.specs.Texts.{byte_text}
use Rattle.sledge_engine.proofs.Replying.{if_ok_map, reply_with}
use Rattle.sledge_engine.proofs.check.answer_bytes.Goals as goal

pub returns-in-Ok : goal.returns-in-Ok
returns-in-Ok c =
    let t = c.args.theory.now in
    let bytes = c.args.bytes.now in
    let file = c.in-Ok.file in
    let text = c.answer_file.new.text in
    if_ok_map c.answer_file.result (λ status. (env : Env) × IsEnvOf t file.goal env × StepsReply t file.goal file.steps env status text)
    (λ status. BytesReply t bytes status text) (λ status h. steps file h.0 status text c.in-Ok.ensures.read h.1 h.2) c.answer_file.ensures

pub returns-in-Err-At : goal.returns-in-Err-At
returns-in-Err-At c =
    let t = c.args.theory.now in
    let bytes = c.args.bytes.now in
    let at = c.in-Err-At.at in
    let fault = subst (λ e. IsReadAs t bytes (Err e)) c.in-Err-At.field-0-is c.in-Err-At.ensures.read in
    reply_with (BytesReply t bytes) c.put_refused.result 7 (byte_text at) c.put_refused.new.text (faulty at fault) (subst (λ n. IfOk c.put_refused.result (λ status. (status ≡ 7) × (c.put_refused.new.text ≡ byte_text n))) c.in-Err-At.at-is c.put_refused.ensures)
