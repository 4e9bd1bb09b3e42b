use Rattle.std.proofs.Common.{◌++◌, ◌∙◌, ap, sym}
use Rattle.std.proofs.lemmas.Result.{on_ok_weaker}
use Rattle.proof_text.proofs.FactNames.{name_before, name_behind}
use Rattle.proof_text.proofs.names.put_fact_name.Goals as goal

pub returns-then-place-before : goal.returns-then-place-before
returns-then-place-before c =
    on_ok_weaker c.put_name_at.result
    (λ h. h ∙ ap (λ name. c.args.out.now ++ name) (sym (name_before c.args.names.now.facts.now c.args.names.now.assumes.now c.args.number c.if-place-before.true)))
    c.put_name_at.ensures

pub returns-else-place-before : goal.returns-else-place-before
returns-else-place-before c =
    on_ok_weaker c.put_name_at-else-place-before.result
    (λ h. h ∙ ap (λ name. c.args.out.now ++ name) (sym (name_behind c.args.names.now.facts.now c.args.names.now.assumes.now c.args.number c.if-place-before.false)))
    c.put_name_at-else-place-before.ensures
