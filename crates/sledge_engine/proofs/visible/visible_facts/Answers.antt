use Rattle.std.proofs.Common.{◌<◌, ◌∙◌, ◌+◌, ◌++◌, false, ap, drop, length, subst}
use Rattle.formula_clauses.specs.Fits.{fits}
use Rattle.slot_work.specs.Visible.{places_from}
use Rattle.sledge_engine.proofs.Fitted.{places_more}
use Rattle.sledge_engine.proofs.visible.visible_facts.Goals as goal

pub loop-i-preserved : goal.loop-i-preserved
loop-i-preserved c =
    let e = c.args.env.now in
    let i = c.loop-i.i in
    let within : i < length e.facts = subst (λ n. i < n) c.len-i-end.ensures c.loop-i-test.true in
    ap (λ out. out ++ places_from (i + 1) (λ t. fits e.sig t false) (drop (i + 1) e.facts)) c.in_ok-push_if.ensures
    ∙ places_more (λ t. fits e.sig t false) e.facts i e.goal c.loop-i.out c.in_ok-small.small within c.in_ok-small.ensures ∙ c.loop-i.invariant
