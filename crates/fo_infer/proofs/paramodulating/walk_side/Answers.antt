use Rattle.std.proofs.Common.{◌≡◌, [], ◌∷◌, ◌++◌, ap, subst, ◌∙◌}
use Rattle.fo_infer.specs.Paths.{paths_of}
use Rattle.fo_infer.specs.Inferences.{PairGives}
use Rattle.fo_infer.specs.inner.Adding.{Adds}
use Rattle.fo_infer.specs.inner.Places.{position_of, rules_behind}
use Rattle.fo_infer.specs.inner.Findings.{all_made}
use Rattle.fo_infer.proofs.paramodulating.walk_side.Goals as goal

pub returns : goal.returns
returns c =
    let from = c.args.from.now in
    let here : c.push.new.self ≡ c.args.side ∷ [] = c.in_ok-push.ensures.ok ∙ ap (λ l. l ++ c.args.side ∷ []) c.begin-path.ensures in
    subst (λ l. Adds (PairGives (position_of from.plain) from.p.now from.q.now) (rules_behind from.i from.swapped c.args.j l (paths_of c.args.t.now)) (all_made from.p.now from.apart.now c.args.out.now) (all_made from.p.now from.apart.now c.walk.new.out)) here c.in_ok-walk.ensures.adds
