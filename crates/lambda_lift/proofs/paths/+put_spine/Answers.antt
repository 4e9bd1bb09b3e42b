use Rattle.std.proofs.Common.{◌∙◌, ◌++◌, ◌∷◌, [], ap, map}
use Rattle.std.proofs.lemmas.Result.{IfOk-weaker}
use Rattle.lambda_lift.specs.Redexes.{spine}
use Rattle.lambda_lift.proofs.PathsBehind.{spine_paths}
use Rattle.lambda_lift.proofs.paths.+put_spine.Goals as goal

pub returns-in_ok-copy-in-App-clause-paths : goal.returns-in_ok-copy-in-App-clause-paths
returns-in_ok-copy-in-App-clause-paths t c =
    let path = c.args.path.now in
    let down = c.in_ok-push-in-App.ensures.ok in
    let back = c.step_back.ensures path 0 (c.in_ok-put_spine-in-App.ensures.back ∙ down) in
    IfOk-weaker c.push-in-App.result _ _
    (λ u e. spine_paths path c.in-App.f c.in-App.field-1 c.args.t.now c.args.out.now c.put_spine.new.out c.push-in-App.new.self c.in-App.is
    (c.in_ok-put_spine-in-App.ensures.paths ∙ (λ i. c.args.out.now ++ map (λ p. down i ++ p) (spine (c.get.ensures i))))
    (e ∙ ap (λ p. c.put_spine.new.out ++ p ∷ []) (c.in_ok-copy-in-App.ensures ∙ back)))
    c.push-in-App.ensures.ok
