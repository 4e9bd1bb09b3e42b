use Rattle.std.proofs.Common.{◌∙◌, ◌++◌, ◌∷◌, [], ap, map}
use Rattle.lambda_lift.specs.Redexes.{redexes}
use Rattle.lambda_lift.proofs.PathsBehind.{app_paths, under_paths}
use Rattle.lambda_lift.proofs.paths.+put_redexes.Goals as goal

pub returns-in_ok-put_redexes-in-App-App-2-clause-paths : goal.returns-in_ok-put_redexes-in-App-App-2-clause-paths
returns-in_ok-put_redexes-in-App-App-2-clause-paths t c =
    let path = c.args.path.now in
    let down = c.in_ok-push-in-App-App.ensures.ok in
    let back = c.step_back.ensures path 0 (c.in_ok-put_redexes-in-App-App.ensures.back ∙ down) in
    let again = c.in_ok-push-in-App-App-2.ensures.ok ∙ ap (λ p. p ++ 1 ∷ []) back in
    app_paths path c.in-App-App.f c.in-App-App.x c.in-App-App.g c.in-App-App.y c.args.formula.now c.args.body.now c.args.out.now c.put_redexes.new.out c.put_redexes-in-App-App.new.out
    c.in-App-App.is-0 c.in-App-App.is-1
    (c.in_ok-put_redexes-in-App-App.ensures.paths ∙ (λ i. c.args.out.now ++ map (λ p. down i ++ p) (redexes (c.get.ensures i) (c.get-in-App-App.ensures i))))
    (c.in_ok-put_redexes-in-App-App-2.ensures.paths ∙ (λ i. c.put_redexes.new.out ++ map (λ p. again i ++ p) (redexes (c.get-in-App-App-2.ensures i) (c.get-in-App-App-3.ensures i))))

pub returns-in_ok-put_redexes-in-Lam-Lam-clause-paths : goal.returns-in_ok-put_redexes-in-Lam-Lam-clause-paths
returns-in_ok-put_redexes-in-Lam-Lam-clause-paths t c =
    let path = c.args.path.now in
    let down = c.in_ok-push-in-Lam-Lam.ensures.ok in
    under_paths path c.in-Lam-Lam.field-0-0 c.in-Lam-Lam.field-0-1 c.in-Lam-Lam.b c.in-Lam-Lam.d c.args.formula.now c.args.body.now c.args.out.now c.put_redexes-in-Lam-Lam.new.out
    c.in-Lam-Lam.is-0 c.in-Lam-Lam.is-1
    (c.in_ok-put_redexes-in-Lam-Lam.ensures.paths ∙ (λ i. c.args.out.now ++ map (λ p. down i ++ p) (redexes (c.get-in-Lam-Lam.ensures i) (c.get-in-Lam-Lam-2.ensures i))))
