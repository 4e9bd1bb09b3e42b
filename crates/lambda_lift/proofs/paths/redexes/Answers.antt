use Rattle.std.proofs.Common.{◌∙◌, ◌++◌, map}
use Rattle.lambda_lift.specs.Redexes.{redexes}
use Rattle.lambda_lift.proofs.PathsBehind.{from_root}
use Rattle.lambda_lift.proofs.paths.redexes.Goals as goal

pub returns : goal.returns
returns c =
    let paths = redexes c.args.formula.now c.args.body.now in
    c.in_ok-put_redexes.ensures.paths ∙ (λ i. c.begin-out.ensures i ++ map (λ p. c.begin-path.ensures i ++ p) paths) ∙ from_root paths
