use Rattle.std.proofs.Common.{[], ap, ◌∙◌}
use Rattle.fo_infer.specs.inner.Findings.{all_made}
use Rattle.fo_light.specs.Light.{light}
use Rattle.fo_light.proofs.lists.alone_light.Goals as goal

pub returns : goal.returns
returns c =
    (all_made c.args.p.now [] c.in_ok-found.found, c.in_ok-found.ensures.inferences, c.in_ok-made.ensures ∙ ap (λ ls. light (all_made c.args.p.now ls c.in_ok-found.found)) c.begin-none.ensures)
