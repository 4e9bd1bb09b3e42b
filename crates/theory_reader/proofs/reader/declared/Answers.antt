use Rattle.std.proofs.Common.{◌∙◌, ap, sym}
use Rattle.theory_reader.specs.Declaring.{declared_all}
use Rattle.theory_reader.specs.inner.Stages.{so_far}
use Rattle.theory_reader.proofs.Sound.{theory_sound}
use Rattle.theory_reader.proofs.reader.declared.Goals as goal

pub whole-requires : goal.whole-requires
whole-requires c =
    theory_sound c.args.text.now c.args.items.now (so_far c.declare.new.parts) c.requires
    (ap (λ d. declared_all c.args.text.now d c.args.items.now) (sym c.begin-parts.ensures.nothing) ∙ c.in-Ok.ensures.0)
