use Rattle.fo_infer.proofs.Rising.{above_sides}
use Rattle.fo_infer.proofs.renaming.above_literal.Goals as goal

pub returns-in_ok-n-in-Eq : goal.returns-in_ok-n-in-Eq
returns-in_ok-n-in-Eq c =
    above_sides c.args.floor c.in_ok-m-in-Eq.m c.in_ok-n-in-Eq.n c.args.l.now c.in-Eq.s c.in-Eq.t c.in-Eq.is c.in_ok-m-in-Eq.ensures c.in_ok-n-in-Eq.ensures
