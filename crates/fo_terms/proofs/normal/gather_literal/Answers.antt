use Rattle.fo_terms.proofs.Gathering.{gather_holds, gather_sides}
use Rattle.fo_terms.proofs.normal.gather_literal.Goals as goal

pub returns-in_ok-gather-in-Holds : goal.returns-in_ok-gather-in-Holds
returns-in_ok-gather-in-Holds c = gather_holds c.args.seen.now c.gather.new.seen c.args.l.now c.in-Holds.t c.in-Holds.is c.in_ok-gather-in-Holds.ensures

pub returns-in_ok-gather-in-Eq-2 : goal.returns-in_ok-gather-in-Eq-2
returns-in_ok-gather-in-Eq-2 c =
    gather_sides c.args.seen.now c.gather-in-Eq.new.seen c.gather-in-Eq-2.new.seen c.args.l.now c.in-Eq.s c.in-Eq.t c.in-Eq.is c.in_ok-gather-in-Eq.ensures c.in_ok-gather-in-Eq-2.ensures
