use Rattle.tagged_terms.specs.Readings.{signs_of}
use Rattle.clause_instances.proofs.Gathered.{gather_sides}
use Rattle.clause_instances.proofs.gathering.gather_literal.Goals as goal

pub returns-in_ok-gather-in-Eq-2 : goal.returns-in_ok-gather-in-Eq-2
returns-in_ok-gather-in-Eq-2 c =
    gather_sides (signs_of c.args.symbols.now) c.args.seen.now c.gather-in-Eq.new.seen c.gather-in-Eq-2.new.seen c.args.l.now c.in-Eq.s c.in-Eq.t c.in-Eq.is c.in_ok-gather-in-Eq.ensures c.in_ok-gather-in-Eq-2.ensures
