use Rattle.std.proofs.Common.{[]}
use Rattle.tagged_terms.specs.Readings.{signs_of}
use Rattle.tagged_lines.specs.Tags.{literal_variables}
use Rattle.clause_instances.proofs.Gathered.{gather_more}
use Rattle.clause_instances.proofs.gathering.variables.Goals as goal

pub loop-l-preserved : goal.loop-l-preserved
loop-l-preserved c =
    gather_more (literal_variables (signs_of c.args.symbols.now)) [] c.loop-l.seen c.gather_literal.new.seen c.args.literals.now c.loop-l.l-index c.l-item.result c.loop-l-test.true c.l-item.is c.loop-l.invariant c.in_ok-gather_literal.ensures
