use Rattle.std.proofs.Common.{[]}
use Rattle.fo_terms.specs.Normal.{literal_variables}
use Rattle.fo_terms.proofs.Gathering.{gather_more, variables_end}
use Rattle.fo_terms.proofs.normal.variables.Goals as goal

pub loop-l-preserved : goal.loop-l-preserved
loop-l-preserved c =
    gather_more (λ r. literal_variables r.now) [] c.loop-l.seen c.gather_literal.new.seen c.args.literals.now c.loop-l.l-index c.l-item.result c.loop-l-test.true c.l-item.is c.loop-l.invariant c.in_ok-gather_literal.ensures

pub returns : goal.returns
returns c = variables_end c.loop-l.seen c.args.literals.now c.loop-l.l-index c.loop-l-test.false c.loop-l.invariant
