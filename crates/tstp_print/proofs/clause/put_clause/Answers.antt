use Rattle.std.specs.Prelude.{codes}
use Rattle.tstp_print.specs.Terms.{literal_text}
use Rattle.tstp_print.proofs.Separating.{one_more}
use Rattle.tstp_print.proofs.clause.put_clause.Goals as goal

pub loop-i-preserved : goal.loop-i-preserved
loop-i-preserved c =
    one_more (codes " | ") (literal_text c.args.words.now.names.now) c.args.literals.now c.loop-i.i c.index-literals-i.result c.push.new.self c.loop-i.out c.put_between.new.out c.put_literal.new.out
    c.loop-i-test.true c.index-literals-i.is c.loop-i.invariant c.in_ok-put_between.ensures c.in_ok-put_literal.ensures
