use Rattle.std.proofs.Common.{◌∙◌, ap, sym, Some, None, arith}
use Rattle.std.specs.Prelude.{if◌then◌else◌}
use Rattle.tstp_read.proofs.Reading as reading
use Rattle.tstp_read.proofs.statements.read.Goals as goal

pub returns-in-Ok-false-clause-answer : goal.returns-in-Ok-false-clause-answer
returns-in-Ok-false-clause-answer c = reading.stops c.args.text.now c.args.tokens.now c.loop-token.token-index c.loop-token.reader c.loop-token.invariant _ c.loop-token-test.true
    (c.in-Ok-false.ensures ∙ ap (λ b. if b then Some c.take_token.new.reader else None) c.in-Ok-false.field-0-test)

pub loop-token-preserved : goal.loop-token-preserved
loop-token-preserved c = reading.goes_on c.args.text.now c.args.tokens.now c.loop-token.token-index c.loop-token.reader c.loop-token.invariant _ _ c.loop-token-test.true
    (c.in-Ok-true.ensures ∙ ap (λ b. if b then Some c.take_token.new.reader else None) c.in-Ok-true.field-0-test)

pub returns-else-stands_between-clause-answer : goal.returns-else-stands_between-clause-answer
returns-else-stands_between-clause-answer c = reading.stops_at_end c.args.text.now c.args.tokens.now c.loop-token.token-index c.loop-token.reader c.loop-token.invariant c.loop-token-test.false
    (reading.not_between c.loop-token.reader.stage (sym c.stands_between.ensures ∙ c.if-stands_between.false))

pub returns-then-stands_between-clause-answer : goal.returns-then-stands_between-clause-answer
returns-then-stands_between-clause-answer c = reading.finishes c.args.text.now c.args.tokens.now c.loop-token.token-index c.loop-token.reader c.loop-token.invariant c.loop-token-test.false
    (reading.between c.loop-token.reader.stage (sym c.stands_between.ensures ∙ c.if-stands_between.true))
