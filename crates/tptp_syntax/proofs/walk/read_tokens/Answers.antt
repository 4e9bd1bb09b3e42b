use Rattle.std.proofs.Common.{◌+◌, ◌∙◌, sym, subst}
use Rattle.tptp_syntax.proofs.Going.{Going, stuck, next, beyond, closes, reads, unfinished, not_top, above_of, fits_of}
use Rattle.tptp_syntax.proofs.walk.read_tokens.Goals as goal

pub returns-in-Err-Syntax : goal.returns-in-Err-Syntax
returns-in-Err-Syntax c = stuck c.args.toks.now c.tokens.at c.tokens.depth c.tokens.reader c.tokens.spot c.tokens.invariant c.tokens-test.true c.token_at-tok.result c.token_at-tok.ensures
    (rw c.in-Err-Syntax.field-0-is at c.in-Err-Syntax.ensures)

pub returns-then-goes_beyond : goal.returns-then-goes_beyond
returns-then-goes_beyond c = beyond c.args.toks.now c.tokens.at c.tokens.depth c.tokens.reader c.tokens.spot c.tokens.invariant c.tokens-test.true c.token_at-tok.result c.token_at-tok.ensures
    (record { reader = c.step.new.self; spot = c.in-Ok.next }) c.in-Ok.ensures (above_of _ _ (sym c.goes_beyond.ensures ∙ c.if-goes_beyond.true))

pub tokens-preserved : goal.tokens-preserved
tokens-preserved c =
    let fits = fits_of _ _ (sym c.goes_beyond.ensures ∙ c.if-goes_beyond.false) in
    subst (λ d. Going c.args.toks.now (c.tokens.at + 1) d c.step.new.self c.in-Ok.next) (sym c.depth_behind-depth.ensures)
    (next c.args.toks.now c.tokens.at c.tokens.depth c.tokens.reader c.tokens.spot c.tokens.invariant c.tokens-test.true c.token_at-tok.result c.token_at-tok.ensures
    (record { reader = c.step.new.self; spot = c.in-Ok.next }) c.in-Ok.ensures fits (closes c.tokens.depth c.token_at-tok.result c.tokens.invariant.low fits))

pub returns-in-Top : goal.returns-in-Top
returns-in-Top c = reads c.args.toks.now c.tokens.at c.tokens.depth c.tokens.reader c.tokens.spot c.tokens.invariant c.tokens-test.false c.in-Top.is

pub returns-in_default : goal.returns-in_default
returns-in_default c = unfinished c.args.toks.now c.tokens.at c.tokens.depth c.tokens.reader c.tokens.spot c.tokens.invariant c.tokens-test.false (not_top c.tokens.reader c.tokens.spot c.in_default.not-Top)
