use Rattle.std.proofs.Common.{◌≡◌, ◌∙◌, Ok, ap, decimal, arith}
use Rattle.std.proofs.lemmas.Fmt.{parse-decimal}
use Rattle.sledge_words.proofs.Bools.{true_or_false}
use Rattle.sledge_words.proofs.numbers.number.Goals as goal

pub returns-then-is_written-clause-only : goal.returns-then-is_written-clause-only
returns-then-is_written-clause-only c =
    λ n lt is.
    let e : c.parse.result ≡ Ok n = parse-decimal 32 n c.args.word.now c.parse.result lt (omega (arith, lt)) is c.parse.ensures.value.0 in
    cc (e, c.in-Ok.is)

pub returns-else-is_written-clause-only : goal.returns-else-is_written-clause-only
returns-else-is_written-clause-only c =
    λ n lt is.
    let e : c.parse.result ≡ Ok n = parse-decimal 32 n c.args.word.now c.parse.result lt (omega (arith, lt)) is c.parse.ensures.value.0 in
    let same : n ≡ c.in-Ok.n = cc (e, c.in-Ok.is) in
    absurd (true_or_false c.is_written.result (c.is_written.ensures.1 (is ∙ ap decimal same)) c.if-is_written.false)

pub returns-in-Err-clause-only : goal.returns-in-Err-clause-only
returns-in-Err-clause-only c =
    λ n lt is.
    let e : c.parse.result ≡ Ok n = parse-decimal 32 n c.args.word.now c.parse.result lt (omega (arith, lt)) is c.parse.ensures.value.0 in
    absurd (cc (e, c.in-Err.is))
