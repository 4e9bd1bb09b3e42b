use Rattle.std.proofs.Common.{arith, sym, ◌∙◌, ap, length, length-drop}
use Rattle.tstp_read.specs.Lines.{goes_on_with}
use Rattle.tstp_read.proofs.Cutting as cutting
use Rattle.tstp_read.proofs.lines.find_line.Goals as goal

pub returns-then-is_said-clause-value : goal.returns-then-is_said-clause-value
returns-then-is_said-clause-value c =
    cutting.found_here c.args.words.now c.args.text.now c.args.from c.lines.at c.lines.invariant.2 c.lines-test.true
    (ap (goes_on_with c.args.words.now) (sym c.rest_at-rest.ensures) ∙ sym c.is_said.ensures ∙ c.if-is_said.true)

pub returns-then-len-rest-clause-value : goal.returns-then-len-rest-clause-value
returns-then-len-rest-clause-value c =
    cutting.nowhere c.args.words.now c.args.text.now c.args.from c.lines.at c.lines.invariant.2 c.lines-test.true
    (ap (goes_on_with c.args.words.now) (sym c.rest_at-rest.ensures) ∙ sym c.is_said.ensures ∙ c.if-is_said.false)
    c.line_len-len.result (c.line_len-len.ensures.value ∙ ap cutting.inside_len c.rest_at-rest.ensures) (c.if-len-rest.true ∙ ap length c.rest_at-rest.ensures)

pub lines-preserved : goal.lines-preserved
lines-preserved c = (
  omega arith,
  omega (arith, ap length c.rest_at-rest.ensures, length-drop c.lines.at c.args.text.now, c.line_len-len.ensures.within),
  cutting.passed c.args.words.now c.args.text.now c.args.from c.lines.at c.lines.invariant.2 c.lines-test.true
      (ap (goes_on_with c.args.words.now) (sym c.rest_at-rest.ensures) ∙ sym c.is_said.ensures ∙ c.if-is_said.false)
      c.line_len-len.result (c.line_len-len.ensures.value ∙ ap cutting.inside_len c.rest_at-rest.ensures),
)
