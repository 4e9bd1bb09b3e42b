use Rattle.std.proofs.Common.{◌≡◌, ◌+◌, ◌-◌, ◌/◌, ◌∙◌, sym, ap, arith}
use Rattle.model_truth.specs.Numbers.{digit}
use Rattle.fin_model.proofs.Placing.{digit_none, digit_next}
use Rattle.fin_model.proofs.digits.digit.Goals as goal

pub returns-then-rest-eq0 : goal.returns-then-rest-eq0
returns-then-rest-eq0 c =
    sym (digit_none c.args.base (c.args.place - c.loop-i._i) c.requires) ∙ ap (λ z. digit c.args.base z (c.args.place - c.loop-i._i)) (sym c.if-rest-eq0.true) ∙ c.loop-i.invariant

pub loop-i-preserved : goal.loop-i-preserved
loop-i-preserved c =
    let left : c.args.place - c.loop-i._i - 1 ≡ c.args.place - (c.loop-i._i + 1) = omega arith in
    ap (digit c.args.base (c.loop-i.rest / c.args.base)) (sym left) ∙ sym (digit_next c.args.base c.loop-i.rest (c.args.place - c.loop-i._i) (omega arith)) ∙ c.loop-i.invariant
