use Rattle.std.proofs.Common.{◌∙◌, sym, arith}
use Rattle.fin_model.proofs.Placing.{other_length, first_fails, first_passes}
use Rattle.fin_model.proofs.fitting.are_values_of.Goals as goal

pub returns-then-tys-values : goal.returns-then-tys-values
returns-then-tys-values c = sym (other_length c.args.model.now c.args.tys.now c.args.values.now (λ e. absurd (omega (arith, e))))

pub returns-then-not-is_value_of : goal.returns-then-not-is_value_of
returns-then-not-is_value_of c =
    sym (sym c.loop-i.invariant ∙ first_fails c.args.model.now c.args.tys.now c.args.values.now c.loop-i.i c.index-tys-i.result (omega arith) (omega arith) c.index-tys-i.is
    (sym c.is_value_of.ensures ∙ c.if-not-is_value_of.true))

pub loop-i-preserved : goal.loop-i-preserved
loop-i-preserved c =
    sym (first_passes c.args.model.now c.args.tys.now c.args.values.now c.loop-i.i c.index-tys-i.result (omega arith) (omega arith) c.index-tys-i.is
    (sym c.is_value_of.ensures ∙ c.if-not-is_value_of.false)) ∙ c.loop-i.invariant
