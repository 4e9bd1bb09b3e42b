use Rattle.std.proofs.Common.{◌∙◌, sym, subst, arith}
use Rattle.fin_model.specs.declared.around.Around.{Around}
use Rattle.fin_model.specs.inner.Around.{types_of, values_of, IsNth}
use Rattle.fin_model.proofs.Chains.{nth_under, under_is}
use Rattle.fin_model.proofs.around.+nth.Goals as goal

pub returns-else-i-eq0 : goal.returns-else-i-eq0
returns-else-i-eq0 t c =
    subst (λ (z : Around). IsNth (types_of z) (values_of z) c.args.i c.nth.result) (sym (c.in-Under.is ∙ under_is c.in-Under.a c.in-Under.value c.in-Under.rest))
    (nth_under c.in-Under.a c.in-Under.value c.in-Under.rest c.args.i c.nth.result (λ e. absurd (omega (arith, e))) c.nth.ensures)
