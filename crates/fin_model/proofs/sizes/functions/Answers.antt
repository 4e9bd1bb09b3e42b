use Rattle.std.proofs.Common.{sym, ◌∙◌, arith}
use Rattle.fin_model.proofs.Keeping.{into_few, into_many, from_some, from_many}
use Rattle.fin_model.proofs.sizes.functions.Goals as goal

pub returns-else-a-eq0 : goal.returns-else-a-eq0
returns-else-a-eq0 c = λ x y hx hy. from_some c.in-Some-None.a x y (sym c.in-Some-None.is-0 ∙ hx) (sym c.in-Some-None.is-1 ∙ hy) (omega arith)

pub returns-then-b-le1 : goal.returns-then-b-le1
returns-then-b-le1 c = λ x y hx hy. into_few c.in-None-Some.b x y (sym c.in-None-Some.is-0 ∙ hx) (sym c.in-None-Some.is-1 ∙ hy) (omega arith)

pub returns-else-b-le1 : goal.returns-else-b-le1
returns-else-b-le1 c = λ x y hx hy. into_many c.in-None-Some.b x y (sym c.in-None-Some.is-0 ∙ hx) (sym c.in-None-Some.is-1 ∙ hy) (omega arith)

pub returns-in-None-None : goal.returns-in-None-None
returns-in-None-None c = λ x y hx hy. from_many x y (sym c.in-None-None.is-0 ∙ hx) (sym c.in-None-None.is-1 ∙ hy)
