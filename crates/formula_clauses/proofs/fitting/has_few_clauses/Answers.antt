use Rattle.std.proofs.Common.{◌∙◌, ap, sym, true, false}
use Rattle.formula_clauses.specs.Walks.{walked}
use Rattle.formula_clauses.proofs.Lengths.{few_counted}
use Rattle.formula_clauses.proofs.fitting.has_few_clauses.Goals as goal

pub returns-then-positive : goal.returns-then-positive
returns-then-positive c = λ e p.
    ap (λ b. (walked c.args.f.now b e p).few) c.if-positive.true ∙ few_counted (walked c.args.f.now true e p) c.count-counts.result.positive (c.count-counts.ensures.0 e p) ∙ sym c.is_some.ensures

pub returns-else-positive : goal.returns-else-positive
returns-else-positive c = λ e p.
    ap (λ b. (walked c.args.f.now b e p).few) c.if-positive.false ∙ few_counted (walked c.args.f.now false e p) c.count-counts.result.negative (c.count-counts.ensures.1 e p) ∙ sym c.is_some-else-positive.ensures
