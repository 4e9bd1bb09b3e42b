use Rattle.std.proofs.Common.{◌∙◌, ap, sym, true, false}
use Rattle.fol_cnf.specs.Walks.{walked}
use Rattle.fol_cnf.proofs.Lengths.{few_counted}
use Rattle.fol_cnf.proofs.fitting.has_few_clauses.Goals as goal

pub returns-then-positive : goal.returns-then-positive
returns-then-positive c = λ v p.
    ap (λ b. (walked c.args.f.now b v p).few) c.if-positive.true ∙ few_counted (walked c.args.f.now true v p) c.count-counts.result.positive (c.count-counts.ensures.0 v p) ∙ sym c.is_some.ensures

pub returns-else-positive : goal.returns-else-positive
returns-else-positive c = λ v p.
    ap (λ b. (walked c.args.f.now b v p).few) c.if-positive.false ∙ few_counted (walked c.args.f.now false v p) c.count-counts.result.negative (c.count-counts.ensures.1 v p) ∙ sym c.is_some-else-positive.ensures
