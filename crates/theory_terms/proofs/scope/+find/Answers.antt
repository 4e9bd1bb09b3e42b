use Rattle.theory_terms.proofs.Kept.{inner_numbered}
use Rattle.theory_terms.proofs.scope.+find.Goals as goal

pub returns-in_ok-find-in-Under-clause-numbered : goal.returns-in_ok-find-in-Under-clause-numbered
returns-in_ok-find-in-Under-clause-numbered t c = λ table h.
    c.further.ensures.numbered table (c.in_ok-find-in-Under.ensures.numbered table (inner_numbered table c.args.scope.now c.in-Under.own c.in-Under.ty c.in-Under.rest c.in-Under.is h).1)
