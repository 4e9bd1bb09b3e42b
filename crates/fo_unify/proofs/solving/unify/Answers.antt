use Rattle.std.proofs.Common.{[], ◌∷◌}
use Rattle.fo_unify.proofs.solving.unify.Goals as goal

pub returns-clause-answer : goal.returns-clause-answer
returns-clause-answer c = c.in_ok-unifier.ensures.answer ((c.args.s.now, c.args.t.now) ∷ []) c.in_ok-met.ensures

pub returns-clause-rules : goal.returns-clause-rules
returns-clause-rules c = c.in_ok-unifier.ensures.rules ((c.args.s.now, c.args.t.now) ∷ []) c.in_ok-met.ensures
