use Rattle.std.proofs.Common.{[], ◌∷◌}
use Rattle.fo_unify.proofs.solving.unify_both.Goals as goal

pub returns-clause-answer : goal.returns-clause-answer
returns-clause-answer c = c.in_ok-unifier.ensures.answer ((c.args.first.0.now, c.args.first.1.now) ∷ (c.args.second.0.now, c.args.second.1.now) ∷ []) c.in_ok-met.ensures

pub returns-clause-rules : goal.returns-clause-rules
returns-clause-rules c = c.in_ok-unifier.ensures.rules ((c.args.first.0.now, c.args.first.1.now) ∷ (c.args.second.0.now, c.args.second.1.now) ∷ []) c.in_ok-met.ensures
