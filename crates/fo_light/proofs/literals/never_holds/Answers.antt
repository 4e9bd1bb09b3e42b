use Rattle.fo_terms.specs.Substitution.{put}
use Rattle.fo_unify.specs.Lookup.{term_of}
use Rattle.fo_light.proofs.Growing.{sides_refuted}
use Rattle.fo_light.proofs.literals.never_holds.Goals as goal

pub returns : goal.returns
returns c = sides_refuted c.args.positive c.in_ok-same.same (put (term_of c.args.unifier.now) c.args.s.now) (put (term_of c.args.unifier.now) c.args.t.now) c.if-positive.false c.in_ok-same.ensures
