use Rattle.std.proofs.Common.{subst, refl}
use Rattle.fo_terms.specs.Substitution.{put}
use Rattle.fo_unify.specs.Lookup.{term_of}
use Rattle.fo_order.specs.KnuthBendix.{RankOf, above}
use Rattle.fo_order.proofs.Ranks.{confirmed_not, confirmed_not_less}
use Rattle.fo_infer.proofs.ranking.confirmed.Goals as goal

pub returns-then-covered : goal.returns-then-covered
returns-then-covered c =
    let u = term_of c.args.unifier.now in
    above (c.if-covered.ensures.0 refl) (subst (RankOf (put u c.args.s.now) (put u c.args.t.now)) c.in-Greater.is c.requires)

pub returns-then-covered-2 : goal.returns-then-covered-2
returns-then-covered-2 c =
    let u = term_of c.args.unifier.now in
    above (c.if-covered-2.ensures.0 refl) (subst (RankOf (put u c.args.s.now) (put u c.args.t.now)) c.in-Less.is c.requires)

pub returns-else-covered : goal.returns-else-covered
returns-else-covered c =
    let u = term_of c.args.unifier.now in
    let s = put u c.args.s.now in
    let t = put u c.args.t.now in
    confirmed_not s t (subst (RankOf s t) c.in-Greater.is c.requires) (λ cov. (let wrong = c.if-covered.ensures.1 cov in cc))

pub returns-else-covered-2 : goal.returns-else-covered-2
returns-else-covered-2 c =
    let u = term_of c.args.unifier.now in
    let s = put u c.args.s.now in
    let t = put u c.args.t.now in
    confirmed_not_less s t (subst (RankOf s t) c.in-Less.is c.requires) (λ cov. (let wrong = c.if-covered-2.ensures.1 cov in cc))
