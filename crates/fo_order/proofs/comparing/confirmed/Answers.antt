use Rattle.std.proofs.Common.{subst, refl}
use Rattle.fo_order.specs.KnuthBendix.{RankOf, above}
use Rattle.fo_order.proofs.Ranks.{confirmed_not, confirmed_not_less}
use Rattle.fo_order.proofs.comparing.confirmed.Goals as goal

pub returns-then-covered : goal.returns-then-covered
returns-then-covered c = above (c.if-covered.ensures.0 refl) (subst (RankOf c.args.s.now c.args.t.now) c.in-Greater.is c.requires)

pub returns-then-covered-2 : goal.returns-then-covered-2
returns-then-covered-2 c = above (c.if-covered-2.ensures.0 refl) (subst (RankOf c.args.s.now c.args.t.now) c.in-Less.is c.requires)

pub returns-else-covered : goal.returns-else-covered
returns-else-covered c =
    confirmed_not c.args.s.now c.args.t.now (subst (RankOf c.args.s.now c.args.t.now) c.in-Greater.is c.requires) (λ cov. (let wrong = c.if-covered.ensures.1 cov in cc))

pub returns-else-covered-2 : goal.returns-else-covered-2
returns-else-covered-2 c =
    confirmed_not_less c.args.s.now c.args.t.now (subst (RankOf c.args.s.now c.args.t.now) c.in-Less.is c.requires) (λ cov. (let wrong = c.if-covered-2.ensures.1 cov in cc))
