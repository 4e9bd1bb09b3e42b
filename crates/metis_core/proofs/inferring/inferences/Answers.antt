use Rattle.std.proofs.Common.{◌≡◌, ◌+◌, subst, sym}
use Rattle.std.specs.Prelude.{IfSome}
use Rattle.fo_terms.specs.Substitution.{var, put_literals}
use Rattle.metis_core.specs.Search.{Infers}
use Rattle.metis_core.specs.Held.{state_of}
use Rattle.metis_core.proofs.Indexes.{clause_at}
use Rattle.metis_core.proofs.Raisings.{raised_at, raised_apart, number_within}
use Rattle.metis_core.proofs.inferring.inferences.Goals as goal

pub returns-in_ok-alone_light-in-One : goal.returns-in_ok-alone_light-in-One
returns-in_ok-alone_light-in-One c =
    let found = c.in_ok-alone_light-in-One.ensures in (
      found.0,
      subst (λ p. Infers c.args.positions (state_of c.args.stock.now) p found.0) (sym c.in-One.is)
          (c.at.result.now.clause, clause_at c.args.stock.now.lines c.in-One.n c.at.result.now c.at.ensures, found.1),
      found.2,
    )

pub between_at-requires : goal.between_at-requires
between_at-requires c =
    let lines = c.args.stock.now.lines in
    let all = c.args.stock.now.raised.items in
    let held = c.requires.sound.raised in
    let left = c.at-in-Two.result.now.clause in
    let right = c.at-in-Two-2.result.now.clause in
    raised_apart left right c.index.result.now c.in-Some.apart.now
    (raised_at lines all c.in-Two.n left c.index.result.now (number_within lines c.in-Two.n left (clause_at lines c.in-Two.n c.at-in-Two.result.now c.at-in-Two.ensures)) (clause_at lines c.in-Two.n c.at-in-Two.result.now c.at-in-Two.ensures) c.index.ensures held)
    (subst (λ o. IfSome o (λ ls. ls.now ≡ put_literals (λ x. var (x + c.index.result.now.above)) right.literals)) c.in-Some.is
    (c.copy_of.ensures right
    (raised_at lines all c.in-Two.m right c.index-in-Two.result.now (number_within lines c.in-Two.m right (clause_at lines c.in-Two.m c.at-in-Two-2.result.now c.at-in-Two-2.ensures)) (clause_at lines c.in-Two.m c.at-in-Two-2.result.now c.at-in-Two-2.ensures) c.index-in-Two.ensures held)))

pub returns-in_ok-between_at-in-Some : goal.returns-in_ok-between_at-in-Some
returns-in_ok-between_at-in-Some c =
    let found = c.in_ok-between_at-in-Some.ensures in (
      found.0,
      subst (λ p. Infers c.args.positions (state_of c.args.stock.now) p found.0) (sym c.in-Two.is) (
        c.at-in-Two.result.now.clause,
        c.at-in-Two-2.result.now.clause,
        clause_at c.args.stock.now.lines c.in-Two.n c.at-in-Two.result.now c.at-in-Two.ensures,
        clause_at c.args.stock.now.lines c.in-Two.m c.at-in-Two-2.result.now c.at-in-Two-2.ensures,
        found.1,
      ),
      found.2,
    )

pub returns-in_ok-between_at-in-None : goal.returns-in_ok-between_at-in-None
returns-in_ok-between_at-in-None c =
    let found = c.in_ok-between_at-in-None.ensures in (
      found.0,
      subst (λ p. Infers c.args.positions (state_of c.args.stock.now) p found.0) (sym c.in-Two.is) (
        c.at-in-Two.result.now.clause,
        c.at-in-Two-2.result.now.clause,
        clause_at c.args.stock.now.lines c.in-Two.n c.at-in-Two.result.now c.at-in-Two.ensures,
        clause_at c.args.stock.now.lines c.in-Two.m c.at-in-Two-2.result.now c.at-in-Two-2.ensures,
        found.1,
      ),
      found.2,
    )
