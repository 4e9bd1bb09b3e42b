use Rattle.std.proofs.Common.{◌≡◌, ◌↔◌, false, true, IsTrue, subst}
use Rattle.std.specs.Prelude.{IfSome}
use Rattle.fo_infer.specs.Subsumption.{Subsumes}
use Rattle.metis_core.proofs.stock.is_subsumed_at.Goals as goal

pub returns-then-not-may_subsume : goal.returns-then-not-may_subsume
returns-then-not-may_subsume c = λ p at. (
  λ told. (let clash : false ≡ true = told in cc),
  λ sub. c.if-not-may_subsume.ensures.law p (record { literals = c.args.c.now })
      (c.requires.sound.marks.each c.args.k p c.at.result.now c.at.ensures at) c.requires.marks sub,
)

pub returns-in-Some : goal.returns-in-Some
returns-in-Some c = λ p at.
    subst (λ o. IfSome o (λ b. IsTrue b ↔ Subsumes p (record { literals = c.args.c.now }))) c.in-Some.is
    (c.tries.ensures p (c.requires.sound.ready.each c.args.k p c.at-2.result.now c.at-2.ensures at))
