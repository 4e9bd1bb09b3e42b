use Rattle.std.proofs.Common.{◌≡◌, ◌<◌, subst, sym, ap, ◌∙◌, arith}
use Rattle.metis_core.specs.declared.turn.Turn.TheVariants.{More}
use Rattle.metis_core.proofs.Searches.{steps}
use Rattle.metis_core.proofs.search.Search.step.Goals as goal

pub overflow_add-number : goal.overflow_add-number
overflow_add-number c =
    let left : c.self.inside.picks < c.self.inside.given.budget = subst (λ s. s.picks < s.given.budget) (sym c.self.view_is) c.requires.open.left in
    omega (arith, c.self.ranges)

pub invariant_of-self : goal.invariant_of-self
invariant_of-self c =
    let more : c.self.inside.reached ≡ More = ap (λ s. s.reached) c.self.view_is ∙ c.requires.more in
    let left : c.self.inside.picks < c.self.inside.given.budget = subst (λ s. s.picks < s.given.budget) (sym c.self.view_is) c.requires.open.left in
    steps c.self.inside c.self.invariant more c.settle-self-inside.new.stock c.pick-told.new.stock c.pick-told.result c.settle-self-inside.result left
    c.pick-told.ensures.running c.pick-told.ensures.picked c.pick-told.ensures.ends c.settle-self-inside.ensures
