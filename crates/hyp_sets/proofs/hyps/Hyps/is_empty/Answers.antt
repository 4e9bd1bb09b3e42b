use Rattle.std.proofs.Common.{◌∙◌, sym, subst, refl}
use Rattle.hyp_sets.specs.Sets.{set_of, Holds}
use Rattle.hyp_sets.specs.inner.Trees.{items}
use Rattle.hyp_sets.proofs.Ascending.{held_here}
use Rattle.hyp_sets.proofs.Forks.{items_fork}
use Rattle.hyp_sets.proofs.Members.{none_held}
use Rattle.hyp_sets.proofs.hyps.Hyps.is_empty.Goals as goal

pub returns-in-Fork : goal.returns-in-Fork
returns-in-Fork c =
    let k = c.in-Fork.field-1.term in
    let here = held_here (items c.in-Fork.field-0) k (items c.in-Fork.field-2) k refl in
    let whole = items_fork _ _ _ _ _ (sym c.get.ensures ∙ c.in-Fork.is) in
    (λ h. cc, λ h. absurd (none_held k (subst (λ s. Holds s k) (c.self.view_is ∙ h) (subst (λ z. Holds (set_of z) k) (sym whole) here))))
