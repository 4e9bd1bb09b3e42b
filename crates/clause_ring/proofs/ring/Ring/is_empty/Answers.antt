use Rattle.std.proofs.Common.{ℕ, List, length, sym, ◌∙◌, subst}
use Rattle.clause_ring.specs.inner.Buckets.{AreEmpty}
use Rattle.clause_ring.proofs.Kept.{none-waits, all-empty}
use Rattle.clause_ring.proofs.ring.Ring.is_empty.Goals as goal

pub returns : goal.returns
returns c =
    let E : List (List ℕ) → Type 0 = λ bs. AreEmpty bs (length bs) in
    let buckets = c.self.inside.buckets.items in (
      λ yes. sym c.self.view_is ∙ none-waits buckets c.self.inside.ages c.self.invariant (subst E c.as_slice.ensures.value (c.are_empty.ensures.0 yes)),
      λ none. c.are_empty.ensures.1 (subst E (sym c.as_slice.ensures.value) (all-empty buckets c.self.inside.ages c.self.invariant (c.self.view_is ∙ none))),
    )
