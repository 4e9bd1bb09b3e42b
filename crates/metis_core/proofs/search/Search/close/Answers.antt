use Rattle.std.proofs.Common.{refl}
use Rattle.metis_core.proofs.Searches.{saturates, spends}
use Rattle.metis_core.proofs.search.Search.close.Goals as goal

pub invariant_of-self : goal.invariant_of-self
invariant_of-self c = saturates c.self.inside c.self.invariant (c.if-not-is_more.ensures.0 refl) (c.if-is_empty.ensures.0 refl)

pub invariant_of-self-then-self : goal.invariant_of-self-then-self
invariant_of-self-then-self c = spends c.self.inside c.self.invariant (c.if-not-is_more.ensures.0 refl) (λ e. (let wrong = c.if-is_empty.ensures.1 e in cc)) c.if-self.true
