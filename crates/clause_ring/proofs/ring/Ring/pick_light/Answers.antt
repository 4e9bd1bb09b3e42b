use Rattle.std.proofs.Common.{◌≡◌, ℕ, ◌<◌, [], List, arith, sym, ◌∙◌, subst, length}
use Rattle.std.specs.Prelude.{Option, MatchOption}
use Rattle.clause_ring.specs.declared.entry.Entry.{Entry}
use Rattle.clause_ring.specs.Picks.{TakesLightest}
use Rattle.clause_ring.specs.inner.Ages.{waiting}
use Rattle.clause_ring.specs.inner.Buckets.{AreEmpty, IsFirstFilled}
use Rattle.clause_ring.proofs.Kept.{picks, place-stands, none-waits, held, filled-within}
use Rattle.clause_ring.proofs.ring.Ring.pick_light.Goals as goal

pub returns-in_err-weight-clause-picked : goal.returns-in_err-weight-clause-picked
returns-in_err-weight-clause-picked g c =
    let E : List (List ℕ) → Type 0 = λ bs. AreEmpty bs (length bs) in
    let none = sym c.self.view_is ∙ none-waits c.self.inside.buckets.items c.self.inside.ages c.self.invariant (subst E c.as_slice.ensures.value c.in_err-weight.ensures.empty) in
    let P : Option Entry → Type 0 = λ r. MatchOption r ((c.args.self.now ≡ []) × (c.args.self.now ≡ [])) (λ entry. TakesLightest c.args.self.now entry c.args.self.now) in
    subst P (sym c.from_residual.ensures) (none, none)

pub take-requires-clause-came : goal.take-requires-clause-came
take-requires-clause-came g c =
    let F : List (List ℕ) → Type 0 = λ bs. IsFirstFilled bs c.in_ok-weight.weight in
    let buckets = c.self.inside.buckets.items in
    let filled = subst F c.as_slice.ensures.value c.in_ok-weight.ensures.filled in
    let within = filled-within buckets c.in_ok-weight.weight filled in
    let light : c.in_ok-weight.weight < 513 = omega (arith, within, c.self.invariant.many) in
    let here = held buckets c.in_ok-weight.weight c.index_mut.result.now within c.index_mut.ensures.value ∙ c.in_ok-place.ensures in
    (place-stands buckets c.self.inside.ages c.in_ok-weight.weight c.in_ok-place.place c.pop.new.self c.self.invariant light here).0

pub take-requires-clause-stands : goal.take-requires-clause-stands
take-requires-clause-stands g c =
    let F : List (List ℕ) → Type 0 = λ bs. IsFirstFilled bs c.in_ok-weight.weight in
    let buckets = c.self.inside.buckets.items in
    let filled = subst F c.as_slice.ensures.value c.in_ok-weight.ensures.filled in
    let within = filled-within buckets c.in_ok-weight.weight filled in
    let light : c.in_ok-weight.weight < 513 = omega (arith, within, c.self.invariant.many) in
    let here = held buckets c.in_ok-weight.weight c.index_mut.result.now within c.index_mut.ensures.value ∙ c.in_ok-place.ensures in
    (place-stands buckets c.self.inside.ages c.in_ok-weight.weight c.in_ok-place.place c.pop.new.self c.self.invariant light here).1

pub invariant_of-self-2 : goal.invariant_of-self-2
invariant_of-self-2 g c =
    let F : List (List ℕ) → Type 0 = λ bs. IsFirstFilled bs c.in_ok-weight.weight in
    let buckets = c.self.inside.buckets.items in
    let filled = subst F c.as_slice.ensures.value c.in_ok-weight.ensures.filled in
    let within = filled-within buckets c.in_ok-weight.weight filled in
    let light : c.in_ok-weight.weight < 513 = omega (arith, within, c.self.invariant.many) in
    let here = held buckets c.in_ok-weight.weight c.index_mut.result.now within c.index_mut.ensures.value ∙ c.in_ok-place.ensures in
    (picks buckets c.self.inside.ages c.take.new.self c.in_ok-weight.weight c.in_ok-place.place c.pop.new.self c.take.result c.self.invariant light filled.lighter here c.take.ensures.gone c.take.ensures.taken).ring

pub returns-clause-picked : goal.returns-clause-picked
returns-clause-picked g c =
    let F : List (List ℕ) → Type 0 = λ bs. IsFirstFilled bs c.in_ok-weight.weight in
    let buckets = c.self.inside.buckets.items in
    let filled = subst F c.as_slice.ensures.value c.in_ok-weight.ensures.filled in
    let within = filled-within buckets c.in_ok-weight.weight filled in
    let light : c.in_ok-weight.weight < 513 = omega (arith, within, c.self.invariant.many) in
    let here = held buckets c.in_ok-weight.weight c.index_mut.result.now within c.index_mut.ensures.value ∙ c.in_ok-place.ensures in
    let T : List Entry → Type 0 = λ es. TakesLightest es c.take.result (waiting c.take.new.self.aged) in
    subst T c.self.view_is (picks buckets c.self.inside.ages c.take.new.self c.in_ok-weight.weight c.in_ok-place.place c.pop.new.self c.take.result c.self.invariant light filled.lighter here c.take.ensures.gone c.take.ensures.taken).takes
