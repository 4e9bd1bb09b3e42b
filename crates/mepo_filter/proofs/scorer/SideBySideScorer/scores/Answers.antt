use Rattle.std.proofs.Common.{ℕ, List, map, ap, ◌∙◌, Bor}
use Rattle.rayon.proofs.ToStd.{slice-map}
use Rattle.mepo_filter.specs.declared.constant_set.ConstantSet.{ConstantSet}
use Rattle.mepo_filter.specs.declared.weights.Weights.{Weights}
use Rattle.mepo_filter.specs.declared.placing.Place.{Place}
use Rattle.mepo_filter.specs.declared.placing.Scored.{Scored}
use Rattle.mepo_filter.specs.inner.Tables.{is_in, weight_in}
use Rattle.mepo_filter.specs.inner.Places.{scored_at}
use Rattle.mepo_filter.proofs.scorer.SideBySideScorer.scores.Goals as goal

-- what the closure gives by what it has taken along
abbrev given : Bor (List ℕ) × Bor Weights × Bor ConstantSet → Place → Scored
given f p = scored_at (weight_in f.1.now) (is_in f.2.now) f.0.now p

pub returns-in-Ok : goal.returns-in-Ok
returns-in-Ok g c =
    let slice = ap (λ it. it.slice.now) c.map.ensures.base ∙ c.par_iter.ensures in
    let chain = c.in-Ok.ensures in
    chain.2 ∙ slice-map chain.1.0 c.args.left.now (chain.1.1 ∙ slice) (given c.map.result.f) chain.0 chain.1.2
    ∙ ap (λ f. map (given f) c.args.left.now) c.map.ensures.f
