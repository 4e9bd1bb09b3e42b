use Rattle.std.proofs.Common.{◌∙◌, ap, sym, take, Some, ◌+◌}
use Rattle.std.specs.List.{position}
use Rattle.std.specs.Str.{bytes_eq}
use Rattle.std.proofs.lemmas.List.{length-take-le}
use Rattle.theory_reader.proofs.Lookups.{place_in_front, place_behind, place_nowhere}
use Rattle.theory_reader.proofs.lookup.seen_place.Goals as goal

pub returns-in-Some : goal.returns-in-Some
returns-in-Some c =
    sym (place_in_front (λ f. bytes_eq c.args.name.now f.name) (take c.args.goal.now.before c.args.facts.now) c.args.goal.now.assumes c.in-Some.place
    (ap (position (λ f. bytes_eq c.args.name.now f.name)) (sym c.facts_before.ensures) ∙ sym c.fact_place.ensures ∙ c.in-Some.is))

pub returns-in-Some-fact_place : goal.returns-in-Some-fact_place
returns-in-Some-fact_place c =
    let far = length-take-le c.args.goal.now.before c.args.facts.now c.requires.before in
    ap (λ n. Some (n + c.in-Some-fact_place.place)) (sym far) ∙
    sym (place_behind (λ f. bytes_eq c.args.name.now f.name) (take c.args.goal.now.before c.args.facts.now) c.args.goal.now.assumes c.in-Some-fact_place.place
    (ap (position (λ f. bytes_eq c.args.name.now f.name)) (sym c.facts_before.ensures) ∙ sym c.fact_place.ensures ∙ c.in-None.is)
    (ap (position (λ f. bytes_eq c.args.name.now f.name)) (sym c.as_slice.ensures) ∙ sym c.fact_place-in-None.ensures ∙ c.in-Some-fact_place.is))

pub returns-in-None-fact_place : goal.returns-in-None-fact_place
returns-in-None-fact_place c =
    sym (place_nowhere (λ f. bytes_eq c.args.name.now f.name) (take c.args.goal.now.before c.args.facts.now) c.args.goal.now.assumes
    (ap (position (λ f. bytes_eq c.args.name.now f.name)) (sym c.facts_before.ensures) ∙ sym c.fact_place.ensures ∙ c.in-None.is)
    (ap (position (λ f. bytes_eq c.args.name.now f.name)) (sym c.as_slice.ensures) ∙ sym c.fact_place-in-None.ensures ∙ c.in-None-fact_place.is))
