use Rattle.std.proofs.Common.{◌≡◌, ◌≤◌, ◌∙◌, map, length, arith}
use Rattle.std.proofs.lemmas.List.{length-map}
use Rattle.theory_terms.proofs.KeyPlaces.{place_small}
use Rattle.theory_terms.proofs.names.Names.place.Goals as goal

pub returns-clause-small : goal.returns-clause-small
returns-clause-small c =
    let names = map (λ k. k.now) c.self.inside.list in
    let few : length names ≤ 4294967294 = omega (arith, length-map c.self.inside.list (λ k. k.now)) in
    place_small c.args.name.now names 4294967294 c.copied.result (c.copied.ensures ∙ c.get.ensures.value ∙ c.self.invariant.1 c.args.name.now) few
