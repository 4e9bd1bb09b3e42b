use Rattle.std.proofs.Common.{◌≡◌, List, map, subst, sym}
use Rattle.fo_infer.specs.declared.made.Made.{Made}
use Rattle.fo_infer.specs.Inferences.{BetweenAt}
use Rattle.fo_light.specs.Light.{as_made, light}
use Rattle.metis_core.specs.Search.{position_of}
use Rattle.metis_core.proofs.inferring.between_at.Goals as goal

pub returns-in_ok-between_light-in-Tagged : goal.returns-in_ok-between_light-in-Tagged
returns-in_ok-between_light-in-Tagged c =
    subst (λ p. (all : List Made) × BetweenAt (position_of p) c.args.p.now c.args.q.now all × (map as_made c.in_ok-between_light-in-Tagged.field-0 ≡ light all)) (sym c.in-Tagged.is) c.in_ok-between_light-in-Tagged.ensures

pub returns-in_ok-between_light-in-Plain : goal.returns-in_ok-between_light-in-Plain
returns-in_ok-between_light-in-Plain c =
    subst (λ p. (all : List Made) × BetweenAt (position_of p) c.args.p.now c.args.q.now all × (map as_made c.in_ok-between_light-in-Plain.field-0 ≡ light all)) (sym c.in-Plain.is) c.in_ok-between_light-in-Plain.ensures
