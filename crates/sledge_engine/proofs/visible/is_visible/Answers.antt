use Rattle.std.proofs.Common.{ℕ, ◌≡◌, ◌∙◌, Some, sym}
use Rattle.theory_reader.specs.declared.theory.Theory.{Theory}
use Rattle.theory_reader.specs.Sound.{fact_names}
use Rattle.theory_terms.specs.Words.{place}
use Rattle.sledge_engine.specs.Choice.{is_named, visible_facts}
use Rattle.sledge_engine.specs.inner.Visible.{IsSeen, fits_at}
use Rattle.sledge_engine.proofs.Fitted.{hidden_by_place, visible_by_place}
use Rattle.sledge_engine.proofs.Replying.{if_ok_map}
use Rattle.sledge_engine.proofs.visible.is_visible.Goals as goal

pub returns-in-Some : goal.returns-in-Some
returns-in-Some c =
    let e = c.args.env.now in
    let names = c.args.names.now in
    let name = c.args.name.now in
    let k = c.in-Some.place in
    let at : place name names ≡ Some k = sym c.place.ensures.place ∙ c.in-Some.is in
    if_ok_map c.fits_as_fact.result (λ b. b ≡ fits_at e k) (λ b. (t : Theory) (goal : ℕ) → IsSeen t goal e names → b ≡ is_named (fact_names (visible_facts t goal)) name)
    (λ b h t goal seen. h ∙ visible_by_place t goal e names name k seen at) c.fits_as_fact.ensures

pub returns-in-None : goal.returns-in-None
returns-in-None c =
    λ t goal seen. hidden_by_place t goal c.args.env.now c.args.names.now c.args.name.now seen (sym c.place.ensures.place ∙ c.in-None.is)
