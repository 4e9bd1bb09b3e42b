use Rattle.std.proofs.Common.{◌≡◌, ℕ, Bool, true, false, eqb, refl, arith, ap, sym, subst, ◌∙◌, Option, Some, None}
use Rattle.std.specs.Prelude.{slice_get, not, IfSome}
use Rattle.std.specs.Option.{option_eq}
use Rattle.std.specs.Bool.{OnTrue, OnFalse}
use Rattle.std.proofs.lemmas.Bool.{eqb-true}
use Rattle.race_core.specs.declared.race.Race.{Race}
use Rattle.race_core.specs.declared.slot.SlotState.{SlotState}
use Rattle.race_core.specs.Histories.{id_of}
use Rattle.race_board.specs.Drains.{Reading}
use Rattle.race_board.specs.Ends.{IsOfRace}
use Rattle.race_board.specs.Boards.{View}
use Rattle.race_board.specs.Calls.{IsUp}
use Rattle.race_board.proofs.Settling.{one-id}
use Rattle.race_board.proofs.Seen.{up-counts}
use Rattle.race_board.proofs.tests.driver.lose.Goals as goal

told : (b : Bool) (P : Type 0) → b ≡ true → OnTrue b P → P
told true P h p = p
told false P h p = cc

denied : (b : Bool) (P : Type 0) → b ≡ false → OnFalse b P → P
denied true P h p = cc
denied false P h p = p

positive : (b : Bool) → false ≡ not b → b ≡ true
positive true h = refl
positive false h = cc

same-id : (o : Option ℕ) (i : ℕ) → false ≡ not (option_eq eqb o (Some i)) → o ≡ Some i
same-id None i h = cc
same-id (Some j) i h = ap Some (eqb-true j i (positive (eqb j i) h))

of-some : (P : ℕ → Type 0) (o : Option ℕ) (i : ℕ) → o ≡ Some i → IfSome o P → P i
of-some P None i e h = cc
of-some P (Some j) i e h =
    let same : j ≡ i = cc in
    subst P same h

pub reap_lost-requires-clause-share : goal.reap_lost-requires-clause-share
reap_lost-requires-clause-share g c κs within =
    let U : Option SlotState → Type 0 = λ o. IsUp o in
    let up : IsUp c.state.result = told c.is_up.result _ c.if-not-is_up.false c.is_up.ensures.up in
    let at : c.state.result ≡ slice_get c.count.new.self.race.slots c.args.slot = c.state.ensures ∙ ap (λ (r : Race). slice_get r.slots c.args.slot) c.race-race.ensures.race ∙ ap (λ (v : View _). slice_get v.race.slots c.args.slot) (sym c.count.ensures.same) in
    omega (arith, c.count.ensures.counted, up-counts c.count.new.self.race.slots c.args.slot (subst U at up))

pub reap_lost-requires-clause-free : goal.reap_lost-requires-clause-free
reap_lost-requires-clause-free g c κs within = λ k s at up own. (
    let first : ℕ = g.N.Name.terms.first.starts in
    let now : View _ = c.count.new.self in
    let U : Option SlotState → Type 0 = λ o. IsUp o in
    let known : c.id_of.result ≡ Some c.id.result = same-id c.id_of.result c.id.result (sym c.if-ne.false ∙ c.ne.ensures) in
    let number : c.id.result ≡ c.args.stray.pipe.number = c.id.ensures ∙ ap (λ (d : Reading _). d.pipe.number) c.stray.view_is in
    let mine : id_of first now.events c.args.other ≡ Some c.args.stray.pipe.number = ap (λ (v : View _). id_of first v.events c.args.other) c.count.ensures.same ∙ sym c.id_of.ensures.id ∙ known ∙ ap Some number in
    let one : k ≡ c.args.other = one-id first now.events k c.args.other c.args.stray.pipe.number own mine in
    let state : Some s ≡ c.state-else-not-is_up.result = sym at ∙ ap (slice_get now.race.slots) one ∙ ap (λ (v : View _). slice_get v.race.slots c.args.other) c.count.ensures.same ∙ sym (ap (λ (r : Race). slice_get r.slots c.args.other) c.race-race.ensures.race) ∙ sym c.state-else-not-is_up.ensures in
    denied c.is_up-else-not-is_up.result _ c.if-is_up.false c.is_up-else-not-is_up.ensures.down (subst U state up))

pub reap_lost-requires-clause-range : goal.reap_lost-requires-clause-range
reap_lost-requires-clause-range g c κs within =
    let R : ℕ → Type 0 = λ i. IsOfRace g.N.Name.terms i in
    let known : c.id_of.result ≡ Some c.id.result = same-id c.id_of.result c.id.result (sym c.if-ne.false ∙ c.ne.ensures) in
    let number : c.id.result ≡ c.args.stray.pipe.number = c.id.ensures ∙ ap (λ (d : Reading _). d.pipe.number) c.stray.view_is in
    subst R number (of-some R c.id_of.result c.id.result known c.id_of.ensures.range)
