use Rattle.std.proofs.Common.{◌∙◌, sym, ap}
use Rattle.std.specs.Prelude.{slice_get}
use Rattle.race_core.specs.declared.race.Race.{Race}
use Rattle.race_run.proofs.Stepping.{up-none, up-one, settled-there, settled-others, settled-none}
use Rattle.race_run.proofs.sweeping.sweep_slot.Goals as goal

pub unreachable-requires : goal.unreachable-requires
unreachable-requires g c =
    let at = ap (λ (r : Race). slice_get r.slots c.args.slot) (sym c.race.ensures.race) ∙ c.at.ensures in
    up-one c.at.result.now c.in-Running.is (up-none c.args.board.now.race.slots c.args.slot c.at.result.now c.requires.none at)

pub returns-in-Waiting-clause-settled : goal.returns-in-Waiting-clause-settled
returns-in-Waiting-clause-settled g c = settled-there c.args.slot _ _ c.requires.slot c.sweep_waiting.ensures.slots

pub returns-in-Waiting-clause-others : goal.returns-in-Waiting-clause-others
returns-in-Waiting-clause-others g c k apart = settled-others c.args.slot k _ _ c.sweep_waiting.ensures.slots apart

pub returns-in-Waiting-clause-none : goal.returns-in-Waiting-clause-none
returns-in-Waiting-clause-none g c =
    let at = ap (λ (r : Race). slice_get r.slots c.args.slot) (sym c.race.ensures.race) ∙ c.at.ensures in
    settled-none c.args.slot _ _ c.at.result.now at c.requires.none c.sweep_waiting.ensures.slots

pub returns-in-Reaped-clause-settled : goal.returns-in-Reaped-clause-settled
returns-in-Reaped-clause-settled g c = settled-there c.args.slot _ _ c.requires.slot c.settle_reaped.ensures.slots

pub returns-in-Reaped-clause-others : goal.returns-in-Reaped-clause-others
returns-in-Reaped-clause-others g c k apart = settled-others c.args.slot k _ _ c.settle_reaped.ensures.slots apart

pub returns-in-Reaped-clause-none : goal.returns-in-Reaped-clause-none
returns-in-Reaped-clause-none g c =
    let at = ap (λ (r : Race). slice_get r.slots c.args.slot) (sym c.race.ensures.race) ∙ c.at.ensures in
    settled-none c.args.slot _ _ c.at.result.now at c.requires.none c.settle_reaped.ensures.slots
