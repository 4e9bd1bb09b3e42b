use Rattle.std.proofs.Common.{ap, ◌∙◌}
use Rattle.std.specs.Prelude.{option_and_then}
use Rattle.race_board.proofs.Moving.{range-of}
use Rattle.race_board.proofs.board.Board.id_of.Goals as goal

pub returns-in-Some-clause-range : goal.returns-in-Some-clause-range
returns-in-Some-clause-range g c =
    range-of _ _ _ _ _ _ c.args.slot _ c.self.invariant.0 (ap (λ o. option_and_then (λ x. x) o) c.in-Some.ensures.value ∙ c.self.invariant.0.known c.args.slot)
