use Rattle.std.proofs.Common.{◌+◌, ◌≤◌, arith}
use Rattle.text_kit.proofs.Cutting as cutting
use Rattle.text_kit.proofs.cut.tokens.Goals as goal

gap_turn : (c : goal.In-Gap) → cutting.SoFar c.args.text.now (c.pieces.at + c.in-Gap.len) c.pieces.found × (1 ≤ c.in-Gap.len)
gap_turn c = cutting.gap_turn _ _ _ c.pieces.invariant _ c.in-Gap.len c.rest_at.ensures c.in-Gap.ensures

pub overflow_add-at : goal.overflow_add-at
overflow_add-at c = omega (arith, (gap_turn c).0.within)

pub pieces-preserved-in-Gap : goal.pieces-preserved-in-Gap
pieces-preserved-in-Gap c = (gap_turn c).0

pub overflow_add-at-in-Ok : goal.overflow_add-at-in-Ok
overflow_add-at-in-Ok c = omega (arith, (cutting.token_turn _ _ _ c.pieces.invariant _ c.in-Token.kind c.in-Token.len c.rest_at.ensures c.in-Token.ensures).0.within)

pub pieces-preserved : goal.pieces-preserved
pieces-preserved c = rw c.in-Ok.ensures.ok
    (cutting.token_turn _ _ _ c.pieces.invariant _ c.in-Token.kind c.in-Token.len c.rest_at.ensures c.in-Token.ensures).0

pub pieces-smaller : goal.pieces-smaller
pieces-smaller c = omega (arith, (cutting.token_turn _ _ _ c.pieces.invariant _ c.in-Token.kind c.in-Token.len c.rest_at.ensures c.in-Token.ensures).1, (cutting.token_turn _ _ _ c.pieces.invariant _ c.in-Token.kind c.in-Token.len c.rest_at.ensures c.in-Token.ensures).0.within)

pub returns-clause-cut : goal.returns-clause-cut
returns-clause-cut c = cutting.done _ _ _ c.pieces.invariant c.pieces-test.false

pub returns-in-Nothing-clause-refused : goal.returns-in-Nothing-clause-refused
returns-in-Nothing-clause-refused c = cutting.nothing_turn _ _ _ c.pieces.invariant _ c.pieces-test.true c.rest_at.ensures c.in-Nothing.ensures
