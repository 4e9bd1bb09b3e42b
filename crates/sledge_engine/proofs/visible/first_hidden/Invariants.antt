use Rattle.std.proofs.Common.{ℕ, map, take}
use Rattle.theory_reader.specs.declared.theory.Theory.{Theory}
use Rattle.sledge_engine.specs.Choice.{AllVisible}
use Rattle.sledge_engine.specs.inner.Visible.{IsSeen}
use Rattle.sledge_engine.proofs.visible.first_hidden.Given as goal

abbrev pub invariant-loop-i : goal.invariant-loop-i
invariant-loop-i l = (t : Theory) (goal : ℕ) → IsSeen t goal l.env l.names → AllVisible t goal (map (λ w. w.now) (take l.i l.words))
