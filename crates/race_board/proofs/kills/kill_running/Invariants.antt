use Rattle.std.proofs.Common.{◌≡◌}
use Rattle.race_board.proofs.Killing.{IsKilling}
use Rattle.race_board.proofs.kills.kill_running.Given as goal

abbrev pub invariant-loop-slot : goal.invariant-loop-slot
invariant-loop-slot g l =
    IsKilling l.slots l.ids l.slot (g.L.Launcher.standing l.initial.launcher) (g.L.Launcher.standing l.launcher)
    × (g.L.Launcher.children l.launcher ≡ g.L.Launcher.children l.initial.launcher)
