use Rattle.std.proofs.Common.{◌≡◌, arith, length}
use Rattle.std.proofs.lemmas.Grind.{common_steps}
use Rattle.kernel_rules.specs.Derivations.{leaves}
use Rattle.sledge_engine.specs.Used.{is_listed}
use Rattle.sledge_engine.proofs.Marking.{mark_at}
use Rattle.sledge_engine.proofs.used.put_used.Goals as goal

pub loop-i-preserved : goal.loop-i-preserved
loop-i-preserved c =
    let used = leaves c.args.steps.now in
    let asked : c.at.result.now ≡ is_listed used c.loop-i.i =
    mark_at (length c.args.facts.now) used c.in_ok-marks.marks c.loop-i.i c.at.result.now c.in_ok-marks.ensures c.at.ensures in
    grind (arith, common_steps, asked)
