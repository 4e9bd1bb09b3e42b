use Rattle.std.proofs.Common.{subst, sym}
use Rattle.std.proofs.lemmas.Result.{on_ok_weaker}
use Rattle.theory_print.specs.Names.{Holds}
use Rattle.theory_print.proofs.Fronts.{holds_more}
use Rattle.theory_print.proofs.fresh.hold.Goals as goal

pub returns-in-None : goal.returns-in-None
returns-in-None c = on_ok_weaker c.add.result (λ e. subst (Holds c.args.set.now c.args.front.now) (sym e) (holds_more c.args.set.now c.args.front.now)) c.add.ensures.ok
