use Rattle.std.proofs.Common.{◌≡◌, ◌<◌, length, refl, ap, sym, subst}
use Rattle.metis_core.proofs.Reach.{none_inferred}
use Rattle.metis_core.proofs.Telling.{number_below}
use Rattle.metis_core.proofs.inferring.infer_pair.Goals as goal

pub returns-then-not-may_infer-clause-inferred : goal.returns-then-not-may_infer-clause-inferred
returns-then-not-may_infer-clause-inferred c =
    none_inferred c.args.given.now.positions c.args.stock.now c.args.left.place c.args.right.place c.args.left.number c.args.right.number c.at.result.now c.at-2.result.now
    c.requires.running.sound c.requires.running.same c.requires.left c.requires.right c.at.ensures c.at-2.ensures (c.if-not-may_infer.ensures refl)

pub infer-requires-clause-within : goal.infer-requires-clause-within
infer-requires-clause-within c =
    let stock = c.args.stock.now in
    let same : length stock.lines ≡ length c.raise_right.new.stock.lines = ap length (sym c.in_ok-raise_right.ensures.lines) in (
      subst (λ n. c.args.left.number < n) same (number_below stock.active c.args.left.place c.args.left.number (length stock.lines) c.requires.running.sound.active c.requires.left),
      subst (λ n. c.args.right.number < n) same (number_below stock.active c.args.right.place c.args.right.number (length stock.lines) c.requires.running.sound.active c.requires.right),
    )
