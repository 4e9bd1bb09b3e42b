use Rattle.std.proofs.Common.{◌<◌, arith}
use Rattle.fo_infer.proofs.Factorings.{factor_answer}
use Rattle.fo_infer.proofs.single.factor_at.Goals as goal

pub returns : goal.returns
returns c =
    let before : c.args.i < c.args.j = omega arith in
    factor_answer c.args.p.now c.args.i c.args.j c.at-first.result.now c.at-second.result.now c.at-first.ensures c.at-second.ensures before c.if-first-second.false c.in_ok-unifier.unifier c.in_ok-unifier.ensures
