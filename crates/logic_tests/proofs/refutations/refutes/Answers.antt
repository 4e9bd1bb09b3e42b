use Rattle.std.proofs.Common.{◌<◌, subst}
use Rattle.logic_tests.proofs.refutations.refutes.Goals as goal

pub conclusion-requires : goal.conclusion-requires
conclusion-requires c = subst (λ n. c.args.th.0 < n) c.len.ensures.theorems c.if-th-len.false

pub hypotheses-requires : goal.hypotheses-requires
hypotheses-requires c = subst (λ n. c.args.th.0 < n) c.len.ensures.theorems c.if-th-len.false
