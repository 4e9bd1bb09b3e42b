use Rattle.std.proofs.Common.{◌<◌, subst}
use Rattle.logic_tests.proofs.derived.is_cut.Goals as goal

pub cut-requires-clause-a : goal.cut-requires-clause-a
cut-requires-clause-a c = subst (λ n. c.args.a.0 < n) c.len.ensures.theorems c.if-a-len.false

pub cut-requires-clause-c : goal.cut-requires-clause-c
cut-requires-clause-c c = subst (λ n. c.args.c.0 < n) c.len-2.ensures.theorems c.if-c-len.false
