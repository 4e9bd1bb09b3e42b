use Rattle.std.proofs.Common.{subst, sym}
use Rattle.std.specs.Prelude.{Contains}
use Rattle.fo_terms.specs.Substitution.{put_literal}
use Rattle.fo_infer.proofs.Narrowing.{sends_all}
use Rattle.fo_infer.proofs.seeking.seek.Goals as goal

pub returns-then-n-eq0 : goal.returns-then-n-eq0
returns-then-n-eq0 c = λ v s.
    let here = sends_all v c.args.d.now c.args.c.now s c.loop-l.l-index c.l-item.result c.loop-l-test.true in
    c.in_ok-n.ensures c.if-n-eq0.true v (subst (λ l. Contains c.args.d.now (put_literal v l)) (sym c.l-item.is) here)
