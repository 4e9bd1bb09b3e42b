use Rattle.std.proofs.Common.{arith}
use Rattle.fo_unify.proofs.Agreeing.{heads_apart}
use Rattle.fo_unify.proofs.solving.heads_clash.Goals as goal

pub returns-then-len : goal.returns-then-len
returns-then-len c = λ told v e.
    heads_apart v c.args.s.now c.args.t.now c.in-Fun-Fun.f c.in-Fun-Fun.g c.in-Fun-Fun.xs c.in-Fun-Fun.ys c.in-Fun-Fun.is-0 c.in-Fun-Fun.is-1 (λ l. omega arith) e
