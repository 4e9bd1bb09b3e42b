use Rattle.std.proofs.Common.{[], ◌∷◌, subst}
use Rattle.fo_unify.specs.Shown.{as_binds}
use Rattle.fo_infer.specs.inner.Covering.{Covers}
use Rattle.fo_infer.proofs.Parting.{one_sends}
use Rattle.fo_infer.proofs.subsuming.sends_one.Goals as goal

pub returns : goal.returns
returns c =
    one_sends c.args.d.now (c.args.l.now ∷ []) c.in_ok-made.made
    (subst (λ bs. Covers (as_binds bs) c.args.d.now (c.args.l.now ∷ []) c.in_ok-made.made) c.begin-binds.ensures c.in_ok-made.ensures.covers)
