use Rattle.std.proofs.Common.{sym, subst, IsTrue, ◌↔◌}
use Rattle.fo_terms.specs.Substitution.{put}
use Rattle.fo_unify.specs.Lookup.{term_of}
use Rattle.fo_order.specs.Counts.{Covers}
use Rattle.fo_order.proofs.Covering.{covers_is}
use Rattle.fo_infer.proofs.counting.covered.Goals as goal

pub returns : goal.returns
returns c =
    let s = put (term_of c.args.unifier.now) c.args.s.now in
    let t = put (term_of c.args.unifier.now) c.args.t.now in
    subst (λ b. IsTrue b ↔ Covers s t) (sym c.covered_by.ensures) (covers_is s t)
