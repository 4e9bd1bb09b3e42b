use Rattle.std.proofs.Common.{◌∙◌, sym, ap, subst}
use Rattle.hyp_sets.specs.Sets.{set_of}
use Rattle.hyp_sets.specs.inner.Trees.{items, Ascends}
use Rattle.hyp_sets.proofs.Answered.{if_ok_map}
use Rattle.hyp_sets.proofs.Ascending.{removed_ascends, removed_set}
use Rattle.hyp_sets.proofs.uniting.taken_out.Goals as goal

pub returns-clause-ascends : goal.returns-clause-ascends
returns-clause-ascends c =
    if_ok_map c.glued.result _ _ (λ u e. subst Ascends (sym e) (removed_ascends c.args.x.now (items c.args.t.now) (items c.in_ok-cut.cut.before) c.in_ok-cut.cut.held (items c.in_ok-cut.cut.after) c.in_ok-cut.ensures)) c.glued.ensures

pub returns-clause-value : goal.returns-clause-value
returns-clause-value c =
    if_ok_map c.glued.result _ _ (λ u e. ap set_of e ∙ removed_set c.args.x.now (items c.args.t.now) (items c.in_ok-cut.cut.before) c.in_ok-cut.cut.held (items c.in_ok-cut.cut.after) c.in_ok-cut.ensures) c.glued.ensures
