use Rattle.std.proofs.Common.{◌∙◌, ap}
use Rattle.std.specs.List.{list_all}
use Rattle.hyp_sets.specs.Sets.{absent, absent_in}
use Rattle.hyp_sets.specs.inner.Trees.{items}
use Rattle.hyp_sets.proofs.Members.{all_in_set_of}
use Rattle.hyp_sets.proofs.hyps.Hyps.lacks.Goals as goal

pub returns : goal.returns
returns c =
    let p = absent_in c.args.n c.args.ty.now in
    c.none_has.ensures ∙ ap (λ z. list_all p (items z)) c.get.ensures ∙ all_in_set_of p (items c.self.inside.tree) ∙ ap (absent c.args.n c.args.ty.now) c.self.view_is
