use Rattle.std.proofs.Common.{◌≡◌, [], length, get_or, ap, subst, ◌∙◌}
use Rattle.std.specs.Prelude.{Contains}
use Rattle.unit_tree.specs.inner.Growth.{GrowsBy, grown}
use Rattle.unit_tree.proofs.Rows.{stays_by, grows_as, if_ok}
use Rattle.unit_tree.proofs.growing.follow.Goals as goal

pub returns-in-Some-clause-ok : goal.returns-in-Some-clause-ok
returns-in-Some-clause-ok c =
    stays_by c.args.nodes.now.items c.args.at c.in-Some.to c.args.token c.requires.tree
    (subst (λ l. Contains l (record { token = c.args.token; to = c.in-Some.to })) (c.edges_of.ensures ∙ ap (λ l. get_or l c.args.at []) c.as_slice.ensures.value) c.in-Some.ensures)

pub returns-clause-ok : goal.returns-clause-ok
returns-clause-ok c =
    if_ok c.add.result (λ to. (to ≡ length c.args.nodes.now.items) × (c.add.new.nodes.items ≡ grown c.args.nodes.now.items c.args.at c.args.token))
    (λ to. GrowsBy c.args.nodes.now.items c.add.new.nodes.items c.args.at c.args.token to)
    (λ to h. grows_as c.args.nodes.now.items c.add.new.nodes.items c.args.at to c.args.token c.requires.within c.requires.tree h.0 h.1) c.add.ensures.ok
