use Rattle.std.proofs.Common.{false, get_or, refl}
use Rattle.unit_tree.specs.declared.token.Token.TheVariants.{Head}
use Rattle.unit_tree.proofs.Follows.{item_leads, none_more_of}
use Rattle.unit_tree.proofs.tree.is_reached.Goals as goal

pub leads_on-requires-clause-within : goal.leads_on-requires-clause-within
leads_on-requires-clause-within c =
    let edge = get_or c.edges_of-edge-items.result.now c.loop-edge.edge-index (record { token = Head false false; to = 0 }) in
    c.requires.tree.within 0 edge.to edge.token (item_leads c.args.nodes.now 0 c.edges_of-edge-items.result.now c.loop-edge.edge-index (record { token = Head false false; to = 0 }) c.edges_of-edge-items.ensures c.loop-edge-test.true)

pub loop-edge-preserved : goal.loop-edge-preserved
loop-edge-preserved c =
    none_more_of c.args.nodes.now 0 c.edges_of-edge-items.result.now c.loop-edge.edge-index (record { token = Head false false; to = 0 }) c.edges_of-edge-items.ensures c.loop-edge-test.true c.args.positive c.args.equation c.args.cells.now c.leads_on.result refl c.loop-edge.invariant (λ ts row. (c.leads_on.ensures ts row).1) c.if-leads_on.false
