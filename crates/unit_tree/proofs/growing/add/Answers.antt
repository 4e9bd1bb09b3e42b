use Rattle.std.proofs.Common.{◌≡◌, length, arith}
use Rattle.unit_tree.proofs.Rows.{added}
use Rattle.unit_tree.proofs.growing.add.Goals as goal

pub returns-in-Ok-clause-ok : goal.returns-in-Ok-clause-ok
returns-in-Ok-clause-ok c =
    let to : c.len-to.result ≡ length c.args.nodes.now.items = omega (arith, c.len-to.ensures, c.args.nodes.now.ok.0) in (
      to,
      added c.args.nodes.now.items c.add_node.new.nodes.items c.args.at c.len-to.result c.args.token c.index_mut.result.now c.push.new.self c.requires to c.in_ok-add_node.ensures.ok
          c.index_mut.ensures.value c.in-Ok.ensures.ok,
    )
