use Rattle.std.proofs.Common.{◌∙◌}
use Rattle.tptp_print.proofs.Numbering.{positions}
use Rattle.tptp_print.proofs.types.TypeNumbers.append.Goals as goal

pub add-requires : goal.add-requires
add-requires c = positions c.self.inside.types c.args.self.now c.self.inside.keys c.args.a c.args.key.items c.self.view_is c.self.invariant c.requires.key ∙ c.requires.new
