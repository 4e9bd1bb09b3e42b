use Rattle.std.proofs.Common.{◌∙◌, sym}
use Rattle.tstp_read.proofs.Maps as maps
use Rattle.tstp_read.proofs.reach.put_key.Goals as goal

pub returns-in-Ok-clause-before : goal.returns-in-Ok-clause-before
returns-in-Ok-clause-before c = c.in-Ok.ensures.old ∙ sym (maps.look-lookup c.args.table.now.entries c.args.key.items)

pub returns-in-Ok-clause-puts : goal.returns-in-Ok-clause-puts
returns-in-Ok-clause-puts c = maps.puts c.args.key c.args.parents c.args.table.now.entries c.in-Ok.ensures.was_ordered c.insert.new.self.entries c.in-Ok.ensures.entries
