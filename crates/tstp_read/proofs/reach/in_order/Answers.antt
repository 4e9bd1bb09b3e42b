use Rattle.std.proofs.Common.{sym, ap, ◌++◌}
use Rattle.tstp_read.specs.inner.Table.{names_of}
use Rattle.tstp_read.proofs.Maps as maps
use Rattle.tstp_read.proofs.reach.in_order.Goals as goal

pub names-init : goal.names-init
names-init c = (ap (λ xs. xs ++ names_of c.args.names) (sym c.in-Ok.ensures.items), maps.names_ascend c.args.names.keys c.len.ensures.ordered)
