use Rattle.std.proofs.Common.{◌∙◌, sym}
use Rattle.tstp_read.proofs.Cutting.{plain_unescaped}
use Rattle.tstp_read.proofs.statements.take_quoted.Goals as goal

pub returns-else-contains : goal.returns-else-contains
returns-else-contains c = rw (plain_unescaped c.args.inner.now (sym c.contains.ensures.value ∙ c.if-contains.false)) c.take-else-contains.ensures
