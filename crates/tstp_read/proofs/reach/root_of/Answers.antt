use Rattle.std.proofs.Common.{◌∙◌, sym, ap, subst}
use Rattle.std.proofs.lemmas.List.{take_all}
use Rattle.std.proofs.lemmas.Option.{get_or_from_slice_get}
use Rattle.tstp_read.specs.inner.Leaves.{HasNoRoot}
use Rattle.tstp_read.proofs.Searching as searching
use Rattle.tstp_read.proofs.reach.root_of.Goals as goal

pub returns-then-entry-clause-root : goal.returns-then-entry-clause-root
returns-then-entry-clause-root c = λ e is. searching.root_at c.args.entries.now c.loop-at.at e c.loop-at.invariant c.loop-at-test.true is
    (searching.refutes_at c.args.entries.now c.loop-at.at e c.index-entries-at.result is c.index-entries-at.is c.if-entry.true)

pub returns-clause-root : goal.returns-clause-root
returns-clause-root c = subst HasNoRoot (take_all c.loop-at.at c.args.entries.now c.loop-at-test.false) c.loop-at.invariant
