use Rattle.std.proofs.Common.{◌∙◌, sym, ap}
use Rattle.tstp_read.specs.inner.Table.{look, listed, entries_table, table_of}
use Rattle.tstp_read.proofs.Maps as maps
use Rattle.tstp_read.proofs.reach.taken.Goals as goal

pub returns-in-Some-clause-value : goal.returns-in-Some-clause-value
returns-in-Some-clause-value c =
    ap listed (c.in-Some.ensures.value ∙ sym (maps.look-lookup c.args.table.now.entries c.as_slice.result.now) ∙ ap (look (table_of c.args.table.now)) c.as_slice.ensures)

pub returns-in-Some-clause-others : goal.returns-in-Some-clause-others
returns-in-Some-clause-others c = λ m apart.
    ap (λ es. look (entries_table es) m) c.in-Some.ensures.entries
    ∙ maps.taken_others c.as_slice.result.now c.args.table.now.entries m (λ i. apart (i ∙ c.as_slice.ensures))

pub returns-in-None-clause-value : goal.returns-in-None-clause-value
returns-in-None-clause-value c =
    c.begin.ensures ∙ ap listed (c.in-None.ensures.value ∙ sym (maps.look-lookup c.args.table.now.entries c.as_slice.result.now) ∙ ap (look (table_of c.args.table.now)) c.as_slice.ensures)
