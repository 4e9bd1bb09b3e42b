use Rattle.std.proofs.Common.{◌∙◌, ap, ◌∷◌, ◌++◌, [], append_assoc}
use Rattle.tstp_read.specs.inner.Table.{table_of}
use Rattle.tstp_read.proofs.Searching as searching
use Rattle.tstp_read.proofs.reach.build_table.Goals as goal

pub entries-preserved : goal.entries-preserved
entries-preserved c = (
  c.in-Some.entry ∷ c.entries.invariant.0,
  c.entries.invariant.1 ∙ ap (λ xs. xs ++ c.entries.invariant.0) c.in-Some.ensures ∙ append_assoc c.pop.new.self (c.in-Some.entry ∷ []) c.entries.invariant.0,
  searching.noted c.entries.invariant.0 (table_of c.entries.table) (table_of c.note.new.table) c.in-Some.entry c.entries.invariant.2 c.in_ok-note.ensures,
)
