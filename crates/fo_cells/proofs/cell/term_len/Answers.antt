use Rattle.std.proofs.Common.{ap, sym, ◌∙◌}
use Rattle.fo_cells.specs.inner.Seen.{first_len}
use Rattle.fo_cells.proofs.Terms.{front_len}
use Rattle.fo_cells.proofs.cell.term_len.Goals as goal

pub returns : goal.returns
returns c = λ t rest is. c.front_len.ensures ∙ ap first_len (sym is) ∙ front_len t rest
