use Rattle.std.proofs.Common.{◌∙◌}
use Rattle.tstp_print.proofs.marking.cited_marks.Goals as goal

pub loop-n-preserved : goal.loop-n-preserved
loop-n-preserved c = record {
  count = c.mark_cited.ensures.count ∙ c.loop-n.invariant.count;
  marks = c.mark_cited.ensures.marks;
}
