use Rattle.std.proofs.Common.{◌≡◌, ◌∙◌, suc, ◌-◌, length, sym, ap, arith}
use Rattle.tstp_print.specs.inner.Marking.{all_marked}
use Rattle.tstp_print.proofs.Marks.{step_length}
use Rattle.tstp_print.proofs.marking.mark_all.Goals as goal

pub down-preserved : goal.down-preserved
down-preserved c =
    let lines = c.args.lines.now in
    let next : c.down.n ≡ suc (c.down.n - 1) = omega arith in
    record {
      within = omega arith;
      count = ap length c.mark_line.ensures ∙ step_length lines c.requires.drawn (c.down.n - 1) c.down.marks ∙ c.down.invariant.count;
      marked = ap (all_marked lines (c.down.n - 1)) c.mark_line.ensures ∙ sym (ap (λ n. all_marked lines n c.down.marks) next) ∙ c.down.invariant.marked;
    }
