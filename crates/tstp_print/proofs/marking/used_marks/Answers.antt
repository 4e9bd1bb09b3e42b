use Rattle.std.proofs.Common.{◌≡◌, ◌∙◌, ◌-◌, List, Bool, true, false, length, ap}
use Rattle.std.specs.Prelude.{slice_set, replicate}
use Rattle.std.proofs.lemmas.List.{length-replicate}
use Rattle.tstp_print.specs.inner.Marking.{all_marked, last_marked}
use Rattle.tstp_print.proofs.Marks.{are_used}
use Rattle.tstp_print.proofs.marking.used_marks.Goals as goal

pub returns : goal.returns
returns c =
    let lines = c.args.lines.now in
    let first : c.in_ok-marks.marks ≡ replicate (length lines) false = c.in_ok-marks.ensures in
    let count : length c.in_ok-marks.marks ≡ length lines = ap length first ∙ length-replicate (length lines) false in
    let last : c.mark_last.new.marks ≡ last_marked (length lines) =
    c.mark_last.ensures ∙ ap (λ n. slice_set c.in_ok-marks.marks (n - 1) true) count ∙ ap (λ (ms : List Bool). slice_set ms (length lines - 1) true) first in
    are_used lines c.requires c.mark_all.new.marks (c.mark_all.ensures ∙ ap (all_marked lines (length lines)) last)
