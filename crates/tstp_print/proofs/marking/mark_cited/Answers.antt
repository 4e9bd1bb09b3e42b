use Rattle.std.proofs.Common.{◌≡◌, ◌∙◌, ◌+◌, get_or, length, true, false, sym, ap, subst}
use Rattle.std.specs.Prelude.{Some, slice_get}
use Rattle.std.proofs.lemmas.Option.{get_or_from_slice_get, slice_get-get_or}
use Rattle.tstp_print.specs.inner.Marking.{is_marked, AreCitedMarks}
use Rattle.tstp_print.proofs.Citing.{cited, source_length}
use Rattle.tstp_print.proofs.marking.mark_cited.Goals as goal

pub returns-clause-count : goal.returns-clause-count
returns-clause-count c =
    ap length c.mark_source.ensures ∙ source_length c.args.sources.now (get_or c.args.lines.now c.args.n c.index-lines-n.result).origin c.args.marks.now

pub returns-clause-marks : goal.returns-clause-marks
returns-clause-marks c =
    let lines = c.args.lines.now in
    let used = c.args.used.now in
    let line = get_or lines c.args.n c.index-lines-n.result in
    let is : slice_get lines c.args.n ≡ Some line = slice_get-get_or lines c.args.n c.index-lines-n.result c.requires.place in
    let on : is_marked used c.args.n ≡ true = get_or_from_slice_get used c.args.n true false (c.at.ensures ∙ ap Some c.if-not-at.false) in
    subst (AreCitedMarks c.args.sources.now lines used (c.args.n + 1)) (sym c.mark_source.ensures)
    (cited c.args.sources.now lines used c.args.n line c.args.marks.now on is (c.requires.sources c.args.n line is) c.requires.before)
