use Rattle.std.proofs.Common.{◌≡◌, ◌<◌, ◌∙◌, ap, map, string_bytes, subst, sym}
use Rattle.sledge_engine.specs.Words.{arguments, check_line, metis_line, slice_line}
use Rattle.sledge_engine.specs.Check.{CheckReply}
use Rattle.sledge_engine.specs.Filter.{FilterReply}
use Rattle.sledge_engine.specs.Metis.{MetisReply}
use Rattle.sledge_engine.specs.Problem.{ProblemReply}
use Rattle.sledge_engine.specs.Replies.{CommandReply}
use Rattle.sledge_engine.specs.inner.Fetches.{outside}
use Rattle.sledge_engine.specs.inner.Shown.{check_shown, metis_shown, slice_shown}
use Rattle.sledge_engine.proofs.Replying.{if_ok_map}
use Rattle.sledge_engine.proofs.Slicing.{slice_below}
use Rattle.sledge_engine.proofs.commands.answer_line.Goals as goal

pub returns-in-Metis : goal.returns-in-Metis
returns-in-Metis g c =
    let shelf = c.args.shelf.now in
    let o = outside (g.H.Shelf.held shelf) (g.H.Shelf.sure shelf) (g.H.Shelf.faults shelf) (g.H.Shelf.faults c.answer_metis.new.shelf) in
    let line = c.args.line.now in
    let words = arguments (map string_bytes c.args.words.now) line in
    let text = c.answer_metis.new.text in
    let asked : metis_shown c.metis_line.result ≡ metis_line line words =
    c.metis_line.ensures ∙ ap (metis_line line) (ap (map (λ w. w.now)) c.as_slice-words.ensures.value ∙ c.in_ok-arguments.ensures) in
    if_ok_map c.answer_metis.result (λ status. MetisReply o (metis_shown c.metis_line.result) status text) (λ status. CommandReply line.command line words o status text)
    (λ status h. subst (λ k. CommandReply k line words o status text) (sym c.in-Metis.is) (subst (λ l. MetisReply o l status text) asked h)) c.answer_metis.ensures

pub returns-in-Check : goal.returns-in-Check
returns-in-Check g c =
    let shelf = c.args.shelf.now in
    let o = outside (g.H.Shelf.held shelf) (g.H.Shelf.sure shelf) (g.H.Shelf.faults shelf) (g.H.Shelf.faults c.answer_check.new.shelf) in
    let line = c.args.line.now in
    let words = arguments (map string_bytes c.args.words.now) line in
    let text = c.answer_check.new.text in
    let asked : check_shown c.check_line.result ≡ check_line words =
    c.check_line.ensures ∙ ap check_line (ap (map (λ w. w.now)) c.as_slice-words.ensures.value ∙ c.in_ok-arguments.ensures) in
    if_ok_map c.answer_check.result (λ status. CheckReply o (check_shown c.check_line.result) status text) (λ status. CommandReply line.command line words o status text)
    (λ status h. subst (λ k. CommandReply k line words o status text) (sym c.in-Check.is) (subst (λ l. CheckReply o l status text) asked h)) c.answer_check.ensures

pub answer_filter-requires-clause-slice : goal.answer_filter-requires-clause-slice
answer_filter-requires-clause-slice g c =
    subst (λ n. n < 64) (sym (ap (λ l. l.slice) c.slice_line.ensures)) (slice_below _ c.args.line.now.slice c.requires.line.slice)

pub returns-in-Filter : goal.returns-in-Filter
returns-in-Filter g c =
    let shelf = c.args.shelf.now in
    let o = outside (g.H.Shelf.held shelf) (g.H.Shelf.sure shelf) (g.H.Shelf.faults shelf) (g.H.Shelf.faults c.answer_filter.new.shelf) in
    let line = c.args.line.now in
    let words = arguments (map string_bytes c.args.words.now) line in
    let text = c.answer_filter.new.text in
    let asked : slice_shown c.slice_line.result ≡ slice_line line words =
    c.slice_line.ensures ∙ ap (slice_line line) (ap (map (λ w. w.now)) c.as_slice-words.ensures.value ∙ c.in_ok-arguments.ensures) in
    if_ok_map c.answer_filter.result (λ status. FilterReply o (slice_shown c.slice_line.result) status text) (λ status. CommandReply line.command line words o status text)
    (λ status h. subst (λ k. CommandReply k line words o status text) (sym c.in-Filter.is) (subst (λ l. FilterReply o l status text) asked h)) c.answer_filter.ensures

pub answer_problem-requires-clause-slice : goal.answer_problem-requires-clause-slice
answer_problem-requires-clause-slice g c =
    subst (λ n. n < 64) (sym (ap (λ l. l.slice) c.slice_line-in-Problem.ensures)) (slice_below _ c.args.line.now.slice c.requires.line.slice)

pub returns-in-Problem : goal.returns-in-Problem
returns-in-Problem g c =
    let shelf = c.args.shelf.now in
    let o = outside (g.H.Shelf.held shelf) (g.H.Shelf.sure shelf) (g.H.Shelf.faults shelf) (g.H.Shelf.faults c.answer_problem.new.shelf) in
    let line = c.args.line.now in
    let words = arguments (map string_bytes c.args.words.now) line in
    let text = c.answer_problem.new.text in
    let asked : slice_shown c.slice_line-in-Problem.result ≡ slice_line line words =
    c.slice_line-in-Problem.ensures ∙ ap (slice_line line) (ap (map (λ w. w.now)) c.as_slice-words.ensures.value ∙ c.in_ok-arguments.ensures) in
    if_ok_map c.answer_problem.result (λ status. ProblemReply o (slice_shown c.slice_line-in-Problem.result) status text) (λ status. CommandReply line.command line words o status text)
    (λ status h. subst (λ k. CommandReply k line words o status text) (sym c.in-Problem.is) (subst (λ l. ProblemReply o l status text) asked h)) c.answer_problem.ensures
