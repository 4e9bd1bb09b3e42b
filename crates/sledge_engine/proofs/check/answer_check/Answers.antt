use Rattle.std.proofs.Common.{subst}
use Rattle.sledge_engine.specs.Check.{CheckReply, ProofFileReply, no_theory, over}
use Rattle.sledge_engine.specs.inner.Fetches.{IsOpened, outside}
use Rattle.sledge_engine.specs.inner.Shown.{check_shown}
use Rattle.sledge_engine.proofs.Replying.{if_ok_map}
use Rattle.sledge_engine.proofs.Sooner.{sooner}
use Rattle.sledge_engine.proofs.check.answer_check.Goals as goal

pub returns-in-Read : goal.returns-in-Read
returns-in-Read g c =
    let held = g.H.Shelf.held in
    let sure = g.H.Shelf.sure in
    let faults = g.H.Shelf.faults in
    let shelf = c.args.shelf.now in
    let then = c.open_theory.new.shelf in
    let later = c.answer_proof_file.new.shelf in
    let line = check_shown c.args.line in
    let text = c.answer_proof_file.new.text in
    let t = c.in-Read.theory in
    let opened = subst (IsOpened (outside (held shelf) (sure shelf) (faults shelf) (faults then)) line.theory c.open_theory.new.text) c.in-Read.is c.in_ok-theory.ensures.opened in
    if_ok_map c.answer_proof_file.result (λ status. ProofFileReply (outside (held then) (sure then) (faults then) (faults later)) t line.proof status text)
    (λ status. CheckReply (outside (held shelf) (sure shelf) (faults shelf) (faults later)) line status text)
    (λ status h. over t status text opened.0
    (sooner (held shelf) (held then) (sure shelf) (sure then) (faults shelf) (faults then) (faults later) t line.proof status text
    c.in_ok-theory.ensures.held c.in_ok-theory.ensures.sure c.in_ok-theory.ensures.later h))
    c.answer_proof_file.ensures

pub returns-in-Refused : goal.returns-in-Refused
returns-in-Refused g c =
    let shelf = c.args.shelf.now in
    let o = outside (g.H.Shelf.held shelf) (g.H.Shelf.sure shelf) (g.H.Shelf.faults shelf) (g.H.Shelf.faults c.open_theory.new.shelf) in
    let line = check_shown c.args.line in
    let text = c.open_theory.new.text in
    no_theory c.in-Refused.status text (subst (IsOpened o line.theory text) c.in-Refused.is c.in_ok-theory.ensures.opened)
