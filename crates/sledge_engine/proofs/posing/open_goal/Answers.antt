use Rattle.std.proofs.Common.{ℕ, List, subst}
use Rattle.sledge_engine.specs.Files.{HoldsTheory, Outside}
use Rattle.sledge_engine.specs.Goals.{no_theory}
use Rattle.sledge_engine.specs.inner.Fetches.{IsOpened, outside}
use Rattle.sledge_engine.specs.inner.Posing.{IsPosed}
use Rattle.sledge_engine.proofs.Replying.{if_ok_map}
use Rattle.sledge_engine.proofs.posing.open_goal.Goals as goal

pub returns-in-Read : goal.returns-in-Read
returns-in-Read g c =
    let shelf = c.args.shelf.now in
    let o = outside (g.H.Shelf.held shelf) (g.H.Shelf.sure shelf) (g.H.Shelf.faults shelf) (g.H.Shelf.faults c.open_theory.new.shelf) in
    let file = c.args.theory.now in
    let name = c.args.name.now in
    let text = c.pose.new.text in
    let opened = subst (IsOpened o file c.open_theory.new.text) c.in-Read.is c.in_ok-theory.ensures.opened in
    if_ok_map c.pose.result (λ posed. (o : Outside) (file : List ℕ) → HoldsTheory o.files file c.in-Read.theory → IsPosed o file name text posed)
    (IsPosed o file name text) (λ posed h. h o file opened.0) c.pose.ensures

pub returns-in-Refused : goal.returns-in-Refused
returns-in-Refused g c =
    let shelf = c.args.shelf.now in
    let o = outside (g.H.Shelf.held shelf) (g.H.Shelf.sure shelf) (g.H.Shelf.faults shelf) (g.H.Shelf.faults c.open_theory.new.shelf) in
    no_theory c.in-Refused.status c.open_theory.new.text (subst (IsOpened o c.args.theory.now c.open_theory.new.text) c.in-Refused.is c.in_ok-theory.ensures.opened)
