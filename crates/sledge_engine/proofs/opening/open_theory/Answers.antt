use Rattle.sledge_engine.specs.inner.Fetches.{outside}
use Rattle.sledge_engine.specs.Files.{most_theory_bytes}
use Rattle.sledge_engine.proofs.Fetched.{is_short}
use Rattle.sledge_engine.proofs.opening.open_theory.Goals as goal

pub open_fetched-requires-clause-short : goal.open_fetched-requires-clause-short
open_fetched-requires-clause-short g c =
    let shelf = c.args.shelf.now in
    is_short (outside (g.H.Shelf.held shelf) (g.H.Shelf.sure shelf) (g.H.Shelf.faults shelf) (g.H.Shelf.faults c.fetch_file.new.shelf)) c.args.name.now
    most_theory_bytes c.in_ok-fetched.fetched c.in_ok-fetched.ensures.file
