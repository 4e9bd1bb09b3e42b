use Rattle.std.specs.Prelude.{[], slice_get}
use Rattle.race_outside.specs.Memory.{told_of}
use Rattle.race_board.proofs.tests.driver.race_over.Given as goal

abbrev pub ghosts-play-N-Ledger : goal.ghosts-play-N-Ledger
ghosts-play-N-Ledger a = record { name = a.blank.name; parts = a.blank.parts }

abbrev pub ghosts-play-N-Name : goal.ghosts-play-N-Name
ghosts-play-N-Name a = record {
  terms = record {
    key = [];
    orders = a.orders;
    limit = a.limit;
    children = λ id. told_of (slice_get a.launcher.children id);
    first = a.launcher.standing;
  };
}
