use Rattle.race_run.proofs.whole.run_race.Given as goal

abbrev pub ghosts-run_named-N-Ledger : goal.ghosts-run_named-N-Ledger
ghosts-run_named-N-Ledger g a = record { name = a.blank.name; parts = a.blank.parts }

abbrev pub ghosts-run_named-N-Name : goal.ghosts-run_named-N-Name
ghosts-run_named-N-Name g a = record {
  terms = record {
    key = g.W.Work.key a.job.now;
    orders = a.orders;
    limit = a.limit;
    children = g.L.Launcher.children a.launcher;
    first = g.L.Launcher.standing a.launcher;
  };
}
