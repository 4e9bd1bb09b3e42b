use Rattle.clause_ring.proofs.tests.picks_in_turn.Given as goal

abbrev pub ghosts-picked : goal.ghosts-picked
ghosts-picked g a = record { name = a.blank.name; parts = a.blank.parts }
