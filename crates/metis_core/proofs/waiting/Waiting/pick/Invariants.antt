use Rattle.metis_core.proofs.waiting.Waiting.pick.Given as goal

abbrev pub ghosts-take : goal.ghosts-take
ghosts-take a = record { name = a.blank.name; parts = a.blank.parts }
