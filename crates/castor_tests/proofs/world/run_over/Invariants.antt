use Rattle.castor_tests.proofs.world.run_over.Given as goal

abbrev pub ghosts-castor_uncounted : goal.ghosts-castor_uncounted
ghosts-castor_uncounted a = record { name = a.blank.name; parts = a.blank.parts }
