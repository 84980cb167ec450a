use Rattle.castor_reader_tests.proofs.comparison.asked.Given as goal

abbrev pub ghosts-asked_by : goal.ghosts-asked_by
ghosts-asked_by a = record { name = a.blank.name; parts = a.blank.parts }
