use Rattle.castor_tests.proofs.calls.line.Given as goal

abbrev pub ghosts-line_by : goal.ghosts-line_by
ghosts-line_by a = record { name = a.blank.name; parts = a.blank.parts }
