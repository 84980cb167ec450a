use Rattle.castor_cli.proofs.asking.ask_file.Goals as goal

pub returns-clause-how : goal.returns-clause-how
returns-clause-how g c = λ query script. rw c.new.ensures.status (c.ask_status-status.ensures.how query script _)
