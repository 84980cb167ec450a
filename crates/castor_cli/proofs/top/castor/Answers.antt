use Rattle.std.proofs.Common.{map, string_bytes}
use Rattle.castor_cli.proofs.Completeness.{completes, stays_filed}
use Rattle.castor_cli.proofs.Headline.{images_mean}
use Rattle.castor_cli.proofs.OneOutcome.{started_not_refused}
use Rattle.castor_cli.proofs.top.castor.Goals as goal

pub returns-clause-complete : goal.returns-clause-complete
returns-clause-complete g c =
    completes _ _ _ _ _ _ _ _ _ _ _ (started_not_refused (map string_bytes c.args.words.now)) (stays_filed _ _ _ _ _ _ c.run-stop.ensures.filed) c.run-stop.ensures.taken c.run-stop.ensures.how

pub returns-clause-meaning : goal.returns-clause-meaning
returns-clause-meaning g c = images_mean
