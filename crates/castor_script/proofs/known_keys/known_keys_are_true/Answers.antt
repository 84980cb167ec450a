use Rattle.castor_script.proofs.KnownKeyLaws.{known_keys_are_true}
use Rattle.castor_script.proofs.known_keys.known_keys_are_true.Goals as goal

pub returns : goal.returns
returns c = known_keys_are_true
