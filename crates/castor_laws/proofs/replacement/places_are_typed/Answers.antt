use Rattle.castor_laws.proofs.PlaceTypingLaws.{typed_at}
use Rattle.castor_laws.proofs.replacement.places_are_typed.Goals as goal

pub returns : goal.returns
returns c = typed_at
