-- The phases that borrowed binders stand for.
use Rattle.castor_stage.specs.declared.binders.Binders.{Binders}
use Rattle.castor_stage.specs.declared.binders.Binders.TheVariants.{Outside, Bind'}
use Rattle.castor_alg.specs.Stages.{Phases, bind_phase, no_phases}

-- the phases of the scopes within the binders
abbrev pub phases_of : Binders → Phases
phases_of Outside = no_phases
phases_of (Bind' k phase p outer) = bind_phase (phases_of outer) k phase
