use Rattle.std.proofs.Common.{◌≡◌, Ok, map, take}
use Rattle.castor_stage.specs.Binders.{phases_of}
use Rattle.castor_alg.specs.Stages.{in_turn, stage_under}
use Rattle.castor_stage.proofs.staging.+walk.Given as goal

abbrev pub invariant-walk_all-loop-r : goal.invariant-walk_all-loop-r
invariant-walk_all-loop-r l = in_turn (map (λ r. stage_under r l.phase (phases_of l.scopes)) (take l.r-index l.rs)) ≡ Ok tt
