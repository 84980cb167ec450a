use Rattle.std.proofs.Common.{◌≡◌, Ok, map, take}
use Rattle.castor_stage.specs.Binders.{phases_of}
use Rattle.castor_alg.specs.Stages.{expr_stage, in_turn}
use Rattle.castor_stage.proofs.staging.walk_exprs.Given as goal

abbrev pub invariant-loop-e : goal.invariant-loop-e
invariant-loop-e l = in_turn (map (λ e. expr_stage e l.phase (phases_of l.scopes)) (take l.e-index l.es)) ≡ Ok tt
