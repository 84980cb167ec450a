use Rattle.std.proofs.Common.{◌∙◌, sym, ap}
use Rattle.castor_alg.specs.declared.rel.Rel.{Rel}
use Rattle.castor_alg.proofs.RelInduction.{fold-Cross, fold-Concat}
use Rattle.castor_stage.specs.Binders.{phases_of}
use Rattle.castor_alg.specs.Stages.{Staging, stage_step, stage_under}
use Rattle.castor_stage.proofs.WalkLaws.{over_operands, turn-ends, turn-more}
use Rattle.castor_stage.proofs.staging.+walk.Goals as goal

pub walk-returns-in-Cross : goal.walk-returns-in-Cross
walk-returns-in-Cross t c =
    over_operands _ c.args.phase (phases_of c.args.scopes.now) _ _ _
    (ap (λ (q : Rel). stage_under q c.args.phase (phases_of c.args.scopes.now)) c.in-Cross.is ∙ ap (λ (m : Staging). m c.args.phase (phases_of c.args.scopes.now)) (fold-Cross Staging stage_step c.in-Cross.rs))
    c.as_slice.ensures c.walk_all.ensures

pub walk-returns-in-Concat : goal.walk-returns-in-Concat
walk-returns-in-Concat t c =
    over_operands _ c.args.phase (phases_of c.args.scopes.now) _ _ _
    (ap (λ (q : Rel). stage_under q c.args.phase (phases_of c.args.scopes.now)) c.in-Concat.is ∙ ap (λ (m : Staging). m c.args.phase (phases_of c.args.scopes.now)) (fold-Concat Staging stage_step c.in-Concat.rs))
    c.as_slice-in-Concat.ensures c.walk_all-in-Concat.ensures

pub walk_all-returns-in-Err : goal.walk_all-returns-in-Err
walk_all-returns-in-Err t c =
    sym (turn-ends (λ (r : Rel). stage_under r c.args.phase (phases_of c.args.scopes.now)) c.args.rs.now c.loop-r.r-index c.r-item.result c.in-Err.why c.loop-r-test.true c.r-item.is c.loop-r.invariant (sym c.in-Err.ensures))

pub walk_all-loop-r-preserved : goal.walk_all-loop-r-preserved
walk_all-loop-r-preserved t c =
    turn-more (λ (r : Rel). stage_under r c.args.phase (phases_of c.args.scopes.now)) c.args.rs.now c.loop-r.r-index c.r-item.result c.loop-r-test.true c.r-item.is c.loop-r.invariant (sym c.in-Ok.ensures)
