use Rattle.std.proofs.Common.{sym}
use Rattle.castor_alg.specs.declared.expr.Expr.{Expr}
use Rattle.castor_stage.specs.Binders.{phases_of}
use Rattle.castor_alg.specs.Stages.{expr_stage}
use Rattle.castor_stage.proofs.WalkLaws.{turn-ends, turn-more}
use Rattle.castor_stage.proofs.staging.walk_exprs.Goals as goal

pub returns-in-Err : goal.returns-in-Err
returns-in-Err c =
    sym (turn-ends (λ (e : Expr). expr_stage e c.args.phase (phases_of c.args.scopes.now)) c.args.es.now c.loop-e.e-index c.e-item.result c.in-Err.why c.loop-e-test.true c.e-item.is c.loop-e.invariant (sym c.in-Err.ensures))

pub loop-e-preserved : goal.loop-e-preserved
loop-e-preserved c =
    turn-more (λ (e : Expr). expr_stage e c.args.phase (phases_of c.args.scopes.now)) c.args.es.now c.loop-e.e-index c.e-item.result c.loop-e-test.true c.e-item.is c.loop-e.invariant (sym c.in-Ok.ensures)
