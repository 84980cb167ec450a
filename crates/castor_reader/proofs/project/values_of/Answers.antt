use Rattle.castor_eval.proofs.AnswerLaws.{expr_values-step}
use Rattle.castor_reader.proofs.project.values_of.Goals as goal

pub loop-e-preserved : goal.loop-e-preserved
loop-e-preserved c = expr_values-step _ _ _ _ _ _ _ _ _ c.loop-e-test.true c.e-item.is c.loop-e.invariant c.value.ensures c.in_ok-answer.ensures
