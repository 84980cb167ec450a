use Rattle.std.proofs.Common.{Bool, ◌∙◌, ap}
use Rattle.castor_alg.specs.Totality.{is_total, total_step}
use Rattle.castor_alg.proofs.OperandLaws.{total_over_operands}
use Rattle.castor_alg.proofs.RelInduction.{fold-Cross, fold-Concat}
use Rattle.castor_alg.proofs.totality.+is_total.Goals as goal

pub is_total-returns-in-Cross : goal.is_total-returns-in-Cross
is_total-returns-in-Cross t c = total_over_operands _ _ _ _ (ap is_total c.in-Cross.is ∙ fold-Cross Bool total_step c.in-Cross.rs) c.as_slice.ensures c.are_all_total.ensures

pub is_total-returns-in-Concat : goal.is_total-returns-in-Concat
is_total-returns-in-Concat t c = total_over_operands _ _ _ _ (ap is_total c.in-Concat.is ∙ fold-Concat Bool total_step c.in-Concat.rs) c.as_slice-in-Concat.ensures c.are_all_total-in-Concat.ensures
