use Rattle.std.proofs.Common.{ℕ, ◌∙◌, ap}
use Rattle.castor_alg.specs.Sizes.{depth, depth_step}
use Rattle.castor_alg.proofs.OperandLaws.{depth_of_operands}
use Rattle.castor_alg.proofs.RelInduction.{fold-Cross, fold-Concat}
use Rattle.castor_alg.proofs.sizes.+depth.Goals as goal

pub depth-returns-in-Cross : goal.depth-returns-in-Cross
depth-returns-in-Cross t c = depth_of_operands _ _ _ _ _ (ap depth c.in-Cross.is ∙ fold-Cross ℕ depth_step c.in-Cross.rs) c.as_slice.ensures c.depth_of_all.ensures c.level_over-in-Cross.ensures

pub depth-returns-in-Concat : goal.depth-returns-in-Concat
depth-returns-in-Concat t c = depth_of_operands _ _ _ _ _ (ap depth c.in-Concat.is ∙ fold-Concat ℕ depth_step c.in-Concat.rs) c.as_slice-in-Concat.ensures c.depth_of_all-in-Concat.ensures c.level_over-in-Concat.ensures
