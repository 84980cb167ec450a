use Rattle.std.proofs.Common.{Bool, ◌∙◌, ap}
use Rattle.castor_alg.specs.FreeScopes.{is_free, free_step}
use Rattle.castor_alg.proofs.OperandLaws.{free_in_operands}
use Rattle.castor_alg.proofs.RelInduction.{fold-Cross, fold-Concat}
use Rattle.castor_alg.proofs.free_scopes.+is_free.Goals as goal

pub is_free-returns-in-Cross : goal.is_free-returns-in-Cross
is_free-returns-in-Cross t c = free_in_operands _ _ _ _ _ (ap (is_free c.args.scope) c.in-Cross.is ∙ fold-Cross Bool (free_step c.args.scope) c.in-Cross.rs) c.as_slice.ensures c.is_free_in_any.ensures

pub is_free-returns-in-Concat : goal.is_free-returns-in-Concat
is_free-returns-in-Concat t c = free_in_operands _ _ _ _ _ (ap (is_free c.args.scope) c.in-Concat.is ∙ fold-Concat Bool (free_step c.args.scope) c.in-Concat.rs) c.as_slice-in-Concat.ensures c.is_free_in_any-in-Concat.ensures
