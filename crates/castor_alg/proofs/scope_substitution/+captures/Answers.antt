use Rattle.std.proofs.Common.{Bool, ◌∙◌, ap}
use Rattle.castor_alg.specs.Substitution.{captures, captures_step}
use Rattle.castor_alg.proofs.OperandLaws.{captures_in_operands}
use Rattle.castor_alg.proofs.RelInduction.{fold-Cross, fold-Concat}
use Rattle.castor_alg.proofs.scope_substitution.+captures.Goals as goal

pub captures-returns-in-Cross : goal.captures-returns-in-Cross
captures-returns-in-Cross t c = captures_in_operands _ _ _ _ _ _ (ap (captures c.args.scope c.args.by.now) c.in-Cross.is ∙ fold-Cross Bool (captures_step c.args.scope c.args.by.now) c.in-Cross.rs) c.as_slice.ensures c.any_captures.ensures

pub captures-returns-in-Concat : goal.captures-returns-in-Concat
captures-returns-in-Concat t c = captures_in_operands _ _ _ _ _ _ (ap (captures c.args.scope c.args.by.now) c.in-Concat.is ∙ fold-Concat Bool (captures_step c.args.scope c.args.by.now) c.in-Concat.rs) c.as_slice-in-Concat.ensures c.any_captures-in-Concat.ensures
