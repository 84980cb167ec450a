use Rattle.std.proofs.Common.{map, drop}
use Rattle.castor_code.specs.CodeForms.{expr_form}
use Rattle.castor_code.specs.Forms.{in_turn}
use Rattle.castor_code.proofs.PutLaws.{Continues}
use Rattle.castor_code.proofs.encoding.exprs.put_exprs.Given as goal

abbrev pub invariant-loop-e : goal.invariant-loop-e
invariant-loop-e l = Continues (in_turn (map expr_form (drop l.e-index l.es))) (in_turn (map expr_form l.es)) l.out.items l.fn.out.items
