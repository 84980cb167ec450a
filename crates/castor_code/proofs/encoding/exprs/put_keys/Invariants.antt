use Rattle.std.proofs.Common.{map, drop}
use Rattle.castor_code.specs.CodeForms.{key_form, some_form}
use Rattle.castor_code.specs.Forms.{in_turn}
use Rattle.castor_code.proofs.PutLaws.{Continues}
use Rattle.castor_code.proofs.encoding.exprs.put_keys.Given as goal

abbrev pub invariant-loop-key : goal.invariant-loop-key
invariant-loop-key l = Continues (in_turn (map key_form (drop l.key-index l.keys))) (some_form key_form l.keys) l.out.items l.fn.out.items
