use Rattle.std.proofs.Common.{map, drop}
use Rattle.castor_code.specs.CodeForms.{code_form, form_in, key_code_form}
use Rattle.castor_code.specs.Forms.{in_turn}
use Rattle.castor_code.proofs.PutLaws.{Continues}
use Rattle.castor_code.proofs.encoding.codes.+put.Given as goal

abbrev pub invariant-put_each-loop-code : goal.invariant-put_each-loop-code
invariant-put_each-loop-code l = Continues (in_turn (map form_in (map code_form (drop l.code-index l.codes)))) (in_turn (map form_in (map code_form l.codes))) l.out.items l.fn.out.items

abbrev pub invariant-put_each_key-loop-code : goal.invariant-put_each_key-loop-code
invariant-put_each_key-loop-code l = Continues (in_turn (map key_code_form (map code_form (drop l.code-index l.key)))) (in_turn (map key_code_form (map code_form l.key))) l.out.items l.fn.out.items
