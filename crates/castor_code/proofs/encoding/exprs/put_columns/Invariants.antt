use Rattle.std.proofs.Common.{map, drop}
use Rattle.castor_code.specs.Forms.{in_turn, list_form, u32_form}
use Rattle.castor_code.proofs.PutLaws.{Continues}
use Rattle.castor_code.proofs.encoding.exprs.put_columns.Given as goal

abbrev pub invariant-loop-column : goal.invariant-loop-column
invariant-loop-column l = Continues (in_turn (map u32_form (drop l.column-index l.columns))) (list_form u32_form l.columns) l.out.items l.fn.out.items
