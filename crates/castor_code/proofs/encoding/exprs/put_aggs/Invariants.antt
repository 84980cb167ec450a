use Rattle.std.proofs.Common.{map, drop}
use Rattle.castor_code.specs.CodeForms.{agg_form}
use Rattle.castor_code.specs.Forms.{in_turn, list_form}
use Rattle.castor_code.proofs.PutLaws.{Continues}
use Rattle.castor_code.proofs.encoding.exprs.put_aggs.Given as goal

abbrev pub invariant-loop-agg : goal.invariant-loop-agg
invariant-loop-agg l = Continues (in_turn (map agg_form (drop l.agg-index l.aggs))) (list_form agg_form l.aggs) l.out.items l.fn.out.items
