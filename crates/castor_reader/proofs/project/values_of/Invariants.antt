use Rattle.std.proofs.Common.{◌≡◌, map, take}
use Rattle.castor_val.specs.Values.{value_of}
use Rattle.castor_alg.specs.Expression.{expr_values}
use Rattle.castor_alg.specs.Scopes.{scopes_of}
use Rattle.castor_reader.specs.Answers.{row_of}
use Rattle.castor_reader.proofs.project.values_of.Given as goal

abbrev pub invariant-loop-e : goal.invariant-loop-e
invariant-loop-e l = row_of l.answer ≡ expr_values (take l.e-index l.es) (map value_of l.row) (scopes_of l.env) (map value_of l.params)
