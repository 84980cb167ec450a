-- The rule `store`: a relation becomes a list of its rows, in which each value is a scalar.
use Rattle.std.specs.Prelude.{ℕ, List, map, Result, Ok, Err}
use Rattle.castor_val.specs.declared.value.Ty.{Ty}
use Rattle.castor_alg.specs.declared.context.Context.{Context}
use Rattle.castor_alg.specs.declared.rel.Rel.{Rel, Scalar, Cross, List as Listed}
use Rattle.castor_alg.specs.declared.step.Arg.{Arg}
use Rattle.castor_alg.specs.declared.step.Arg.TheVariants.{Nothing, Pred}
use Rattle.castor_alg.specs.declared.rule_error.RuleError.{RuleError}
use Rattle.castor_alg.specs.declared.rule_error.RuleError.TheVariants.{BadArgument}
use Rattle.castor_alg.specs.ColumnCount.{column_count}
use Rattle.castor_nest.specs.ScopeColumns.{scope_columns}

-- list(q as k, cross(scalar(k.0), .., scalar(k.n))), where k.n is the last column of q
abbrev pub stored : List (List Ty) → ℕ → Rel → Rel
stored tables k q = Listed k q (Cross (map Scalar (scope_columns k (column_count tables q))))

-- every relation can be stored; an argument has no place
abbrev pub store_row : Arg → ℕ → Context → Rel → Result Rel RuleError
store_row Nothing fresh types q = Ok (stored types.tables fresh q)
store_row (Pred e) fresh types q = Err BadArgument
