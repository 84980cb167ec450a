-- What total expressions and relations give.
use Rattle.std.specs.Prelude.{◌≡◌, List, true, Result, Ok}
use Rattle.castor_val.specs.declared.row.Row.{Row}
use Rattle.castor_val.specs.declared.table.Table.{Table}
use Rattle.castor_val.specs.declared.fault.Faults.{Faults}
use Rattle.castor_val.specs.Values.{no_faults}
use Rattle.castor_alg.specs.declared.expr.Expr.{Expr}
use Rattle.castor_alg.specs.declared.rel.Rel.{Rel}
use Rattle.castor_alg.specs.Expression.{expr_value}
use Rattle.castor_alg.specs.Meaning.{meaning}
use Rattle.castor_alg.specs.Scopes.{Scopes}
use Rattle.castor_alg.specs.Totality.{is_total, is_total_expr}

-- an answer that is no fault
abbrev pub HasValue : {X : Type 0} → Result X Faults → Type 0
HasValue {X} answer = (x : X) × (answer ≡ Ok x)

-- if the expression is total, it has a value everywhere
abbrev pub GivesValue : Expr → Type 0
GivesValue e = is_total_expr e ≡ true → (row : Row) (env : Scopes) (params : Row) → HasValue (expr_value e row env params)

-- if the relation is total, it has no faults anywhere
abbrev pub GivesNoFaults : Rel → Type 0
GivesNoFaults q = is_total q ≡ true → (tables : List Table) (env : Scopes) (params : Row) → (meaning q tables env params).faults ≡ no_faults
