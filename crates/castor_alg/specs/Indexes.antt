-- Look-ups in a hash index and in an ordered index.
use Rattle.std.specs.Prelude.{[], filter, Bool, true, false, ◌&&◌, Result, Ok, Err}
use Rattle.std.specs.List.{list_any}
use Rattle.std.specs.Ordering.{is_lt, is_le, is_gt, is_ge}
use Rattle.castor_val.specs.declared.value.Value.{Value}
use Rattle.castor_val.specs.declared.fault.Faults.{Faults}
use Rattle.castor_val.specs.declared.row.Row.{Row}
use Rattle.castor_val.specs.Values.{column, same_row, value_cmp, union}
use Rattle.castor_alg.specs.declared.out.Out.{Out}
use Rattle.castor_alg.specs.declared.rel.Bound.{Bound}
use Rattle.castor_alg.specs.declared.rel.Bound.TheVariants.{Any, Incl, Excl}
use Rattle.castor_alg.specs.Distinct.{distinct}
use Rattle.castor_alg.specs.Expression.{Answer, expr_value}
use Rattle.castor_alg.specs.Rows.{depjoined}
use Rattle.castor_alg.specs.Scopes.{Scopes}
use Rattle.castor_alg.specs.Sorting.{row_lt, sorted}

-- no rows, and the faults of the source and of what is looked up
abbrev pub refused : Out → Faults → Out
refused r f = record { rows = []; faults = union r.faults f }

-- the body under the key, once, where the source has a row that equals it
abbrev pub found : (Row → Out) → Out → Row → Bool → Out
found body r key true = record { rows = (body key).rows; faults = union r.faults (body key).faults }
found body r key false = record { rows = []; faults = r.faults }

-- the look-up of a row of values
abbrev pub hashed : (Row → Out) → Out → Result Row Faults → Out
hashed body r (Ok key) = found body r key (list_any (same_row key) r.rows)
hashed body r (Err f) = refused r f

-- a test that compares with a value
abbrev pub compares : (Value → Value → Bool) → Answer → Result (Value → Bool) Faults
compares test (Ok limit) = Ok (λ v. test v limit)
compares test (Err f) = Err f

-- which values a lower bound lets in
abbrev pub lower : Bound → Scopes → Row → Result (Value → Bool) Faults
lower Any env params = Ok (λ v. true)
lower (Incl e) env params = compares (λ v limit. is_ge (value_cmp v limit)) (expr_value e [] env params)
lower (Excl e) env params = compares (λ v limit. is_gt (value_cmp v limit)) (expr_value e [] env params)

-- which values an upper bound lets in
abbrev pub upper : Bound → Scopes → Row → Result (Value → Bool) Faults
upper Any env params = Ok (λ v. true)
upper (Incl e) env params = compares (λ v limit. is_le (value_cmp v limit)) (expr_value e [] env params)
upper (Excl e) env params = compares (λ v limit. is_lt (value_cmp v limit)) (expr_value e [] env params)

-- the body under each distinct row that is within the range, ascending
abbrev pub ranged_within : (Value → Bool) → (Row → Out) → Out → Out
ranged_within within body r = depjoined body (record { rows = sorted row_lt (filter (λ a. within (column a 0)) (distinct same_row r.rows)); faults = r.faults })

-- the look-up of a range, between a lower and an upper bound
abbrev pub ranged : (Row → Out) → Out → Result (Value → Bool) Faults → Result (Value → Bool) Faults → Out
ranged body r (Ok from) (Ok to) = ranged_within (λ v. from v && to v) body r
ranged body r (Ok from) (Err f) = refused r f
ranged body r (Err f) (Ok to) = refused r f
ranged body r (Err f) (Err g) = refused r (union f g)
