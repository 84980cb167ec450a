-- Limits of a range, with their values.
use Rattle.std.specs.Prelude.{Bool, true, Result, Ok, Err}
use Rattle.std.specs.Ordering.{is_lt, is_le, is_gt, is_ge}
use Rattle.castor_val.specs.declared.value.Value.{Value}
use Rattle.castor_val.specs.declared.fault.Faults.{Faults}
use Rattle.castor_val.specs.Values.{value_cmp, value_of}
use Rattle.castor_eval.specs.declared.limits.Limit.{Limit}
use Rattle.castor_eval.specs.declared.limits.Limit.TheVariants.{Any, Incl, Excl}

-- whether a lower limit lets a value in
abbrev pub above : Limit → Value → Bool
above Any v = true
above (Incl limit) v = is_ge (value_cmp v (value_of limit))
above (Excl limit) v = is_gt (value_cmp v (value_of limit))

-- whether an upper limit lets a value in
abbrev pub below : Limit → Value → Bool
below Any v = true
below (Incl limit) v = is_le (value_cmp v (value_of limit))
below (Excl limit) v = is_lt (value_cmp v (value_of limit))

-- the test of a lower limit, or the faults of its value
abbrev pub lower_of : Result Limit Faults → Result (Value → Bool) Faults
lower_of (Ok limit) = Ok (λ v. above limit v)
lower_of (Err f) = Err f

-- the test of an upper limit, or the faults of its value
abbrev pub upper_of : Result Limit Faults → Result (Value → Bool) Faults
upper_of (Ok limit) = Ok (λ v. below limit v)
upper_of (Err f) = Err f
