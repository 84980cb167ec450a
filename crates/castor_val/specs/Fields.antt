-- The value that a field of text is read as, and the text that a value is printed as.
use Rattle.std.specs.Prelude.{◌≡◌, ℕ, List, true, false, ◌&&◌, Bool, Result, Ok, Err, if◌then◌else◌, nat_le, nat_lt, length}
use Rattle.std.specs.Fmt.{signed_decimal}
use Rattle.std.specs.Str.{all_ascii_digits, bytes_eq, is_utf8}
use Rattle.std.specs.Str.Parse.{true_text, false_text, without_leading_sign, signed_digits_value}
use Rattle.castor_val.specs.Limits.{most_text_bytes}
use Rattle.castor_val.specs.Values.{is_int, value_fits}
use Rattle.castor_val.specs.declared.value.Ty.{Ty}
use Rattle.castor_val.specs.declared.value.Ty.TheVariants as ty
use Rattle.castor_val.specs.declared.value.Value.{Value}
use Rattle.castor_val.specs.declared.value.Value.TheVariants.{Int, Bool as Truth, Text}
use Rattle.castor_val.specs.declared.field.FieldError.{FieldError}
use Rattle.castor_val.specs.declared.field.FieldError.TheVariants.{NotOfType, TooLong}

-- one decimal digit or more, and nothing else
abbrev pub is_numeral : List ℕ → Bool
is_numeral digits = nat_lt 0 (length digits) && all_ascii_digits digits

-- an int field is a numeral after a sign or none, and its number is an int
abbrev pub int_field : List ℕ → Result Value FieldError
int_field bytes = if is_numeral (without_leading_sign bytes) && is_int (signed_digits_value 10 bytes) then Ok (Int (signed_digits_value 10 bytes)) else Err NotOfType

-- a bool field is `true` or `false`
abbrev pub bool_field : List ℕ → Result Value FieldError
bool_field bytes = if bytes_eq bytes true_text then Ok (Truth true) else if bytes_eq bytes false_text then Ok (Truth false) else Err NotOfType

-- a text field is UTF-8 of at most 65,535 bytes
abbrev pub text_field : List ℕ → Result Value FieldError
text_field bytes = if is_utf8 bytes then (if nat_le (length bytes) most_text_bytes then Ok (Text bytes) else Err TooLong) else Err NotOfType

-- the value that a field is read as at a type, or why it is refused
abbrev pub field_value : Ty → List ℕ → Result Value FieldError
field_value ty.Int bytes = int_field bytes
field_value ty.Bool bytes = bool_field bytes
field_value ty.Text bytes = text_field bytes

-- the text that a value is printed as
abbrev pub value_text : Value → List ℕ
value_text (Int z) = signed_decimal z
value_text (Truth true) = true_text
value_text (Truth false) = false_text
value_text (Text t) = t

-- as a field of any type that it fits, a value's text is read as the value
abbrev pub ReadsBack : Value → Type 0
ReadsBack v = (t : Ty) → value_fits v t ≡ true → field_value t (value_text v) ≡ Ok v
