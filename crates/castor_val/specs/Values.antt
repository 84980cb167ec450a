-- Values as contracts see them, their types and order, and sets of faults.
use Rattle.std.specs.Prelude.{◌≡◌, ℕ, ◌^◌, ℤ, pos, negsuc, Bool, true, false, ◌&&◌, ◌||◌, List, [], ◌∷◌, nat_lt, nat_le, length, slice_index_or}
use Rattle.std.specs.List.{list_all}
use Rattle.std.specs.Str.{is_utf8}
use Rattle.std.specs.declared.cmp.Ordering.{Ordering}
use Rattle.std.specs.declared.cmp.Ordering.TheVariants.{Less, Equal, Greater}
use Rattle.std.specs.Ordering.{nat_cmp, int_cmp, bool_cmp, is_eq}
use Rattle.std.specs.Cmp.{IsTotalOrder}
use Rattle.std.specs.Cmp.Lexicographic.{slice_cmp}
use Rattle.castor_val.specs.Limits.{most_text_bytes}
use Rattle.castor_val.specs.declared.value.Ty.{Ty}
use Rattle.castor_val.specs.declared.value.Ty.TheVariants as ty
use Rattle.castor_val.specs.declared.value.Value.{Value}
use Rattle.castor_val.specs.declared.value.Value.TheVariants.{Int, Bool as Truth, Text}
use Rattle.castor_val.specs.declared.value.Cell.{Cell}
use Rattle.castor_val.specs.declared.value.Cell.TheVariants as cell
use Rattle.castor_val.specs.declared.fault.Fault.{Fault}
use Rattle.castor_val.specs.declared.fault.Fault.TheVariants as fault
use Rattle.castor_val.specs.declared.fault.Faults.{Faults}
use Rattle.castor_val.specs.declared.row.Row.{Row}
use Rattle.castor_val.specs.declared.table.Table.{Table}

-- the value that a cell borrows
abbrev pub value_of : Cell → Value
value_of (cell.Int z) = Int z
value_of (cell.Bool b) = Truth b
value_of (cell.Text s) = Text s.now

-- the type that a value is of
abbrev pub type_of_value : Value → Ty
type_of_value (Int z) = ty.Int
type_of_value (Truth b) = ty.Bool
type_of_value (Text t) = ty.Text

-- whether a value is of a type
abbrev pub has_type : Value → Ty → Bool
has_type (Int z) ty.Int = true
has_type (Int z) ty.Bool = false
has_type (Int z) ty.Text = false
has_type (Truth b) ty.Int = false
has_type (Truth b) ty.Bool = true
has_type (Truth b) ty.Text = false
has_type (Text t) ty.Int = false
has_type (Text t) ty.Bool = false
has_type (Text t) ty.Text = true

-- whether a whole number is an int: at least -2^63 and less than 2^63
abbrev pub is_int : ℤ → Bool
is_int (pos n) = nat_lt n (2 ^ 63)
is_int (negsuc n) = nat_lt n (2 ^ 63)

-- whether a value keeps the limits: ints of 64 bits, and texts of UTF-8 with at most 65,535 bytes
abbrev pub is_within_limits : Value → Bool
is_within_limits (Int z) = is_int z
is_within_limits (Truth b) = true
is_within_limits (Text t) = is_utf8 t && nat_le (length t) most_text_bytes

-- whether a value fits a type: it is of the type and keeps the limits
abbrev pub value_fits : Value → Ty → Bool
value_fits v t = has_type v t && is_within_limits v

-- whether a row fits a list of types: as many values as types, each of which fits its type
abbrev pub row_fits : Row → List Ty → Bool
row_fits [] [] = true
row_fits [] (t ∷ types) = false
row_fits (v ∷ row) [] = false
row_fits (v ∷ row) (t ∷ types) = value_fits v t && row_fits row types

-- whether each row of a table fits the types
abbrev pub table_fits : Table → List Ty → Bool
table_fits table types = list_all (λ row. row_fits row types) table

-- the value of a row in a column, and false where the row has no such column
abbrev pub column : Row → ℕ → Value
column r at = slice_index_or r at (Truth false)

-- the place of a value's type in the order: ints, then bools, then texts
abbrev pub class : Value → ℕ
class (Int z) = 0
class (Truth b) = 1
class (Text t) = 2

-- the order of values: by class, ints by number, false before true, texts by bytes
abbrev pub value_cmp : Value → Value → Ordering
value_cmp (Int x) (Int y) = int_cmp x y
value_cmp (Int x) (Truth y) = Less
value_cmp (Int x) (Text y) = Less
value_cmp (Truth x) (Int y) = Greater
value_cmp (Truth x) (Truth y) = bool_cmp x y
value_cmp (Truth x) (Text y) = Less
value_cmp (Text x) (Int y) = Greater
value_cmp (Text x) (Truth y) = Greater
value_cmp (Text x) (Text y) = slice_cmp nat_cmp x y

-- whether two values are equal
abbrev pub same_value : Value → Value → Bool
same_value a b = is_eq (value_cmp a b)

-- the order of rows: by the first value in which they differ, a row before its extensions
abbrev pub row_cmp : Row → Row → Ordering
row_cmp a b = slice_cmp value_cmp a b

-- whether two rows have equal values
abbrev pub same_row : Row → Row → Bool
same_row a b = is_eq (row_cmp a b)

-- the order of values is total, and ties only equal values
pub record IsValueOrder : Type 0 where
  pub total : IsTotalOrder value_cmp
  pub tied : (a b : Value) → value_cmp a b ≡ Equal → a ≡ b

-- the order of rows is total, and ties only equal rows
pub record IsRowOrder : Type 0 where
  pub total : IsTotalOrder row_cmp
  pub tied : (a b : Row) → row_cmp a b ≡ Equal → a ≡ b

-- the empty set of faults
abbrev pub no_faults : Faults
no_faults = record { division = false; overflow = false; norows = false }

-- whether a set has some fault
abbrev pub has_faults : Faults → Bool
has_faults faults = faults.division || (faults.overflow || faults.norows)

-- the set of division alone
abbrev pub division_fault : Faults
division_fault = record { division = true; overflow = false; norows = false }

-- the set of overflow alone
abbrev pub overflow_fault : Faults
overflow_fault = record { division = false; overflow = true; norows = false }

-- the set of norows alone
abbrev pub norows_fault : Faults
norows_fault = record { division = false; overflow = false; norows = true }

-- the set of a fault alone
abbrev pub fault_set : Fault → Faults
fault_set fault.Division = division_fault
fault_set fault.Overflow = overflow_fault
fault_set fault.NoRows = norows_fault

-- whether a set has a fault
abbrev pub has_fault : Faults → Fault → Bool
has_fault faults fault.Division = faults.division
has_fault faults fault.Overflow = faults.overflow
has_fault faults fault.NoRows = faults.norows

-- the faults that are in either set
abbrev pub union : Faults → Faults → Faults
union a b = record { division = a.division || b.division; overflow = a.overflow || b.overflow; norows = a.norows || b.norows }
