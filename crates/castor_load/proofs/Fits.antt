-- Rows and tables that are read fit the types.
use Rattle.std.proofs.Common.{◌≡◌, ℕ, ◌+◌, ◌==◌, List, [], ◌∷◌, Option, Some, None, Result, Ok, Err, Bool, true, false, length, ok_or, if◌then◌else◌, IfOk, IfSome, IsTrue, refl, sym, ap, arith}
use Rattle.std.proofs.lemmas.Bool.{eqb-true}
use Rattle.std.specs.Cmp.Lexicographic.{pointwise}
use Rattle.std.specs.Result.{result_ok}
use Rattle.std.specs.Str.{bytes_eq}
use Rattle.csv.specs.Reading.{default_config, records, strip_bom}
use Rattle.castor_val.specs.Columns.{types_of}
use Rattle.castor_val.specs.Fields.{field_value}
use Rattle.castor_val.specs.Values.{row_fits, table_fits}
use Rattle.castor_val.proofs.FieldLaws.{field_value_fits}
use Rattle.castor_val.specs.declared.column.Column.{Column}
use Rattle.castor_val.specs.declared.row.Row.{Row}
use Rattle.castor_val.specs.declared.table.Table.{Table}
use Rattle.castor_val.specs.declared.value.Ty.{Ty}
use Rattle.castor_load.specs.Lines.{line_values, values_of_records}
use Rattle.castor_load.specs.Words.{Record}
use Rattle.castor_load.specs.declared.error.LoadError.{LoadError}
use Rattle.castor_load.specs.Rows.{all_or_refusal, and_more, names_of, row_of, rows_from, table_of_records, values_from}
use Rattle.castor_load.specs.declared.error.LoadError.TheVariants.{BadField, BadHeader, BadRecord}

-- what was read first, and what was read after it
both_read : {X E : Type 0} (first : Result X E) (more : Result (List X) E) (all : List X) → and_more first more ≡ Ok all → (x : X) × (xs : List X) × (first ≡ Ok x) × (more ≡ Ok xs) × (all ≡ x ∷ xs)
both_read (Ok x) (Ok xs) all e = (x, xs, refl, refl, cc)
both_read (Ok x) (Err why) all e = absurd (cc e)
both_read (Err why) more all e = absurd (cc e)

-- an answer that was read, whatever stands for another
was_read : {X E F : Type 0} (r : Result X E) (why : F) (x : X) → ok_or (result_ok r) why ≡ Ok x → r ≡ Ok x
was_read (Ok w) why x e = let is : w ≡ x = cc e in ap Ok is
was_read (Err other) why x e = absurd (cc e)

values_fit : (number i : ℕ) (types : List Ty) (fields : List (List ℕ)) (row : Row) → length fields ≡ length types → values_from number i types fields ≡ Ok row → row_fits row types ≡ true
unfolding all_or_refusal
values_fit number i [] [] row same e = let none : row ≡ [] = cc e in rw none refl
values_fit number i [] (f ∷ fields) row same e = absurd (cc same)
values_fit number i (t ∷ types) [] row same e = absurd (cc same)
values_fit number i (t ∷ types) (f ∷ fields) row same e =
    let (v, vs, first, more, all) = both_read (ok_or (result_ok (field_value t f)) (BadField number i)) (values_from number (i + 1) types fields) row e in
    rw (all, field_value_fits t f v (was_read (field_value t f) (BadField number i) v first), values_fit number (i + 1) types fields vs (omega arith) more) refl

-- a row that is read fits the types
pub row_of-fits : (number : ℕ) (types : List Ty) (fields : List (List ℕ)) (row : Row) → row_of number types fields ≡ Ok row → row_fits row types ≡ true
row_of-fits number types fields row e = by (length fields == length types) refl e
  where
    by : (b : Bool) → (length fields == length types) ≡ b → (if b then values_from number 0 types fields else Err (BadRecord number)) ≡ Ok row → row_fits row types ≡ true
    by true same read = values_fit number 0 types fields row (eqb-true (length fields) (length types) same) read
    by false same read = absurd (cc read)

rows_fit : (number : ℕ) (types : List Ty) (left : List Record) (table : Table) → rows_from number types left ≡ Ok table → table_fits table types ≡ true
unfolding all_or_refusal
rows_fit number types [] table e = let none : table ≡ [] = cc e in rw none refl
rows_fit number types (fields ∷ left) table e =
    let (row, rows, first, more, all) = both_read (row_of number types fields) (rows_from (number + 1) types left) table e in
    rw (all, row_of-fits number types fields row first, rows_fit (number + 1) types left rows more) refl

-- a table that is read fits the types
pub table_of-fits : (columns : List Column) (rs : List Record) (table : Table) → table_of_records columns rs ≡ Ok table → table_fits table (types_of columns) ≡ true
table_of-fits columns [] table e = absurd (cc e)
table_of-fits columns (header ∷ left) table e = by (pointwise bytes_eq header (names_of columns)) e
  where
    by : (b : Bool) → (if b then rows_from 1 (types_of columns) left else Err BadHeader) ≡ Ok table → table_fits table (types_of columns) ≡ true
    by true read = rows_fit 1 (types_of columns) left table read
    by false read = absurd (cc read)

-- an answer that is given, where only answers that are read fit
given_fits : (types : List Ty) (r : Result Row LoadError) (row : Row) → ((read : Row) → r ≡ Ok read → row_fits read types ≡ true) → result_ok r ≡ Some row → row_fits row types ≡ true
given_fits types (Ok read) row fits e = let is : read ≡ row = cc e in fits row (ap Ok is)
given_fits types (Err why) row fits e = absurd (cc e)

-- values of a line fit the types of the parameters
pub values_of_records-fits : (params : List Column) (rs : List Record) (row : Row) → values_of_records params rs ≡ Some row → row_fits row (types_of params) ≡ true
values_of_records-fits [] [] row e = let none : row ≡ [] = cc e in rw none refl
values_of_records-fits (param ∷ params) [] row e = absurd (cc e)
values_of_records-fits params (fields ∷ []) row e = given_fits (types_of params) (row_of 0 (types_of params) fields) row (row_of-fits 0 (types_of params) fields) e
values_of_records-fits params (fields ∷ next ∷ more) row e = absurd (cc e)

-- so do those that a call gives where it gives those of a line
pub line_values-fit : {E : Type 0} (params : List Column) (line : List ℕ) (r : Result (Option Row) E) → IfOk r (λ values. values ≡ line_values params line) → IfOk r (λ values. IfSome values (λ row. IsTrue (row_fits row (types_of params))))
line_values-fit params line (Err e) exact = tt
line_values-fit params line (Ok None) exact = tt
line_values-fit params line (Ok (Some row)) exact = values_of_records-fits params (records default_config (strip_bom line)) row (sym exact)
