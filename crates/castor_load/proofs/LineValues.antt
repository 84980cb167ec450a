-- The values of a plain line, one field after another.
use Rattle.std.proofs.Common.{◌≡◌, ◌∙◌, ◌==◌, ◌++◌, ◌∷◌, ◌+◌, ◌<◌, ◌≤◌, [], ℕ, List, Option, Some, None, Ok, Err, Bool, true, false, if◌then◌else◌, not, MatchOption, Result, length, drop, drop_of_length-le, get_or, ok_or, refl, sym, ap}
use Rattle.std.proofs.Math.Dec.{eqb-suc-suc, eqb-suc-zero}
use Rattle.std.proofs.lemmas.List.{append-nil}
use Rattle.std.specs.Bool.{MatchBool}
use Rattle.std.specs.Borrow.{Bor}
use Rattle.std.specs.Option.{is_some}
use Rattle.std.specs.Result.{result_ok}
use Rattle.castor_val.specs.Columns.{types_of}
use Rattle.castor_val.specs.declared.column.Column.{Column}
use Rattle.castor_val.specs.declared.row.Row.{Row}
use Rattle.castor_val.specs.declared.value.Ty.{Ty}
use Rattle.castor_val.specs.declared.value.Value.{Value}
use Rattle.castor_load.specs.Lines.{line_values, values_of_records}
use Rattle.castor_load.specs.Plain.{fields_between, is_plain}
use Rattle.castor_load.specs.Rows.{all_or_refusal, and_more, field_read, row_of, values_from}
use Rattle.castor_load.specs.Words.{Record}
use Rattle.castor_load.proofs.OneRecord.{plain_record}
use Rattle.castor_load.proofs.Rows.{after, after-append, and_more-after, drop-at}
use Rattle.castor_load.specs.declared.error.LoadError.{LoadError}
use Rattle.castor_load.specs.declared.error.LoadError.TheVariants.{BadField, BadRecord}

one_record : (params : List Column) (fields : Record) → values_of_records params (fields ∷ []) ≡ result_ok (row_of 0 (types_of params) fields)
one_record [] fields = refl
one_record (p ∷ params) fields = refl

-- a plain line gives its parameters the row of the fields between its commas
pub plain_values : (params : List Column) (line : List ℕ) → is_plain line ≡ true → line_values params line ≡ result_ok (row_of 0 (types_of params) (fields_between line))
plain_values params line plain = ap (values_of_records params) (plain_record line plain) ∙ one_record params (fields_between line)

-- these values and then the row of fields, if they fit types
abbrev pub row_after : Row → List Ty → Record → Option Row
row_after row types fields = result_ok (after row (row_of 0 types fields))

one_more : (row : Row) (v : Value) (r : Result Row LoadError) → result_ok (after row (and_more (Ok v) r)) ≡ result_ok (after (row ++ v ∷ []) r)
one_more row v r = rw (and_more-after v r) (ap result_ok (sym (after-append row (v ∷ []) r)))

-- where a field is refused makes no difference
from_any : (row : Row) (i j : ℕ) (types : List Ty) (fields : Record) → result_ok (after row (values_from 0 i types fields)) ≡ result_ok (after row (values_from 0 j types fields))
unfolding all_or_refusal
from_any row i j [] fields = refl
from_any row i j (t ∷ types) [] = refl
from_any row i j (t ∷ types) (f ∷ fields) = by (λ values. from_any values (i + 1) (j + 1) types fields) (field_read t f)
  where
    by : ((values : Row) → result_ok (after values (values_from 0 (i + 1) types fields)) ≡ result_ok (after values (values_from 0 (j + 1) types fields))) → (o : Option Value)
        → result_ok (after row (and_more (ok_or o (BadField 0 i)) (values_from 0 (i + 1) types fields))) ≡ result_ok (after row (and_more (ok_or o (BadField 0 j)) (values_from 0 (j + 1) types fields)))
    by more None = refl
    by more (Some v) = one_more row v (values_from 0 (i + 1) types fields) ∙ more (row ++ v ∷ []) ∙ sym (one_more row v (values_from 0 (j + 1) types fields))

-- a field that is read comes after the values before it
pub field-taken : (row : Row) (t : Ty) (types : List Ty) (f : List ℕ) (fields : Record) (v : Value) → field_read t f ≡ Some v → row_after row (t ∷ types) (f ∷ fields) ≡ row_after (row ++ v ∷ []) types fields
unfolding all_or_refusal
field-taken row t types f fields v some = rw (eqb-suc-suc (length fields) (length types)) (by (length fields == length types))
  where
    by : (b : Bool) → result_ok (after row (if b then values_from 0 0 (t ∷ types) (f ∷ fields) else Err (BadRecord 0))) ≡ result_ok (after (row ++ v ∷ []) (if b then values_from 0 0 types fields else Err (BadRecord 0)))
    by true = rw some (one_more row v (values_from 0 1 types fields) ∙ from_any (row ++ v ∷ []) 1 0 types fields)
    by false = refl

-- a field that isn't read has the row refused
pub field-refused : (row : Row) (t : Ty) (types : List Ty) (f : List ℕ) (fields : Record) → field_read t f ≡ None → row_after row (t ∷ types) (f ∷ fields) ≡ None
unfolding all_or_refusal
field-refused row t types f fields none = by (length (f ∷ fields) == length (t ∷ types))
  where
    by : (b : Bool) → result_ok (after row (if b then values_from 0 0 (t ∷ types) (f ∷ fields) else Err (BadRecord 0))) ≡ None
    by true = rw none refl
    by false = refl

-- the parameters from one on, with its type in front
types-at : (params : List Column) (i : ℕ) (param : Column) → i < length params → param ≡ get_or params i param → types_of (drop i params) ≡ param.ty ∷ types_of (drop (i + 1) params)
types-at params i param lt is = rw (drop-at params i param lt is) refl

-- one more field of a line, for the parameter at a place
pub taken-at : (params : List Column) (i : ℕ) (param : Column) (row : Row) (fields more : Record) (f : List ℕ) (v : Value) → i < length params → param ≡ get_or params i param
    → fields ≡ f ∷ more → field_read param.ty f ≡ Some v → row_after row (types_of (drop i params)) fields ≡ row_after (row ++ v ∷ []) (types_of (drop (i + 1) params)) more
taken-at params i param row fields more f v lt is some value =
    rw (types-at params i param lt is, some) (field-taken row param.ty (types_of (drop (i + 1) params)) f more v value)

pub refused-at : (params : List Column) (i : ℕ) (param : Column) (row : Row) (fields more : Record) (f : List ℕ) → i < length params → param ≡ get_or params i param
    → fields ≡ f ∷ more → field_read param.ty f ≡ None → row_after row (types_of (drop i params)) fields ≡ None
refused-at params i param row fields more f lt is some none =
    rw (types-at params i param lt is, some) (field-refused row param.ty (types_of (drop (i + 1) params)) f more none)

-- no parameter is left for a field
too_many : (row : Row) (f : List ℕ) (fields : Record) → row_after row [] (f ∷ fields) ≡ None
too_many row f fields = rw (eqb-suc-zero (length fields)) refl

-- no parameter is left: the row is these values where no field is left either
pub row_after-end : (params : List Column) (i : ℕ) (row : Row) (fields more : Record) (next : Option (Bor (List ℕ))) (ends : Bool) → length params ≤ i
    → MatchOption next (fields ≡ []) (λ f. fields ≡ f.now ∷ more) → is_some next ≡ not ends
    → MatchBool ends (row_after row (types_of (drop i params)) fields ≡ Some row) (row_after row (types_of (drop i params)) fields ≡ None)
unfolding all_or_refusal
row_after-end params i row fields more None true le left is =
    let end : drop i params ≡ [] = drop_of_length-le params le in
    rw (end, left) (ap Some (append-nil row))
row_after-end params i row fields more (Some f) false le left is =
    let end : drop i params ≡ [] = drop_of_length-le params le in
    rw (end, left) (too_many row f.now more)
row_after-end params i row fields more None false le left is = absurd (cc is)
row_after-end params i row fields more (Some f) true le left is = absurd (cc is)
