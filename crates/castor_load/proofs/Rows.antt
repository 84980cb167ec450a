-- One more field, and one more record.
use Rattle.std.proofs.Common.{◌≡◌, ◌∙◌, ℕ, zero, suc, ◌+◌, ◌<◌, ◌≤◌, List, [], ◌∷◌, ◌++◌, length, drop, get_or, Some, None, Result, Ok, Err, Bool, true, false, ◌&&◌, refl, sym, ap, append_assoc, arith, add-one, drop_of_length-le, ok_or, not}
use Rattle.std.proofs.Math.Seq.{drop-cons}
use Rattle.std.specs.Cmp.Lexicographic.{pointwise}
use Rattle.std.specs.Str.{bytes_eq}
use Rattle.csv.specs.Records.{field_at}
use Rattle.csv.proofs.RecordFacts.{field-there}
use Rattle.castor_val.specs.Columns.{types_of}
use Rattle.castor_val.specs.declared.column.Column.{Column}
use Rattle.castor_val.specs.declared.value.Ty.{Ty}
use Rattle.castor_load.specs.Rows.{all_or_refusal, and_more, field_read, names_of, row_of, rows_from, values_from}
use Rattle.castor_load.specs.declared.error.LoadError.TheVariants.{BadField}

-- these, and then those of an answer
abbrev pub after : {X E : Type 0} → List X → Result (List X) E → Result (List X) E
after xs (Ok ys) = Ok (xs ++ ys)
after xs (Err why) = Err why

pub after-append : {X E : Type 0} (xs ys : List X) (r : Result (List X) E) → after (xs ++ ys) r ≡ after xs (after ys r)
after-append xs ys (Ok zs) = ap Ok (append_assoc xs ys zs)
after-append xs ys (Err why) = refl

pub and_more-after : {X E : Type 0} (x : X) (r : Result (List X) E) → and_more (Ok x) r ≡ after (x ∷ []) r
and_more-after x (Ok ys) = refl
and_more-after x (Err why) = refl

-- the elements from a place on
pub drop-at : {X : Type 0} (xs : List X) (i : ℕ) (x : X) → i < length xs → x ≡ get_or xs i x → drop i xs ≡ x ∷ drop (i + 1) xs
drop-at xs i x lt is = rw (add-one i) (drop-cons xs i x lt ∙ ap (λ w. w ∷ drop (suc i) xs) (sym is))

-- the fields from a place on
drop-field_at : (fields : List (List ℕ)) (i : ℕ) (f : List ℕ) → field_at fields i ≡ Some f → drop i fields ≡ f ∷ drop (i + 1) fields
unfolding field_at
drop-field_at [] i f e = absurd (cc e)
drop-field_at (g ∷ gs) zero f e = ap (λ w. w ∷ gs) (cc e)
drop-field_at (g ∷ gs) (suc i) f e = rw (add-one (suc i)) (rw (add-one i) at (drop-field_at gs i f e))

-- a field that is there
pub no_field : {P : Type 0} (columns : List Column) (fields : List (List ℕ)) (i : ℕ) → length fields ≡ length columns → i < length columns → field_at fields i ≡ None → P
no_field columns fields i same lt e = absurd (field-there fields i (omega arith) e)

pub names-at : (columns : List Column) (fields : List (List ℕ)) (i : ℕ) (column : Column) (f : List ℕ) → i < length columns → column ≡ get_or columns i column → field_at fields i ≡ Some f
    → pointwise bytes_eq (drop i fields) (names_of (drop i columns)) ≡ (bytes_eq f column.name && pointwise bytes_eq (drop (i + 1) fields) (names_of (drop (i + 1) columns)))
names-at columns fields i column f lt is at = rw (drop-at columns i column lt is, drop-field_at fields i f at) refl

pub names-end : (columns : List Column) (fields : List (List ℕ)) (i : ℕ) → length fields ≡ length columns → length columns ≤ i → pointwise bytes_eq (drop i fields) (names_of (drop i columns)) ≡ true
names-end columns fields i same le =
    let none : drop i columns ≡ [] = drop_of_length-le columns le in
    let no_fields : drop i fields ≡ [] = drop_of_length-le fields (omega arith) in
    rw (none, no_fields) refl

pub values_from-at : (number : ℕ) (columns : List Column) (fields : List (List ℕ)) (i : ℕ) (column : Column) (f : List ℕ) → i < length columns → column ≡ get_or columns i column → field_at fields i ≡ Some f
    → values_from number i (types_of (drop i columns)) (drop i fields) ≡ and_more (ok_or (field_read column.ty f) (BadField number i)) (values_from number (i + 1) (types_of (drop (i + 1) columns)) (drop (i + 1) fields))
unfolding all_or_refusal
values_from-at number columns fields i column f lt is at = rw (drop-at columns i column lt is, drop-field_at fields i f at) refl

pub values_from-end : (number : ℕ) (columns : List Column) (fields : List (List ℕ)) (i : ℕ) → length columns ≤ i → values_from number i (types_of (drop i columns)) (drop i fields) ≡ Ok []
unfolding all_or_refusal
values_from-end number columns fields i le = let none : drop i columns ≡ [] = drop_of_length-le columns le in rw none refl

pub rows_from-none : (number : ℕ) (types : List Ty) (left : List (List (List ℕ))) → left ≡ [] → rows_from number types left ≡ Ok []
unfolding all_or_refusal
rows_from-none number types left none = rw none refl

pub rows_from-some : (number : ℕ) (types : List Ty) (left more : List (List (List ℕ))) (fields : List (List ℕ)) → left ≡ fields ∷ more
    → rows_from number types left ≡ and_more (row_of number types fields) (rows_from (number + 1) types more)
unfolding all_or_refusal
rows_from-some number types left more fields some = rw some refl

pub not-true : (b : Bool) → true ≡ not b → b ≡ false
not-true true e = cc e
not-true false e = refl

pub not-false : (b : Bool) → false ≡ not b → b ≡ true
not-false true e = refl
not-false false e = cc e
