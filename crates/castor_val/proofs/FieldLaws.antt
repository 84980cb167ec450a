-- The laws of fields: what decides whether a field is read, and that a printed value is read back.
use Rattle.std.proofs.Common.{◌≡◌, ℕ, ◌^◌, ◌<◌, ◌≤◌, ℤ, pos, negsuc, List, [], ◌∷◌, drop, Bool, true, false, cond, ◌&&◌, length, Result, Ok, Err, None, refl, sym, subst, w64, arith, rules}
use Rattle.std.specs.Prelude.{nat_le, nat_lt, ◌==◌, FitsSigned}
use Rattle.std.specs.Fmt.{signed_decimal}
use Rattle.std.specs.Result.{result_ok}
use Rattle.std.specs.Str.{IsAscii, IsUtf8, is_utf8, all_ascii_digits, bytes_eq}
use Rattle.std.specs.Str.Parse.{IsNumeral, ParsesSigned, true_text, false_text, digits_value, signed_digits_value, without_leading_sign}
use Rattle.std.proofs.lemmas.Bool.{and_from, and_parts, eqb-true, false_from_ne_true, le-leb, lt-leb, lt-ltb, ltb-true}
use Rattle.std.proofs.lemmas.Fmt.{IsAscii-from_digits, parse-signed_decimal}
use Rattle.std.proofs.lemmas.Int.{to_z-of_z}
use Rattle.std.proofs.lemmas.Slice.Eq.{bytes_eq-Decides}
use Rattle.std.proofs.lemmas.Str.{IsUtf8-from_ascii, IsUtf8-from_is_utf8, is_utf8-from_IsUtf8}
use Rattle.std.proofs.lemmas.Str.Ascii.{IsAscii-cons}
use Rattle.std.proofs.lemmas.Str.Parse.{IsNumeralModel, numerals_by_value, tells_all_ascii_digits}
use Rattle.castor_val.specs.declared.value.Value.{Value}
use Rattle.castor_val.specs.declared.value.Ty.{Ty}
use Rattle.castor_val.specs.declared.value.Ty.TheVariants as ty
use Rattle.castor_val.specs.declared.value.Value.TheVariants.{Int, Bool as Truth, Text}
use Rattle.castor_val.specs.declared.field.FieldError.{FieldError}
use Rattle.castor_val.specs.declared.field.FieldError.TheVariants.{NotOfType, TooLong}
use Rattle.castor_val.specs.Limits.{most_text_bytes}
use Rattle.castor_val.specs.Values.{is_int, value_fits}
use Rattle.castor_val.specs.Fields.{bool_field, field_value, int_field, is_numeral, text_field, value_text}
use mir.Val.{to_z, of_z}

-- a text is a text value, or too long for one
pub text_field-short : (bytes : List ℕ) → IsUtf8 bytes → length bytes ≤ most_text_bytes → text_field bytes ≡ Ok (Text bytes)
text_field-short bytes text short =
    let utf8 : is_utf8 bytes ≡ true = is_utf8-from_IsUtf8 bytes text in
    let fits : nat_le (length bytes) most_text_bytes ≡ true = le-leb (length bytes) most_text_bytes short in
    rw (utf8, fits) refl

pub text_field-long : (bytes : List ℕ) → IsUtf8 bytes → most_text_bytes < length bytes → text_field bytes ≡ Err TooLong
text_field-long bytes text long =
    let utf8 : is_utf8 bytes ≡ true = is_utf8-from_IsUtf8 bytes text in
    let fits : nat_le (length bytes) most_text_bytes ≡ false = lt-leb (length bytes) most_text_bytes long in
    rw (utf8, fits) refl

-- a text that is refused is too long
text_field-by : (bytes : List ℕ) (utf8 short : Bool) → is_utf8 bytes ≡ utf8 → nat_le (length bytes) most_text_bytes ≡ short → utf8 ≡ true → result_ok (text_field bytes) ≡ None → text_field bytes ≡ Err TooLong
text_field-by bytes true true u s e refused = absurd (let read : text_field bytes ≡ Ok (Text bytes) = rw (u, s) refl in let some = rw read at refused in cc)
text_field-by bytes true false u s e refused = rw (u, s) refl
text_field-by bytes false short u s e refused = cc

pub text_field-refused : (bytes : List ℕ) → IsUtf8 bytes → result_ok (text_field bytes) ≡ None → text_field bytes ≡ Err TooLong
text_field-refused bytes text refused = text_field-by bytes true (nat_le (length bytes) most_text_bytes) (is_utf8-from_IsUtf8 bytes text) refl refl refused

own_digits : IsNumeralModel (λ ds. all_ascii_digits ds ≡ true) (digits_value 10)
own_digits = numerals_by_value _ tells_all_ascii_digits

-- the test of an int is that it fits 64 bits
pub is_int-from_fits : (z : ℤ) → FitsSigned w64 z → is_int z ≡ true
is_int-from_fits (pos n) fits = lt-ltb n (2 ^ 63) fits.sfits
is_int-from_fits (negsuc n) fits = lt-ltb n (2 ^ 63) fits.sfits

pub fits_from_is_int : (z : ℤ) → is_int z ≡ true → FitsSigned w64 z
fits_from_is_int (pos n) test = record { sfits = ltb-true n (2 ^ 63) test }
fits_from_is_int (negsuc n) test = record { sfits = ltb-true n (2 ^ 63) test }

-- the test of a numeral is that it is one
is_numeral-from : (ds : List ℕ) → IsNumeral 10 ds → is_numeral ds ≡ true
is_numeral-from ds numeral = and_from (nat_lt 0 (length ds)) (all_ascii_digits ds) (lt-ltb 0 (length ds) numeral.0) (own_digits.from ds numeral.1)

numeral_from_test : (ds : List ℕ) → is_numeral ds ≡ true → IsNumeral 10 ds
numeral_from_test ds test =
    let parts = and_parts (nat_lt 0 (length ds)) (all_ascii_digits ds) test in
    (ltb-true 0 (length ds) parts.0, own_digits.to ds parts.1)

abbrev is_int_field : List ℕ → Bool
is_int_field bytes = is_numeral (without_leading_sign bytes) && is_int (signed_digits_value 10 bytes)

is_int_field-from : (bytes : List ℕ) → IsNumeral 10 (without_leading_sign bytes) × FitsSigned w64 (signed_digits_value 10 bytes) → is_int_field bytes ≡ true
is_int_field-from bytes h = and_from (is_numeral (without_leading_sign bytes)) (is_int (signed_digits_value 10 bytes)) (is_numeral-from (without_leading_sign bytes) h.0) (is_int-from_fits (signed_digits_value 10 bytes) h.1)

int_field_from_test : (bytes : List ℕ) → is_int_field bytes ≡ true → IsNumeral 10 (without_leading_sign bytes) × FitsSigned w64 (signed_digits_value 10 bytes)
int_field_from_test bytes test =
    let parts = and_parts (is_numeral (without_leading_sign bytes)) (is_int (signed_digits_value 10 bytes)) test in
    (numeral_from_test (without_leading_sign bytes) parts.0, fits_from_is_int (signed_digits_value 10 bytes) parts.1)

-- an int field is what std reads as an int of 64 bits
pub int_field-read : {E : Type 0} (bytes : List ℕ) (z : ℤ) (r : Result ℤ E) → r ≡ Ok z → ParsesSigned w64 10 bytes r → int_field bytes ≡ Ok (Int (to_z w64 (of_z w64 z)))
int_field-read bytes z (Ok y) e h =
    let same : y ≡ z = cc in
    let test : is_int_field bytes ≡ true = is_int_field-from bytes h.0 in
    let kept : to_z w64 (of_z w64 y) ≡ y = to_z-of_z w64 y (subst (FitsSigned w64) (sym h.1) h.0.1) in
    rw (← same, kept, test, h.1) refl
int_field-read bytes z (Err why) e h = cc

pub int_field-not_read : {E : Type 0} (bytes : List ℕ) (why : E) (r : Result ℤ E) → r ≡ Err why → ParsesSigned w64 10 bytes r → int_field bytes ≡ Err NotOfType
int_field-not_read bytes why (Ok z) e h = cc
int_field-not_read bytes why (Err other) e h =
    let test : is_int_field bytes ≡ false = false_from_ne_true (is_int_field bytes) (λ yes. h (int_field_from_test bytes yes)) in
    rw test refl

-- a sign before digits is ASCII too
ascii_after_sign : (c : ℕ) (cs : List ℕ) (minus plus : Bool) → (c == 45) ≡ minus → (c == 43) ≡ plus → IsAscii (cond minus cs (drop (cond plus 1 0) (c ∷ cs))) → IsAscii (c ∷ cs)
ascii_after_sign c cs true plus m p h = let is : c ≡ 45 = eqb-true c 45 m in IsAscii-cons c cs (omega arith) h
ascii_after_sign c cs false true m p h = let is : c ≡ 43 = eqb-true c 43 p in IsAscii-cons c cs (omega arith) h
ascii_after_sign c cs false false m p h = h

ascii_with_sign : (bytes : List ℕ) → IsAscii (without_leading_sign bytes) → IsAscii bytes
ascii_with_sign [] h = h
ascii_with_sign (c ∷ cs) h = ascii_after_sign c cs (c == 45) (c == 43) refl refl h

-- a field that is not UTF-8 is of no type
int_field-no_text : (bytes : List ℕ) → ¬ (IsUtf8 bytes) → int_field bytes ≡ Err NotOfType
int_field-no_text bytes other =
    let test : is_int_field bytes ≡ false = false_from_ne_true (is_int_field bytes) (λ yes. other (IsUtf8-from_ascii bytes (ascii_with_sign bytes (IsAscii-from_digits (without_leading_sign bytes) (int_field_from_test bytes yes).0.1)))) in
    rw test refl

is_not_text : (bytes text : List ℕ) → IsAscii text → ¬ (IsUtf8 bytes) → bytes_eq bytes text ≡ false
is_not_text bytes text ascii other = false_from_ne_true (bytes_eq bytes text) (λ yes. other (subst IsUtf8 (sym ((bytes_eq-Decides bytes text).0 yes)) (IsUtf8-from_ascii text ascii)))

bool_field-no_text : (bytes : List ℕ) → ¬ (IsUtf8 bytes) → bool_field bytes ≡ Err NotOfType
bool_field-no_text bytes other =
    let not_true : bytes_eq bytes true_text ≡ false = is_not_text bytes true_text (λ i. search rules) other in
    let not_false : bytes_eq bytes false_text ≡ false = is_not_text bytes false_text (λ i. search rules) other in
    rw (not_true, not_false) refl

text_field-no_text : (bytes : List ℕ) → ¬ (IsUtf8 bytes) → text_field bytes ≡ Err NotOfType
text_field-no_text bytes other =
    let test : is_utf8 bytes ≡ false = false_from_ne_true (is_utf8 bytes) (λ yes. other (IsUtf8-from_is_utf8 bytes yes)) in
    rw test refl

pub field_value-no_text : (t : Ty) (bytes : List ℕ) → ¬ (IsUtf8 bytes) → field_value t bytes ≡ Err NotOfType
field_value-no_text ty.Int bytes other = int_field-no_text bytes other
field_value-no_text ty.Bool bytes other = bool_field-no_text bytes other
field_value-no_text ty.Text bytes other = text_field-no_text bytes other

-- the value that is read fits the type
int_field_fits : (bytes : List ℕ) (v : Value) (numeral int : Bool) → is_numeral (without_leading_sign bytes) ≡ numeral → is_int (signed_digits_value 10 bytes) ≡ int → int_field bytes ≡ Ok v → value_fits v ty.Int ≡ true
int_field_fits bytes v true true n i e = let read : int_field bytes ≡ Ok (Int (signed_digits_value 10 bytes)) = rw (n, i) refl in let is : v ≡ Int (signed_digits_value 10 bytes) = cc in rw is i
int_field_fits bytes v true false n i e = let read : int_field bytes ≡ Err NotOfType = rw (n, i) refl in cc
int_field_fits bytes v false int n i e = let read : int_field bytes ≡ Err NotOfType = rw n refl in cc

bool_field_fits : (bytes : List ℕ) (v : Value) (first second : Bool) → bytes_eq bytes true_text ≡ first → bytes_eq bytes false_text ≡ second → bool_field bytes ≡ Ok v → value_fits v ty.Bool ≡ true
bool_field_fits bytes v true second y n e = let read : bool_field bytes ≡ Ok (Truth true) = rw y refl in let is : v ≡ Truth true = cc in rw is refl
bool_field_fits bytes v false true y n e = let read : bool_field bytes ≡ Ok (Truth false) = rw (y, n) refl in let is : v ≡ Truth false = cc in rw is refl
bool_field_fits bytes v false false y n e = let read : bool_field bytes ≡ Err NotOfType = rw (y, n) refl in cc

text_field_fits : (bytes : List ℕ) (v : Value) (utf8 short : Bool) → is_utf8 bytes ≡ utf8 → nat_le (length bytes) most_text_bytes ≡ short → text_field bytes ≡ Ok v → value_fits v ty.Text ≡ true
text_field_fits bytes v true true u s e = let read : text_field bytes ≡ Ok (Text bytes) = rw (u, s) refl in let is : v ≡ Text bytes = cc in rw (is, u, s) refl
text_field_fits bytes v true false u s e = let read : text_field bytes ≡ Err TooLong = rw (u, s) refl in cc
text_field_fits bytes v false short u s e = let read : text_field bytes ≡ Err NotOfType = rw u refl in cc

pub field_value_fits : (t : Ty) (bytes : List ℕ) (v : Value) → field_value t bytes ≡ Ok v → value_fits v t ≡ true
field_value_fits ty.Int bytes v e = int_field_fits bytes v (is_numeral (without_leading_sign bytes)) (is_int (signed_digits_value 10 bytes)) refl refl e
field_value_fits ty.Bool bytes v e = bool_field_fits bytes v (bytes_eq bytes true_text) (bytes_eq bytes false_text) refl refl e
field_value_fits ty.Text bytes v e = text_field_fits bytes v (is_utf8 bytes) (nat_le (length bytes) most_text_bytes) refl refl e

-- what a value is printed as is read back as the value
int_text_back : (z : ℤ) (test : Bool) → FitsSigned w64 z → is_int_field (signed_decimal z) ≡ test → int_field (signed_decimal z) ≡ Ok (Int z)
int_text_back z true fits e =
    let read = parse-signed_decimal {E = FieldError} w64 z (signed_decimal z) (Ok (signed_digits_value 10 (signed_decimal z))) fits fits.sfits refl (int_field_from_test (signed_decimal z) e, refl) in
    let is : signed_digits_value 10 (signed_decimal z) ≡ z = cc in
    rw (e, is) refl
int_text_back z false fits e =
    let read = parse-signed_decimal {E = FieldError} w64 z (signed_decimal z) (Err NotOfType) fits fits.sfits refl (λ h. let yes = is_int_field-from (signed_decimal z) h in cc) in
    cc

text_back : (bytes : List ℕ) → (is_utf8 bytes && nat_le (length bytes) most_text_bytes) ≡ true → text_field bytes ≡ Ok (Text bytes)
text_back bytes within =
    let parts = and_parts (is_utf8 bytes) (nat_le (length bytes) most_text_bytes) within in
    let utf8 : is_utf8 bytes ≡ true = parts.0 in
    let short : nat_le (length bytes) most_text_bytes ≡ true = parts.1 in
    rw (utf8, short) refl

pub field_value-value_text : (v : Value) (t : Ty) → value_fits v t ≡ true → field_value t (value_text v) ≡ Ok v
field_value-value_text (Int z) ty.Int fits = int_text_back z (is_int_field (signed_decimal z)) (fits_from_is_int z fits) refl
field_value-value_text (Int z) ty.Bool fits = cc
field_value-value_text (Int z) ty.Text fits = cc
field_value-value_text (Truth b) ty.Int fits = cc
field_value-value_text (Truth true) ty.Bool fits = refl
field_value-value_text (Truth false) ty.Bool fits = refl
field_value-value_text (Truth b) ty.Text fits = cc
field_value-value_text (Text t) ty.Int fits = cc
field_value-value_text (Text t) ty.Bool fits = cc
field_value-value_text (Text t) ty.Text fits = text_back t fits
