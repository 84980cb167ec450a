-- A field is read as its number, and what is read as a number is its field.
use Rattle.std.proofs.Common.{◌≡◌, ◌∙◌, ℕ, ◌+◌, ◌/◌, ◌^◌, ◌<◌, ◌≤◌, leb, List, ◌++◌, take, drop, length, true, ◌&&◌, if◌then◌else◌, Option, Some, None, subst, ap, sym, refl, arith}
use Rattle.std.proofs.lemmas.Bool.{le-leb, leb-true, and_parts, and_from}
use Rattle.std.proofs.lemmas.Option.{cond_some}
use Rattle.std.proofs.lemmas.List.{take_at, drop_at, take-append-drop}
use Rattle.std.proofs.lemmas.Slice.Eq.{bytes_eq-Decides}
use Rattle.std.specs.Str.{bytes_eq}
use Rattle.byteorder.specs.Endian.{little_number}
use Rattle.byteorder.specs.Numbers.{little_number-reads_back, length-bytes_low_first}
use Rattle.castor_fixed.specs.Fields.{width, field, number, ReadsFields}
use Rattle.castor_fixed.proofs.DigitLaws.{digit_count-fewest, digit_count-more}

-- each number from 0 to most fits the width
pub below-width : (most n : ℕ) → n ≤ most → n < 256 ^ width most
below-width most n within = let reach = (digit_count-fewest 256 (omega arith) most).reach in omega arith

-- what every number from 0 to most fits is no less than the width
pub width-least : (most e : ℕ) → most < 256 ^ e → width most ≤ e
width-least most e below = (digit_count-fewest 256 (omega arith) most).least e below

-- a number of 64 bits fits 8 bytes
pub width-within : (most : ℕ) → most < 2 ^ 64 → width most ≤ 8
width-within most small = width-least most 8 small

-- one byte, and those of the rest
pub width-more : (most : ℕ) → 0 < most → width most ≡ width (most / 256) + 1
width-more most some = digit_count-more 256 (omega arith) most some

-- a field has the width's bytes
pub length-field : (most n : ℕ) → length (field most n) ≡ width most
length-field most n = length-bytes_low_first 0 (width most) n

bytes_eq_same : (xs : List ℕ) → bytes_eq xs xs ≡ true
bytes_eq_same xs = (bytes_eq-Decides xs xs).1 refl

abbrev read : ℕ → List ℕ → Option (ℕ × List ℕ)
read n rest = Some (n, rest)

number_known : (most n m : ℕ) (rest front : List ℕ) → m ≡ n → n ≤ most → front ≡ field most n → (if leb m most && bytes_eq (field most m) front then read m rest else None) ≡ read n rest
number_known most n m rest front is within begins =
    let both : (leb m most && bytes_eq (field most m) front) ≡ true = rw (is, begins) (and_from _ _ (le-leb n most within) (bytes_eq_same (field most n))) in
    rw (both, is) refl

-- a field is read as its number
pub number-field : (most n : ℕ) (rest : List ℕ) → n ≤ most → number most (field most n ++ rest) ≡ Some (n, rest)
number-field most n rest within =
    let back = little_number-reads_back (width most) n rest (below-width most n within) in
    let after : drop (width most) (field most n ++ rest) ≡ rest = drop_at (field most n) rest (width most) (length-field most n) in
    let front : take (width most) (field most n ++ rest) ≡ field most n = take_at (field most n) rest (width most) (length-field most n) in
    rw after (number_known most n _ rest _ back within front)

-- what is read as a number is its field
pub number-taken : (most n : ℕ) (bytes rest : List ℕ) → number most bytes ≡ Some (n, rest) → (n ≤ most) × (bytes ≡ field most n ++ rest)
number-taken most n bytes rest is =
    let m = little_number (width most) bytes in
    let found = cond_some (leb m most && bytes_eq (field most m) (take (width most) bytes)) (m, drop (width most) bytes) (n, rest) is in
    let tests = and_parts _ _ found.0 in
    let value : m ≡ n = ap (λ (x : ℕ × List ℕ). x.0) found.1 in
    let after : drop (width most) bytes ≡ rest = ap (λ (x : ℕ × List ℕ). x.1) found.1 in
    let front : field most m ≡ take (width most) bytes = (bytes_eq-Decides _ _).0 tests.1 in (
      subst (λ x. x ≤ most) value (leb-true m most tests.0),
      sym (take-append-drop (width most) bytes) ∙ ap (λ x. x ++ drop (width most) bytes) (sym front) ∙ ap (λ x. field most m ++ x) after ∙ ap (λ x. field most x ++ rest) value,
    )

pub fields_read : ReadsFields
fields_read = record {
  again = λ most n rest within. number-field most n rest within;
  taken = λ most n bytes rest is. number-taken most n bytes rest is;
}
