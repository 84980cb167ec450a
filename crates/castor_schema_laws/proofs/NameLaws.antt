-- Names have the form of a name: those of a formed file, and `c` with a number.
use Rattle.std.proofs.Common.{◌≡◌, ◌∙◌, ℕ, ◌+◌, ◌<◌, ◌≤◌, ◌==◌, ◌^◌, arith, refl, sym, ap, subst, List, [], ◌∷◌, ◌++◌, length, Bool, true, false, ◌&&◌, ◌||◌, Option, Some, None, nat_le, nat_lt, is_none}
use Rattle.std.specs.Prelude.{codes, decimal, slice_index}
use Rattle.std.specs.List.{list_all}
use Rattle.std.specs.Char.{is_ascii_digit}
use Rattle.std.specs.Int.{is_in_range}
use Rattle.std.specs.Str.{all_ascii_digits}
use Rattle.std.specs.Str.Parse.{digits_value}
use Rattle.std.proofs.lemmas.Bool.{le-leb, lt-ltb}
use Rattle.std.proofs.lemmas.Fmt.{digits_decimal, length-decimal-le}
use Rattle.std.proofs.lemmas.Str.Parse.{IsNumeralModel, numerals_by_value, tells_all_ascii_digits}
use Rattle.castor_val.specs.declared.value.Ty.{Ty}
use Rattle.castor_tree.specs.declared.tree.Word.{Word}
use Rattle.castor_tokens.specs.Tokens.{is_name, keyword_of}
use Rattle.castor_tree.specs.Formed.{is_alias, is_word}
use Rattle.castor_names.proofs.Outcomes.{left_true, right_true}
use Rattle.castor_names.specs.Names.{called_or_numbered, column_numbered}
use Rattle.castor_names.specs.NameForms.{begins_name, continues_name, has_name_form}
use Rattle.castor_names.specs.declared.column.NamedColumn.{NamedColumn}

-- a name has a first byte
nonempty : (name : List ℕ) → begins_name (slice_index name 0) ≡ true → nat_lt 0 (length name) ≡ true
nonempty [] begins = absurd cc
nonempty (b ∷ name) begins = lt-ltb 0 (length (b ∷ name)) (omega arith)

pub word_named : (w : Word) → is_word w ≡ true → has_name_form w.text ≡ true
word_named w is =
    let name = left_true (is_name w.text) (nat_le (length w.text) 64) is in
    let begins = left_true (begins_name (slice_index w.text 0)) (list_all continues_name w.text && is_none (keyword_of w.text)) name in
    let rest = right_true (begins_name (slice_index w.text 0)) (list_all continues_name w.text && is_none (keyword_of w.text)) name in
    let bytes = left_true (list_all continues_name w.text) (is_none (keyword_of w.text)) rest in
    let short = right_true (is_name w.text) (nat_le (length w.text) 64) is in
    λ i. begins i && (bytes i && (nonempty w.text begins i && short i))

digits : IsNumeralModel (λ ds. all_ascii_digits ds ≡ true) (digits_value 10)
digits = numerals_by_value _ tells_all_ascii_digits

digit_continues : (b : ℕ) → is_ascii_digit b ≡ true → continues_name b ≡ true
digit_continues b is = ap (λ (digit : Bool). ((digit || is_in_range 65 90 b) || is_in_range 97 122 b) || b == 95) is

digits_continue : (ds : List ℕ) → all_ascii_digits ds ≡ true → list_all continues_name ds ≡ true
digits_continue [] are = refl
digits_continue (d ∷ ds) are =
    λ i. digit_continues d (left_true (is_ascii_digit d) (all_ascii_digits ds) are) i && digits_continue ds (right_true (is_ascii_digit d) (all_ascii_digits ds) are) i

-- a column without a name of its own
pub numbered_named : (number : ℕ) (type : Ty) → number < 64 → has_name_form (column_numbered number type).name ≡ true
numbered_named number type few =
    let continue = digits_continue (decimal number) (digits_decimal digits number (omega arith)) in
    let short = length-decimal-le 2 number (omega arith) (omega arith) (omega arith) in
    let bounds : (nat_lt 0 (length (99 ∷ decimal number)) && nat_le (length (99 ∷ decimal number)) 64) ≡ true =
    λ i. lt-ltb 0 (length (99 ∷ decimal number)) (omega arith) i && le-leb (length (99 ∷ decimal number)) 64 (omega arith) i in
    λ i. true && ((true && continue i) && bounds i)

pub called_named : (name : Option Word) (number : ℕ) (type : Ty) → is_alias name ≡ true → number < 64 → has_name_form (called_or_numbered name number type).name ≡ true
called_named None number type is few = numbered_named number type few
called_named (Some word) number type is few = word_named word is
