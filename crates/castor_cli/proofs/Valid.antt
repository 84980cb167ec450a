-- That the parameters and columns of a checked query make a valid head.
use Rattle.std.proofs.Common.{◌≡◌, ℕ, List, [], ◌∷◌, length, Bool, true, false, ◌&&◌, ◌||◌, ◌==◌, not, nat_le, nat_lt, refl}
use Rattle.std.specs.List.{list_all, list_any}
use Rattle.std.specs.Str.{bytes_eq}
use Rattle.std.proofs.lemmas.Bool.{and_from, and_parts, eqb-true, le-leb}
use Rattle.castor_val.specs.declared.column.Column.{Column}
use Rattle.castor_code.specs.Pieces.{one_after_other}
use Rattle.castor_image.specs.Heads.{are_head_columns, are_params, column_piece, is_between, is_head, is_letter, is_head_name, is_word_byte, names}
use Rattle.castor_image.specs.Heads as image
use Rattle.castor_schema.specs.declared.checked.Checked.{Checked}
use Rattle.castor_names.specs.NameForms.{are_names, begins_name, continues_name, has_name_form}
use Rattle.castor_schema.specs.WellTyped.{AreNamed, AreWithinLimits}
use Rattle.castor_names.specs.NameForms as schema
use Rattle.castor_cli.specs.Building.{head_of}

-- ---- names

underscore : (b : ℕ) → (b == 95) ≡ true → is_between 95 95 b ≡ true
underscore b is = let same : b ≡ 95 = eqb-true _ _ is in rw same refl

or_up : (a b c : Bool) → (b ≡ true → c ≡ true) → (a || b) ≡ true → (a || c) ≡ true
or_up true b c f is = refl
or_up false b c f is = f is

letter_begins : (b : ℕ) → begins_name b ≡ true → is_letter b ≡ true
letter_begins b is = or_up _ (b == 95) (is_between 95 95 b) (underscore b) is

moved_digit : (d u l m n : Bool) → (m ≡ true → n ≡ true) → (((d || u) || l) || m) ≡ true → (((u || l) || n) || d) ≡ true
moved_digit true true l m n f is = refl
moved_digit true false true m n f is = refl
moved_digit true false false m true f is = refl
moved_digit true false false m false f is = refl
moved_digit false true l m n f is = refl
moved_digit false false true m n f is = refl
moved_digit false false false true n f is = rw (f refl) refl
moved_digit false false false false n f is = absurd (cc is)

byte_continues : (b : ℕ) → continues_name b ≡ true → is_word_byte b ≡ true
byte_continues b is = moved_digit (is_between 48 57 b) (is_between 65 90 b) (is_between 97 122 b) (b == 95) (is_between 95 95 b) (underscore b) is

bytes_continue : (bs : List ℕ) → list_all continues_name bs ≡ true → list_all is_word_byte bs ≡ true
bytes_continue [] are = refl
bytes_continue (b ∷ bs) are =
    let tests = and_parts (continues_name b) (list_all continues_name bs) are in
    and_from _ _ (byte_continues b tests.0) (bytes_continue bs tests.1)

name_formed : (name : List ℕ) → has_name_form name ≡ true → is_head_name name ≡ true
name_formed [] is = absurd (cc is)
name_formed (b ∷ bs) is =
    let tests = and_parts (begins_name b) _ is in
    let rest = and_parts (list_all continues_name (b ∷ bs)) _ tests.1 in
    let bytes = and_parts (continues_name b) (list_all continues_name bs) rest.0 in
    let sizes = and_parts (nat_lt 0 (length (b ∷ bs))) (nat_le (length (b ∷ bs)) 64) rest.1 in
    and_from _ _ (and_from _ _ (letter_begins b tests.0) (bytes_continue bs bytes.1)) sizes.1

columns_formed : (cs : List Column) → are_names cs ≡ true → (one_after_other column_piece cs).fits ≡ true
columns_formed [] are = refl
columns_formed (c ∷ cs) are =
    let tests = and_parts (has_name_form c.name) (are_names cs) are in
    and_from _ _ (name_formed c.name tests.0) (columns_formed cs tests.1)

-- ---- distinct names

none_is : (name : List ℕ) (rest : List (List ℕ)) → not (list_any (bytes_eq name) rest) ≡ true → list_all (λ u. not (bytes_eq name u)) rest ≡ true
none_is name [] none = refl
none_is name (u ∷ us) none = by (bytes_eq name u) none (none_is name us)
  where
    by : (same : Bool) → not (same || list_any (bytes_eq name) us) ≡ true → (not (list_any (bytes_eq name) us) ≡ true → list_all (λ v. not (bytes_eq name v)) us ≡ true)
        → (not same && list_all (λ v. not (bytes_eq name v)) us) ≡ true
    by true h rest = absurd (cc h)
    by false h rest = rest h

distinct_names : (ns : List (List ℕ)) → schema.are_distinct ns ≡ true → image.are_distinct ns ≡ true
distinct_names [] are = refl
distinct_names (n ∷ ns) are =
    let tests = and_parts (not (list_any (bytes_eq n) ns)) (schema.are_distinct ns) are in
    and_from _ _ (none_is n ns tests.0) (distinct_names ns tests.1)

-- the parameters and columns of a checked query make a valid head
pub head_valid : (c : Checked) → AreWithinLimits c → AreNamed c → is_head (head_of c) ≡ true
head_valid c limits named =
    and_from _ _
    (and_from _ _ (and_from _ _ (le-leb _ _ limits.few_params) (distinct_names (names c.params) limits.param_names)) (columns_formed c.params named.params))
    (and_from _ _ limits.columns (columns_formed c.columns named.columns))
