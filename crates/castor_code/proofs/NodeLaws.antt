-- Nodes behind their tags, and values: what is written is read, and what is read is so written.
use Rattle.std.proofs.Common.{◌≡◌, ◌∙◌, ℕ, zero, suc, ℤ, ◌+◌, ◌^◌, ◌<◌, nat_le, List, ◌++◌, take, drop, length, Bool, true, false, ◌&&◌, Option, Some, None, subst, ap, sym, refl, arith, length-append}
use Rattle.std.specs.Int.{cast_signed, cast_unsigned, w64}
use Rattle.std.specs.Str.{is_utf8}
use Rattle.std.proofs.Math.Facts.{Fits-lt-pow, Fits-of_lt, Fits-of_z, sfits_to_z}
use Rattle.std.proofs.lemmas.Bool.{and_parts, and_from, le-leb, leb-true}
use Rattle.std.proofs.lemmas.Int.{to_z-of_z, of_z-to_z}
use Rattle.std.proofs.lemmas.List.{take_at, drop_at, take-append-drop, length-take-le}
use Rattle.std.proofs.lemmas.Option.{some_pair_parts, none-some, same_Some}
use Rattle.castor_val.specs.Values.{is_int}
use Rattle.castor_val.proofs.FieldLaws.{fits_from_is_int, is_int-from_fits}
use Rattle.castor_code.specs.Steps.{made}
use Rattle.castor_code.specs.Forms.{Form, plain, u8_form, u16_form, u64_form, int_form, bool_form, text_form, node}
use Rattle.castor_code.specs.CodeReadings.{Input, Parse, u8_in, u16_in, u64_in, int_in, bool_of, bool_in, with_left, told, utf8_in, text_in}
use Rattle.castor_code.proofs.StepLaws.{got, next_of, came, when_holds, let_through}
use Rattle.castor_code.proofs.InputLaws.{front, Good, Reads, Writes, same_input, front_then, first_good, second_good, both_good, number_reads, number_writes}

-- what a thing that was read is written as: a node of this tag, and its parts
pub record Node {Y : Type 0} (levels tag : ℕ) (forms : Y → Form) (s t : Input) (y : Y) : Type 0 where
  pub parts : Form
  pub is : forms y ≡ node tag parts
  pub good : Good levels parts
  pub left : s ≡ front parts t

module _ {X Y : Type 0} (levels tag : ℕ) (forms : Y → Form) where
  pub made_node : (h : X → Y) (one : Parse X) (form : X → Form) → ((x : X) → forms (h x) ≡ node tag (form x)) → Writes levels one form → (s t : Input) (y : Y) → made h one s ≡ Some (y, t) → Node levels tag forms s t y
  made_node h one form same law s t y is =
      let b = came (one s) (λ x u. got (h x) u) (y, t) is in
      let parts = some_pair_parts _ _ _ _ b.answer in
      let all = law s b.left b.first b.read in
      record { parts = form b.first; is = sym (ap forms parts.0) ∙ same b.first; good = all.0; left = all.1 ∙ ap (front (form b.first)) parts.1 }

module _ {X Y : Type 0} (levels : ℕ) where
  pub told_reads : (f : X → Option Y) (one : Parse X) (form : Form) (x : X) (y : Y) → f x ≡ Some y → Reads levels one form x → Reads levels (told f one) form y
  told_reads f one form x y is law s good = next_of _ _ _ _ (law s good) ∙ ap (λ (o : Option Y). with_left o s) is

  told_by : (f : X → Option Y) (x : X) (u t : Input) (y : Y) (o : Option Y) → f x ≡ o → with_left o u ≡ Some (y, t) → (f x ≡ Some y) × (u ≡ t)
  told_by f x u t y None is e = absurd (none-some _ e)
  told_by f x u t y (Some z) is e = let parts = some_pair_parts _ _ _ _ e in (is ∙ ap (λ w. Some w) parts.0, parts.1)

  pub told_parts : (f : X → Option Y) (one : Parse X) (s t : Input) (y : Y) → told f one s ≡ Some (y, t) → (x : X) × (one s ≡ Some (x, t)) × (f x ≡ Some y)
  told_parts f one s t y is =
      let b = came (one s) (λ x u. with_left (f x) u) (y, t) is in
      let by = told_by f b.first b.left t y (f b.first) refl b.answer in
      (b.first, b.read ∙ ap (got b.first) by.1, by.0)

  pub told_writes : (f : X → Option Y) (one : Parse X) (form : X → Form) (forms : Y → Form) → ((x : X) (y : Y) → f x ≡ Some y → form x ≡ forms y) → Writes levels one form → Writes levels (told f one) forms
  told_writes f one form forms same law s t y is =
      let by = told_parts f one s t y is in
      let all = law s t by.0 by.1 in
      let form_is = same by.0 y by.2 in
      (subst (Good levels) form_is all.0, all.1 ∙ ap (λ (g : Form). front g t) form_is)

pub int_reads : (levels : ℕ) (z : ℤ) → Reads levels int_in (int_form z) z
int_reads levels z s good =
    let fits = fits_from_is_int z good.sound in
    let below : cast_unsigned w64 z < 2 ^ 64 = Fits-lt-pow (Fits-of_z fits) in
    let small : nat_le (cast_unsigned w64 z) 18446744073709551615 ≡ true = le-leb _ _ (omega arith) in
    next_of _ _ _ _ (number_reads levels 18446744073709551615 (cast_unsigned w64 z) s (record { sound = small; depth = good.depth }))
    ∙ ap (λ x. got x s) (to_z-of_z w64 z fits)

pub int_writes : (levels : ℕ) → Writes levels int_in int_form
int_writes levels s t z is =
    let b = came (u64_in s) (λ n u. got (cast_signed w64 n) u) (z, t) is in
    let parts = some_pair_parts _ _ _ _ b.answer in
    let all = number_writes levels 18446744073709551615 s b.left b.first b.read in
    let small = leb-true b.first 18446744073709551615 all.0.sound in
    let below : b.first < 2 ^ 64 = omega arith in
    let back : cast_unsigned w64 z ≡ b.first = ap (cast_unsigned w64) (sym parts.0) ∙ of_z-to_z w64 b.first below in (
      record { sound = ap is_int (sym parts.0) ∙ is_int-from_fits (cast_signed w64 b.first) (sfits_to_z (Fits-of_lt below)); depth = omega arith },
      all.1 ∙ ap (λ n. front (u64_form n) b.left) (sym back) ∙ ap (front (int_form z)) parts.1,
    )

pub bool_reads : (levels : ℕ) (b : Bool) → Reads levels bool_in (bool_form b) b
bool_reads levels true = told_reads levels bool_of u8_in (u8_form 1) 1 true refl (number_reads levels 255 1)
bool_reads levels false = told_reads levels bool_of u8_in (u8_form 0) 0 false refl (number_reads levels 255 0)

bool_number : (n : ℕ) (b : Bool) → bool_of n ≡ Some b → u8_form n ≡ bool_form b
bool_number zero b is = ap bool_form (same_Some false b is)
bool_number (suc zero) b is = ap bool_form (same_Some true b is)
bool_number (suc (suc n)) b is = absurd (none-some b is)

pub bool_writes : (levels : ℕ) → Writes levels bool_in bool_form
bool_writes levels = told_writes levels bool_of u8_in u8_form bool_form bool_number (number_writes levels 255)

pub text_reads : (levels : ℕ) (text : List ℕ) → Reads levels text_in (text_form text) text
text_reads levels text s good =
    let head = u16_form (length text) in
    let rest = plain (is_utf8 text) text in
    let begins : take (length text) (text ++ s.bytes) ≡ text = take_at text s.bytes (length text) refl in
    let ends : drop (length text) (text ++ s.bytes) ≡ s.bytes = drop_at text s.bytes (length text) refl in
    let long : nat_le (length text) (length (text ++ s.bytes)) ≡ true = le-leb _ _ (omega (arith, length-append text s.bytes)) in
    ap text_in (front_then head rest s)
    ∙ next_of _ _ _ _ (number_reads levels 65535 (length text) (front rest s) (first_good levels head rest good))
    ∙ when_holds _ _ (and_from _ _ long (ap is_utf8 begins ∙ (second_good levels head rest good).sound))
    ∙ ap (λ (x : List ℕ). got x (record { bytes = drop (length text) (text ++ s.bytes); nodes = 0 + s.nodes })) begins
    ∙ ap (got text) (same_input _ _ ends (none s.nodes))
  where
    none : (n : ℕ) → 0 + n ≡ n
    none n = omega arith

pub text_writes : (levels : ℕ) → Writes levels text_in text_form
text_writes levels s t text is =
    let b = came (u16_in s) (λ n u. utf8_in n u) (text, t) is in
    let left = b.left in
    let found = let_through (nat_le b.first (length left.bytes) && is_utf8 (take b.first left.bytes)) (take b.first left.bytes) text (record { bytes = drop b.first left.bytes; nodes = left.nodes }) t b.answer in
    let tests = and_parts _ _ found.holds in
    let long : length text ≡ b.first = ap length (sym found.value) ∙ length-take-le b.first left.bytes (leb-true _ _ tests.0) in
    let utf8 : is_utf8 text ≡ true = ap is_utf8 (sym found.value) ∙ tests.1 in
    let all = number_writes levels 65535 s left b.first b.read in
    let head = u16_form (length text) in
    let rest = plain (is_utf8 text) text in
    let bytes : left.bytes ≡ text ++ t.bytes = sym (take-append-drop b.first left.bytes) ∙ ap (λ xs. xs ++ drop b.first left.bytes) found.value ∙ ap (λ (x : Input). text ++ x.bytes) found.left in
    let nodes : left.nodes ≡ 0 + t.nodes = ap (λ (x : Input). x.nodes) found.left ∙ sym (none t.nodes) in (
      both_good levels head rest (subst (λ n. Good levels (u16_form n)) (sym long) all.0) (record { sound = utf8; depth = omega arith }),
      all.1 ∙ ap (λ n. front (u16_form n) left) (sym long) ∙ ap (front head) (same_input left (front rest t) bytes nodes) ∙ sym (front_then head rest t),
    )
  where
    none : (n : ℕ) → 0 + n ≡ n
    none n = omega arith
