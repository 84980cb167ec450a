-- Texts at the front of what is left to read.
use Rattle.std.proofs.Common.{◌≡◌, ◌∙◌, ℕ, ◌≤◌, nat_le, List, take, drop, length, Bool, true, false, ◌&&◌, Some, None, subst, ap, sym, refl}
use Rattle.std.specs.Str.{IsUtf8, is_utf8}
use Rattle.std.proofs.lemmas.Bool.{and_from, false_from_ne_true, le-leb}
use Rattle.std.proofs.lemmas.Str.{IsUtf8-from_is_utf8, is_utf8-from_IsUtf8}
use Rattle.castor_code.specs.CodeReadings.{Input, utf8_in}
use Rattle.castor_code.specs.Steps.{when}
use Rattle.castor_code.proofs.StepLaws.{got, when_holds}

pub utf8_there : (n : ℕ) (s : Input) (front rest text : List ℕ) → n ≤ length s.bytes → front ≡ take n s.bytes → rest ≡ drop n s.bytes → IsUtf8 front → text ≡ front → utf8_in n s ≡ Some (text, record { bytes = rest; nodes = s.nodes })
utf8_there n s front rest text le front_is rest_is utf8 text_is =
    when_holds _ _ (and_from _ _ (le-leb _ _ le) (is_utf8-from_IsUtf8 _ (subst IsUtf8 front_is utf8)))
    ∙ ap (λ (t : List ℕ). got {S = Input} t (record { bytes = drop n s.bytes; nodes = s.nodes })) (sym (text_is ∙ front_is))
    ∙ ap (λ (r : List ℕ). got {S = Input} text (record { bytes = r; nodes = s.nodes })) (sym rest_is)

second_false : (a b : Bool) → b ≡ false → (a && b) ≡ false
second_false true b is = is
second_false false b is = refl

pub utf8_none : (n : ℕ) (s : Input) (front : List ℕ) → front ≡ take n s.bytes → (IsUtf8 front → ⊥) → utf8_in n s ≡ None
utf8_none n s front front_is other =
    let unequal : is_utf8 (take n s.bytes) ≡ false = false_from_ne_true (is_utf8 (take n s.bytes)) (λ same. other (subst IsUtf8 (sym front_is) (IsUtf8-from_is_utf8 _ same))) in
    ap (λ (b : Bool). when {X = List ℕ × Input} b (take n s.bytes, record { bytes = drop n s.bytes; nodes = s.nodes })) (second_false (nat_le n (length s.bytes)) (is_utf8 (take n s.bytes)) unequal)
