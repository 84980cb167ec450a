-- Texts at the front of bytes.
use Rattle.std.proofs.Common.{◌≡◌, ◌∙◌, ℕ, ◌≤◌, nat_le, List, take, drop, length, Bool, false, Some, None, subst, ap, sym}
use Rattle.std.specs.Str.{IsUtf8, is_utf8}
use Rattle.std.proofs.lemmas.Bool.{and_from, false_from_ne_true, le-leb}
use Rattle.std.proofs.lemmas.Str.{IsUtf8-from_is_utf8, is_utf8-from_IsUtf8}
use Rattle.castor_code.specs.Steps.{when}
use Rattle.castor_code.proofs.StepLaws.{got, when_holds}
use Rattle.castor_image.specs.HeadReadings.{utf8_read}
use Rattle.castor_image.proofs.PutLaws.{second_fails}

pub utf8_there : (n : ℕ) (bs front rest text : List ℕ) → n ≤ length bs → front ≡ take n bs → rest ≡ drop n bs → IsUtf8 front → text ≡ front → utf8_read n bs ≡ Some (text, rest)
utf8_there n bs front rest text le front_is rest_is utf8 text_is =
    when_holds _ _ (and_from _ _ (le-leb _ _ le) (is_utf8-from_IsUtf8 _ (subst IsUtf8 front_is utf8)))
    ∙ ap (λ (t : List ℕ). got t (drop n bs)) (sym (text_is ∙ front_is))
    ∙ ap (λ (r : List ℕ). got text r) (sym rest_is)

pub utf8_none : (n : ℕ) (bs front : List ℕ) → front ≡ take n bs → (IsUtf8 front → ⊥) → utf8_read n bs ≡ None
utf8_none n bs front front_is other =
    let unequal : is_utf8 (take n bs) ≡ false = false_from_ne_true (is_utf8 (take n bs)) (λ same. other (subst IsUtf8 (sym front_is) (IsUtf8-from_is_utf8 _ same))) in
    ap (λ (b : Bool). when {X = List ℕ × List ℕ} b (take n bs, drop n bs)) (second_fails (nat_le n (length bs)) (is_utf8 (take n bs)) unequal)
