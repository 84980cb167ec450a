-- The sections of an image, put before the length of the data is known.
use Rattle.std.proofs.Common.{◌≡◌, ◌∙◌, ℕ, ◌+◌, ◌-◌, List, ◌++◌, take, drop, length, ap, sym, arith, append_assoc, length-append}
use Rattle.std.proofs.lemmas.List.{take_at, drop_at}
use Rattle.castor_fixed.proofs.FieldLaws.{length-field}
use Rattle.castor_image.specs.declared.head.Head.{Head}
use Rattle.castor_image.specs.Heads.{head_bytes}
use Rattle.castor_image.specs.Images.{IsOverhead, length_field, magic, sections}

-- a length takes 8 bytes
length_long : (n : ℕ) → length (length_field n) ≡ 8
length_long n = length-field 18446744073709551615 n

-- what stands once the data is put, with a length for that of the data
module _ (old code data_part : List ℕ) (n : ℕ) where
  abbrev before : List ℕ
  before = old ++ length_field (length code)

  abbrev pub SoFar : List ℕ → ℕ → ℕ → Type 0
  SoFar image at first =
      (image ≡ old ++ length_field (length code) ++ length_field n ++ code ++ data_part)
      × (at ≡ length (old ++ length_field (length code)))
      × (first ≡ length (old ++ length_field (length code) ++ length_field n ++ code))

  module _ (image : List ℕ) (at first : ℕ) (so : SoFar image at first) where
    in_front : image ≡ before ++ (length_field n ++ (code ++ data_part))
    in_front = so.0 ∙ append_assoc (before ++ length_field n) code data_part ∙ append_assoc before (length_field n) (code ++ data_part)

    behind : image ≡ before ++ length_field n ++ (code ++ data_part)
    behind = so.0 ∙ append_assoc (before ++ length_field n) code data_part

    front_is : take at image ≡ before
    front_is = ap (take at) in_front ∙ take_at before _ at (sym so.1)

    rest_is : drop (at + 8) image ≡ code ++ data_part
    rest_is = ap (drop (at + 8)) behind ∙ drop_at (before ++ length_field n) (code ++ data_part) (at + 8) (omega (arith, so.1, length_long n, length-append before (length_field n)))

    size_is : length image - first ≡ length data_part
    size_is = omega (arith, ap length so.0, so.2, length-append (before ++ length_field n ++ code) data_part)

    pub sections_put : (size : ℕ) (new : List ℕ) → size ≡ length image → new ≡ take at image ++ (length_field (size - first) ++ drop (at + 8) image) → new ≡ old ++ sections code data_part
    sections_put size new whole is =
        is
        ∙ ap (λ xs. xs ++ (length_field (size - first) ++ drop (at + 8) image)) front_is
        ∙ ap (λ k. before ++ (length_field k ++ drop (at + 8) image)) (ap (λ k. k - first) whole ∙ size_is)
        ∙ ap (λ xs. before ++ (length_field (length data_part) ++ xs)) rest_is
        ∙ append_assoc old (length_field (length code)) (length_field (length data_part) ++ (code ++ data_part))

-- what is put, one thing after the other
pub put_so_far : (old code data_part one two three four slice : List ℕ) (n k at first : ℕ) → k ≡ length code → slice ≡ code → one ≡ old ++ length_field k → two ≡ one ++ length_field n → three ≡ two ++ slice → four ≡ three ++ data_part
    → at ≡ length one → first ≡ length three → SoFar old code data_part n four at first
put_so_far old code data_part one two three four slice n k at first long same puts_code puts_room puts_bytes puts_data place front =
    let a : one ≡ old ++ length_field (length code) = puts_code ∙ ap (λ j. old ++ length_field j) long in
    let b : two ≡ old ++ length_field (length code) ++ length_field n = puts_room ∙ ap (λ xs. xs ++ length_field n) a in
    let c : three ≡ old ++ length_field (length code) ++ length_field n ++ code = puts_bytes ∙ ap (λ xs. two ++ xs) same ∙ ap (λ xs. xs ++ code) b in
    (puts_data ∙ ap (λ xs. xs ++ data_part) c, place ∙ ap length a, front ∙ ap length c)

-- ---- all but the data

six_parts : (a b c d e f : List ℕ) → length (a ++ (b ++ (c ++ (d ++ (e ++ f))))) ≡ length a + (length b + (length c + (length d + (length e + length f))))
six_parts a b c d e f =
    length-append a _ ∙ ap (λ (n : ℕ). length a + n) (length-append b _ ∙ ap (λ (n : ℕ). length b + n) (length-append c _ ∙ ap (λ (n : ℕ). length c + n) (length-append d _ ∙ ap (λ (n : ℕ). length d + n) (length-append e f))))

pub around_is : (head : Head) (code marked headed measured filled whole : List ℕ) (n : ℕ) → marked ≡ magic → headed ≡ marked ++ head_bytes head → measured ≡ headed ++ length_field (length code) → filled ≡ measured ++ length_field 0
    → whole ≡ filled ++ code → n ≡ length whole → IsOverhead head code n
around_is head code marked headed measured filled whole n a b c d e size data_part =
    let parts = six_parts magic (head_bytes head) (length_field (length code)) (length_field (length data_part)) code data_part in
    omega (
      arith,
      parts,
      size,
      ap length e ∙ length-append filled code,
      ap length d ∙ length-append measured (length_field 0),
      ap length c ∙ length-append headed (length_field (length code)),
      ap length b ∙ length-append marked (head_bytes head),
      ap length a,
      length_long (length code),
      length_long (length data_part),
      length_long 0,
    )
