-- Fields as code finds them at the front of bytes.
use Rattle.std.proofs.Common.{◌≡◌, ◌∙◌, ℕ, ◌+◌, ◌^◌, ◌<◌, ◌≤◌, List, ◌++◌, length, Option, Some, None, ap, sym, refl, arith, length-append}
use Rattle.std.proofs.lemmas.Option.{some_pair_parts}
use Rattle.castor_fixed.specs.Fields.{width, field, number}
use Rattle.castor_fixed.proofs.FieldLaws.{below-width, width-least, length-field, number-field, number-taken}

-- the greatest number may be greater where its fields are as wide
wider : (most n : ℕ) → most < n → n < 256 ^ width most → width n ≡ width most
wider most n more fits =
    let up : width n ≤ width most = width-least n (width most) fits in
    let top : n < 256 ^ width n = below-width n n (omega arith) in
    let down : width most ≤ width n = width-least most (width n) (omega arith) in
    omega arith

same_field : (most n m : ℕ) → width n ≡ width most → field n m ≡ field most m
same_field most n m is = cc

module _ (most : ℕ) (bs : List ℕ) where
  -- bytes that are too few begin with no field
  pub number_short : (w : ℕ) → w ≡ width most → length bs < w → None ≡ number most bs
  number_short w is short = by (number most bs) refl
    where
      by : (o : Option (ℕ × List ℕ)) → number most bs ≡ o → None ≡ o
      by None found = refl
      by (Some x) found =
          let of_field = number-taken most x.0 bs x.1 found in
          let long : length bs ≡ width most + length x.1 = ap length of_field.1 ∙ length-append (field most x.0) x.1 ∙ ap (λ n. n + length x.1) (length-field most x.0) in
          let no : ⊥ = omega arith in
          absurd no

  -- nor do bytes with a number above the greatest
  pub number_large : (n : ℕ) (rest : List ℕ) → bs ≡ field most n ++ rest → n < 256 ^ width most → most < n → None ≡ number most bs
  number_large n rest is fits more = by (number most bs) refl
    where
      by : (o : Option (ℕ × List ℕ)) → number most bs ≡ o → None ≡ o
      by None found = refl
      by (Some x) found =
          let of_field = number-taken most x.0 bs x.1 found in
          let wide = wider most n more fits in
          let first : number n bs ≡ Some (n, rest) = ap (number n) (is ∙ ap (λ xs. xs ++ rest) (sym (same_field most n n wide))) ∙ number-field n n rest (omega arith) in
          let second : number n bs ≡ Some (x.0, x.1) = ap (number n) (of_field.1 ∙ ap (λ xs. xs ++ x.1) (sym (same_field most n x.0 wide))) ∙ number-field n x.0 x.1 (omega (arith, of_field.0)) in
          let same : n ≡ x.0 = (some_pair_parts _ _ _ _ (sym first ∙ second)).0 in
          let no : ⊥ = omega (arith, of_field.0) in
          absurd no

  -- other bytes begin with the field of their number
  pub number_there : (n : ℕ) (rest : List ℕ) → bs ≡ field most n ++ rest → n ≤ most → Some (n, rest) ≡ number most bs
  number_there n rest is le = sym (ap (number most) is ∙ number-field most n rest le)
