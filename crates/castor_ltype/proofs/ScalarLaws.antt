-- The sizes of values under the codes of their types.
use Rattle.std.proofs.Common.{◌≡◌, ◌∙◌, ℕ, ◌+◌, ◌*◌, ◌-◌, ◌≤◌, ℤ, List, [], map, length, length-append, sum, take, refl, sym, ap, option_map, Option, Some, None, arith}
use Rattle.std.specs.Int.{int_gap}
use Rattle.std.proofs.lemmas.List.{take_all}
use Rattle.std.proofs.lemmas.List.Sums.{sum_by-cons}
use Rattle.castor_val.specs.declared.value.Cell.{Cell}
use Rattle.castor_val.specs.declared.value.Value.{Value}
use Rattle.castor_val.specs.declared.value.Value.TheVariants.{Int, Bool as Truth, Text}
use Rattle.castor_val.specs.Values.{value_of}
use Rattle.castor_fixed.specs.Fields.{width}
use Rattle.castor_fixed.proofs.FieldLaws.{length-field}
use Rattle.castor_code.specs.declared.code.Code as C
use Rattle.castor_code.specs.declared.code.Range.{Range}
use Rattle.castor_code.specs.Pieces.{Piece, bool_piece, int_piece, ranged_field, text_piece}
use Rattle.castor_ltype.specs.Places.{int_in, text_length_in}
use Rattle.castor_ltype.specs.Sizes.{range_bytes, value_held, value_size}
use Rattle.castor_ltype.proofs.LaidLaws.{leaf_of-value_held}
use Rattle.castor_ltype.proofs.PieceLaws.{piece-Bool, piece-Int, piece-Text}
use Rattle.castor_ltype.proofs.SizeLaws.{map-same}

abbrev bytes_in : Piece → ℕ
bytes_in p = length p.bytes

bool_size : (o : Option Value) → value_size C.Bool o ≡ length (bool_piece o).bytes
bool_size o = ap bytes_in (piece-Bool (value_held o)) ∙ ap (λ (x : Option Value). bytes_in (bool_piece x)) (leaf_of-value_held o)

one_width : (w : ℕ) → w ≡ w * 1
one_width w = omega arith

no_width : (w : ℕ) → 0 ≡ w * 0
no_width w = omega arith

int_bytes : (lo hi : ℤ) (o : Option Value) → length (int_piece lo hi o).bytes ≡ width (int_gap lo hi) * length (int_in o)
int_bytes lo hi (Some (Int z)) = length-field (int_gap lo hi) (int_gap lo z) ∙ one_width (width (int_gap lo hi))
int_bytes lo hi (Some (Truth b)) = no_width (width (int_gap lo hi))
int_bytes lo hi (Some (Text t)) = no_width (width (int_gap lo hi))
int_bytes lo hi None = no_width (width (int_gap lo hi))

int_size : (lo hi : ℤ) (o : Option Value) → value_size (C.Int lo hi) o ≡ width (int_gap lo hi) * length (int_in o)
int_size lo hi o = ap bytes_in (piece-Int (value_held o) lo hi) ∙ ap (λ (x : Option Value). bytes_in (int_piece lo hi x)) (leaf_of-value_held o) ∙ int_bytes lo hi o

text_bytes : (r : Range) (o : Option Value) → length (text_piece r o).bytes ≡ sum (map (λ n. range_bytes r + n) (text_length_in o))
text_bytes r (Some (Int z)) = refl
text_bytes r (Some (Truth b)) = refl
text_bytes r (Some (Text t)) =
    let one : (range_bytes r + length t) + 0 ≡ range_bytes r + length t = omega arith in
    length-append (ranged_field r (length t)) t ∙ ap (λ n. n + length t) (length-field (r.hi - r.lo) (length t - r.lo)) ∙ sym (sum_by-cons (λ (n : ℕ). n) (range_bytes r + length t) [] ∙ one)
text_bytes r None = refl

text_size : (min max : ℕ) (o : Option Value) → value_size (C.Text min max) o ≡ sum (map (λ n. range_bytes (record { lo = min; hi = max }) + n) (text_length_in o))
text_size min max o = ap bytes_in (piece-Text (value_held o) min max) ∙ ap (λ (x : Option Value). bytes_in (text_piece (record { lo = min; hi = max }) x)) (leaf_of-value_held o) ∙ text_bytes (record { lo = min; hi = max }) o

abbrev seen : Option Cell → Option Value
seen o = option_map value_of o

module _ (cells : List (Option Cell)) (i : ℕ) (sizes : List ℕ) (end : length cells ≤ i) where
  pub bools_sized : sizes ≡ map (λ (o : Option Cell). length (bool_piece (seen o)).bytes) (take i cells) → sizes ≡ map (λ (o : Option Cell). value_size C.Bool (seen o)) cells
  bools_sized so = so ∙ ap (map (λ (o : Option Cell). length (bool_piece (seen o)).bytes)) (take_all i cells end) ∙ map-same _ (λ (o : Option Cell). value_size C.Bool (seen o)) (λ o. sym (bool_size (seen o))) cells

  pub ints_sized : (lo hi : ℤ) (w : ℕ) → w ≡ width (int_gap lo hi) → sizes ≡ map (λ (o : Option Cell). w * length (int_in (seen o))) (take i cells) → sizes ≡ map (λ (o : Option Cell). value_size (C.Int lo hi) (seen o)) cells
  ints_sized lo hi w is so =
      so ∙ ap (map (λ (o : Option Cell). w * length (int_in (seen o)))) (take_all i cells end) ∙ ap (λ n. map (λ (o : Option Cell). n * length (int_in (seen o))) cells) is
      ∙ map-same _ (λ (o : Option Cell). value_size (C.Int lo hi) (seen o)) (λ o. sym (int_size lo hi (seen o))) cells

  pub texts_sized : (r : Range) (min max w : ℕ) → w ≡ width (r.hi - r.lo) → min ≡ r.lo → max ≡ r.hi → sizes ≡ map (λ (o : Option Cell). sum (map (λ n. w + n) (text_length_in (seen o)))) (take i cells) → sizes ≡ map (λ (o : Option Cell). value_size (C.Text min max) (seen o)) cells
  texts_sized r min max w is low high so =
      let wide : w ≡ range_bytes (record { lo = min; hi = max }) = is ∙ (λ j. width (sym high j - sym low j)) in
      so ∙ ap (map (λ (o : Option Cell). sum (map (λ n. w + n) (text_length_in (seen o))))) (take_all i cells end) ∙ ap (λ v. map (λ (o : Option Cell). sum (map (λ n. v + n) (text_length_in (seen o)))) cells) wide
      ∙ map-same _ (λ (o : Option Cell). value_size (C.Text min max) (seen o)) (λ o. sym (text_size min max (seen o))) cells
