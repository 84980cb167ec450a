-- The codes of the columns of keys, one column more.
use Rattle.std.proofs.Common.{◌≡◌, ◌∙◌, ℕ, ◌+◌, ◌<◌, List, [], ◌∷◌, ◌++◌, map, length, take, get_or, refl, sym, ap, option_map, Option, Some, arith}
use Rattle.std.proofs.lemmas.List.{length-take-le, take_more}
use Rattle.std.proofs.lemmas.Simd.{map-map}
use Rattle.castor_val.specs.declared.value.Cell.{Cell}
use Rattle.castor_val.specs.declared.value.Ty.{Ty}
use Rattle.castor_val.specs.declared.value.Value.{Value}
use Rattle.castor_val.specs.Values.{value_of}
use Rattle.castor_alg.specs.declared.held.Entry.{Entry}
use Rattle.castor_code.specs.declared.code.Code.{Code}
use Rattle.castor_ltype.specs.declared.laid.Laid.{Laid}
use Rattle.castor_ltype.specs.declared.laid.LaidParts.{LaidParts}
use Rattle.castor_ltype.specs.Generation.{key_codes, scalar_code}
use Rattle.castor_ltype.specs.Places.{key_value}
use Rattle.castor_ltype.specs.Sizes.{added, key_size, value_size}
use Rattle.castor_ltype.proofs.SizeLaws.{added-map, key_size-more, map-same}

key_codes-more : (j : ℕ) (types : List Ty) (t : Ty) (es : List Entry) → key_codes j (types ++ t ∷ []) es ≡ key_codes j types es ++ scalar_code (Some t) (map (key_value (j + length types)) es) ∷ []
key_codes-more j [] t es = let at : j + 0 ≡ j = omega arith in ap (λ n. scalar_code (Some t) (map (key_value n) es) ∷ []) (sym at)
key_codes-more j (u ∷ types) t es =
    let at : (j + 1) + length types ≡ j + length (u ∷ types) = omega arith in
    ap (λ cs. scalar_code (Some u) (map (key_value j) es) ∷ cs) (key_codes-more (j + 1) types t es ∙ ap (λ n. key_codes (j + 1) types es ++ scalar_code (Some t) (map (key_value n) es) ∷ []) at)

length-key_codes : (j : ℕ) (types : List Ty) (es : List Entry) → length (key_codes j types es) ≡ length types
length-key_codes j [] es = refl
length-key_codes j (t ∷ types) es = let rest = length-key_codes (j + 1) types es in omega arith

abbrev seen : Option Cell → Option Value
seen o = option_map value_of o

-- no column yet
pub no_columns : {X : Type 0} (codes : List Code) (sizes : List ℕ) (xs : List X) (es : List Entry) → codes ≡ [] → length xs ≡ length es → sizes ≡ map (λ x. 0) xs → sizes ≡ map (key_size 0 codes) es
no_columns codes sizes xs es is many so = so ∙ none xs es many ∙ ap (λ cs. map (key_size 0 cs) es) (sym is)
  where
    none : {X : Type 0} (xs : List X) (es : List Entry) → length xs ≡ length es → map (λ (x : X). 0) xs ≡ map (key_size 0 []) es
    none [] [] same = refl
    none [] (e ∷ es) same = absurd (omega arith)
    none (x ∷ xs) [] same = absurd (omega arith)
    none (x ∷ xs) (e ∷ es) same = ap (λ ns. 0 ∷ ns) (none xs es (omega arith))

module _ (types : List Ty) (i at : ℕ) (t : Ty) (es : List Entry) (cells : List (Option Cell)) (before after : LaidParts) (column : Laid)
    (within : i < length types) (is : t ≡ get_or types i t) (here : at ≡ i) (codes : before.codes ≡ key_codes 0 (take i types) es) (sizes : before.sizes.items ≡ map (key_size 0 before.codes) es)
    (values : map (option_map value_of) cells ≡ map (key_value at) es) (code : column.code ≡ scalar_code (Some t) (map (option_map value_of) cells))
    (own : column.sizes.items ≡ map (λ (o : Option Cell). value_size column.code (option_map value_of o)) cells) (more : after.codes ≡ before.codes ++ column.code ∷ []) (summed : after.sizes.items ≡ added before.sizes.items column.sizes.items) where
  many : length (take i types) ≡ i
  many = length-take-le i types (omega arith)

  pub codes_more : after.codes ≡ key_codes 0 (take (i + 1) types) es
  codes_more =
      let place : 0 + length (take i types) ≡ at = omega (arith, many, here) in
      more ∙ (λ j. codes j ++ (code ∙ ap (scalar_code (Some t)) values) j ∷ [])
      ∙ ap (λ n. key_codes 0 (take i types) es ++ scalar_code (Some t) (map (key_value n) es) ∷ []) (sym place)
      ∙ sym (key_codes-more 0 (take i types) t es) ∙ ap (λ (ts : List Ty). key_codes 0 ts es) (ap (λ (u : Ty). take i types ++ u ∷ []) is ∙ sym (take_more types i t within))

  pub sizes_more : after.sizes.items ≡ map (key_size 0 after.codes) es
  sizes_more =
      let long : length before.codes ≡ i = ap length codes ∙ length-key_codes 0 (take i types) es ∙ many in
      let place : at ≡ 0 + length before.codes = omega (arith, long, here) in
      let behind : column.sizes.items ≡ map (λ (e : Entry). value_size column.code (key_value at e)) es = own ∙ sym (map-map (value_size column.code) (option_map value_of) cells) ∙ ap (map (value_size column.code)) values ∙ map-map (value_size column.code) (key_value at) es in
      summed ∙ (λ j. added (sizes j) (behind j)) ∙ added-map (key_size 0 before.codes) (λ (e : Entry). value_size column.code (key_value at e)) es
      ∙ ap (λ n. map (λ (e : Entry). key_size 0 before.codes e + value_size column.code (key_value n e)) es) place
      ∙ map-same (λ (e : Entry). key_size 0 before.codes e + value_size column.code (key_value (0 + length before.codes) e)) (key_size 0 (before.codes ++ column.code ∷ [])) (λ e. sym (key_size-more 0 before.codes column.code e)) es
      ∙ ap (λ (cs : List Code). map (key_size 0 cs) es) (sym more)
