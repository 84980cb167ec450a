-- The values of keys, as the parts that they are.
use Rattle.std.proofs.Common.{◌≡◌, ◌∙◌, ℕ, suc, List, [], ◌∷◌, ◌++◌, length, map, Result, None, true, false, ap, sym, refl}
use Rattle.castor_val.specs.declared.value.Value.{Value}
use Rattle.castor_alg.specs.declared.held.Entry.{Entry}
use Rattle.castor_alg.specs.declared.held.Held.{Held, Leaf, out-roll-Held}
use Rattle.castor_alg.specs.declared.held.Held.TheVariants.{rolls-Leaf}
use Rattle.castor_alg.specs.declared.held.Held.TheOpen as F
use Rattle.castor_code.specs.declared.code.Code.{Code, out-Code, roll-out-Code, fold-roll-Code}
use Rattle.castor_code.specs.declared.code.Code.TheOpen.{Code-F}
use Rattle.castor_code.specs.declared.code.Code.TheOpen as code
use Rattle.castor_code.specs.declared.code.Code.TheFolds.{map-Code}
use Rattle.castor_code.specs.Shapes.{parts_of, rows_of, keyed_of, inner_of, parts_in, rows_in, keyed_in, inner_in}
use Rattle.castor_code.specs.Pieces.{Piece, both, int_piece, bool_piece, text_piece, parts_piece, inner_piece, list_piece, side_by_side}
use Rattle.castor_code.specs.Directories.{entry_piece, hash_piece, ord_piece}
use Rattle.castor_code.specs.Data.{Format, format, format_step, writers}
use Rattle.castor_code.proofs.ShapeLaws.{leaf_of-Leaf}
use Rattle.castor_image.specs.declared.writing.PutError.{PutError}
use Rattle.castor_image.specs.Puts.{Puts, entry_by, value_layer, value_piece, values_piece}
use Rattle.castor_image.proofs.PieceLaws.{first_fails}
use Rattle.castor_image.proofs.PutLaws.{Why, second_fails, then_put, why_more}

no_parts : (v : Value) → parts_of (Leaf v) ≡ None
no_parts v = ap parts_of (sym (rolls-Leaf v)) ∙ ap parts_in (out-roll-Held (F.Leaf v))

no_rows : (v : Value) → rows_of (Leaf v) ≡ None
no_rows v = ap rows_of (sym (rolls-Leaf v)) ∙ ap rows_in (out-roll-Held (F.Leaf v))

no_entries : (v : Value) → keyed_of (Leaf v) ≡ None
no_entries v = ap keyed_of (sym (rolls-Leaf v)) ∙ ap keyed_in (out-roll-Held (F.Leaf v))

no_inner : (v : Value) → inner_of (Leaf v) ≡ None
no_inner v = ap inner_of (sym (rolls-Leaf v)) ∙ ap inner_in (out-roll-Held (F.Leaf v))

layer_is : (v : Value) (y : Code-F Code) → (format_step (map-Code Code Format format y)).write (Leaf v) ≡ value_layer v y
layer_is v (code.Int lo hi) = ap (int_piece lo hi) (leaf_of-Leaf v)
layer_is v code.Bool = ap bool_piece (leaf_of-Leaf v)
layer_is v (code.Text min max) = ap (text_piece (record { lo = min; hi = max })) (leaf_of-Leaf v)
layer_is v (code.Cross ks) = ap (parts_piece (writers (map format ks))) (no_parts v)
layer_is v (code.Concat ks) = ap (parts_piece (writers (map format ks))) (no_parts v)
layer_is v (code.List count body kid) = ap (list_piece count body (format kid).write) (no_rows v)
layer_is v (code.Hash count body key kid by) = ap (hash_piece count body (entry_piece (writers (map format key)) (format kid).write)) (no_entries v)
layer_is v (code.Ord count body key kid lo hi) = ap (ord_piece count body (entry_piece (writers (format key ∷ [])) (format kid).write)) (no_entries v)
layer_is v (code.Select es kid) = ap (inner_piece (format kid).write) (no_inner v)
layer_is v (code.Filter e kid) = ap (inner_piece (format kid).write) (no_inner v)
layer_is v (code.Dep k first second) = ap (parts_piece (writers (format first ∷ format second ∷ []))) (no_parts v)
layer_is v (code.Group ks aggs kid) = ap (inner_piece (format kid).write) (no_inner v)
layer_is v (code.Order ks kid) = ap (inner_piece (format kid).write) (no_inner v)
layer_is v (code.Dedup kid) = ap (inner_piece (format kid).write) (no_inner v)

value_is : (c : Code) (v : Value) → (format c).write (Leaf v) ≡ value_piece c v
value_is c v =
    ap (λ (d : Code). (format d).write (Leaf v)) (sym (roll-out-Code c))
    ∙ ap (λ (f : Format). f.write (Leaf v)) (fold-roll-Code Format format_step (out-Code c))
    ∙ layer_is v (out-Code c)

-- the values of a key are its parts
pub values_are : (cs : List Code) (vs : List Value) → side_by_side (writers (map format cs)) (map Leaf vs) ≡ values_piece cs vs
values_are [] [] = refl
values_are [] (v ∷ vs) = refl
values_are (c ∷ cs) [] = refl
values_are (c ∷ cs) (v ∷ vs) = λ i. both (value_is c v i) (values_are cs vs i)

-- a key has as many values as codes
pub values_apart : (cs : List Code) (vs : List Value) → (length cs ≡ length vs → ⊥) → (values_piece cs vs).fits ≡ false
values_apart [] [] apart = absurd (apart refl)
values_apart [] (v ∷ vs) apart = refl
values_apart (c ∷ cs) [] apart = refl
values_apart (c ∷ cs) (v ∷ vs) apart = second_fails (value_piece c v).fits (values_piece cs vs).fits (values_apart cs vs (λ same. apart (ap suc same)))

-- and a combination has as many parts as kids
pub sides_apart : (cs : List Code) (hs : List Held) → (length cs ≡ length hs → ⊥) → (side_by_side (writers (map format cs)) hs).fits ≡ false
sides_apart [] [] apart = absurd (apart refl)
sides_apart [] (h ∷ hs) apart = refl
sides_apart (c ∷ cs) [] apart = refl
sides_apart (c ∷ cs) (h ∷ hs) apart = second_fails ((format c).write h).fits (side_by_side (writers (map format cs)) hs).fits (sides_apart cs hs (λ same. apart (ap suc same)))

-- an entry is put as its key, and then its child
module _ (key : List Code) (kid : Code) (e : Entry) (slice : List Value) (same : slice ≡ e.key) where
  key_is : side_by_side (writers (map format key)) (map Leaf e.key) ≡ values_piece key slice
  key_is = values_are key e.key ∙ ap (values_piece key) (sym same)

  pub entry_put : (old mid new : List ℕ) (r : Result (Unit {0}) PutError) → ((values_piece key slice).fits ≡ true) × (mid ≡ old ++ (values_piece key slice).bytes) → Puts ((format kid).write e.kid) mid new r → Puts (entry_by key kid e) old new r
  entry_put old mid new r put more =
      then_put (side_by_side (writers (map format key)) (map Leaf e.key)) ((format kid).write e.kid) old mid new r
      (ap (λ (p : Piece). p.fits) key_is ∙ put.0) (put.1 ∙ ap (λ (p : Piece). old ++ p.bytes) (sym key_is)) more

  pub entry_refused : (err : PutError) → Why err ((values_piece key slice).fits ≡ false) → Why err ((entry_by key kid e).fits ≡ false)
  entry_refused err why = why_more err (λ unfit. first_fails (side_by_side (writers (map format key)) (map Leaf e.key)).fits ((format kid).write e.kid).fits (ap (λ (p : Piece). p.fits) key_is ∙ unfit)) why
