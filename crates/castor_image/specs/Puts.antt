-- What calls that put pieces at the end of bytes give.
use Rattle.std.specs.Prelude.{◌≡◌, ◌⊎◌, ℕ, ◌+◌, ◌-◌, ◌*◌, List, [], ◌∷◌, ◌++◌, take, drop, length, map, Option, Some, None, Result, MatchResult, true, false}
use Rattle.std.specs.List.{flat_map}
use Rattle.castor_alg.specs.declared.held.Entry.{Entry}
use Rattle.castor_alg.specs.declared.held.Held.{Held}
use Rattle.castor_val.specs.declared.value.Value.{Value}
use Rattle.castor_code.specs.declared.code.Code.{Code, out-Code}
use Rattle.castor_code.specs.declared.code.Code.TheOpen.{Code-F}
use Rattle.castor_code.specs.declared.code.Code.TheOpen as code
use Rattle.castor_code.specs.declared.code.Range.{Range}
use Rattle.castor_code.specs.Data.{format, writers}
use Rattle.castor_code.specs.Directories.{entry_piece, offset_fields}
use Rattle.castor_code.specs.Pieces.{Piece, behind_number, bool_piece, both, empty_piece, int_piece, no_piece, ranged_field, text_piece, within}
use Rattle.castor_dir.specs.Hashing.{hash_of}
use Rattle.castor_fixed.specs.Fields.{width}
use Rattle.castor_image.specs.declared.writing.PutError.{PutError}
use Rattle.castor_image.specs.declared.writing.PutError.TheVariants.{NotFit, Memory}

-- it held and was done; or it doesn't hold, or there was no memory
abbrev pub Done : {T : Type 0} → (T → Type 0) → Type 0 → Result T PutError → Type 0
Done done refused r = MatchResult r done (λ e. (e ≡ Memory) ⊎ ((e ≡ NotFit) × refused))

-- the piece fits and was put at the end; or it doesn't fit, or there was no memory
abbrev pub Puts : Piece → List ℕ → List ℕ → Result (Unit {0}) PutError → Type 0
Puts p old new r = Done (λ u. (p.fits ≡ true) × (new ≡ old ++ p.bytes)) (p.fits ≡ false) r

-- the field of a number of a range
abbrev pub number_piece : Range → ℕ → Piece
number_piece r n = record { fits = within r n; bytes = ranged_field r n }

-- a body behind its length and the offsets into it
abbrev pub directed_piece : Range → List ℕ → Piece → Piece
directed_piece body offsets p = behind_number body (length p.bytes) (record { fits = p.fits; bytes = offset_fields body offsets ++ p.bytes })

-- the bytes before a body with so many offsets
abbrev pub front_width : Range → ℕ → ℕ
front_width body offsets = width (body.hi - body.lo) + offsets * width body.hi

-- the room between two places was filled with the length of what stands behind it, and the offsets
abbrev pub Fills : Range → ℕ → ℕ → List ℕ → List ℕ → List ℕ → Result (Unit {0}) PutError → Type 0
Fills body at first offsets old new r =
    let n = length old - first in
    Done (λ u. (within body n ≡ true) × (new ≡ take at old ++ ((ranged_field body n ++ offset_fields body offsets) ++ drop first old))) (within body n ≡ false) r

-- the piece of an entry, by the codes of its key and its child
abbrev pub entry_by : List Code → Code → Entry → Piece
entry_by key kid e = entry_piece (writers (map format key)) (format kid).write e

-- the piece was put, and these places in it are given
abbrev pub PutsAt : {T : Type 0} → (T → List ℕ) → Piece → List ℕ → List ℕ → List ℕ → Result T PutError → Type 0
PutsAt view p starts old new r = Done (λ found. (p.fits ≡ true) × (new ≡ old ++ p.bytes) × (view found ≡ starts)) (p.fits ≡ false) r

-- the hashes of the keys
abbrev pub hashes : List Entry → List ℕ
hashes es = map (λ (e : Entry). hash_of e.key) es

-- the entries at these places
abbrev pub entries_at : List Entry → List ℕ → List Entry
entries_at es places = flat_map (λ p. take 1 (drop p es)) places

-- a value of a key, by the code of its column: only codes of a single value have any
abbrev pub value_layer : Value → Code-F Code → Piece
value_layer v (code.Int lo hi) = int_piece lo hi (Some v)
value_layer v code.Bool = bool_piece (Some v)
value_layer v (code.Text min max) = text_piece (record { lo = min; hi = max }) (Some v)
value_layer v (code.Cross ks) = no_piece
value_layer v (code.Concat ks) = no_piece
value_layer v (code.List count body kid) = no_piece
value_layer v (code.Hash count body key kid by) = no_piece
value_layer v (code.Ord count body key kid lo hi) = no_piece
value_layer v (code.Select es kid) = no_piece
value_layer v (code.Filter e kid) = no_piece
value_layer v (code.Dep k first second) = no_piece
value_layer v (code.Group ks aggs kid) = no_piece
value_layer v (code.Order ks kid) = no_piece
value_layer v (code.Dedup kid) = no_piece

abbrev pub value_piece : Code → Value → Piece
value_piece c v = value_layer v (out-Code c)

-- the values of a key, one for each code
abbrev pub values_piece : List Code → List Value → Piece
values_piece [] [] = empty_piece
values_piece [] (v ∷ vs) = no_piece
values_piece (c ∷ cs) [] = no_piece
values_piece (c ∷ cs) (v ∷ vs) = both (value_piece c v) (values_piece cs vs)

-- the first of two parts, and the second
abbrev pub first_piece : (Held → Piece) → Option (List Held) → Piece
first_piece write None = no_piece
first_piece write (Some []) = no_piece
first_piece write (Some (h ∷ [])) = no_piece
first_piece write (Some (h ∷ g ∷ [])) = write h
first_piece write (Some (h ∷ g ∷ f ∷ hs)) = no_piece

abbrev pub second_piece : (Held → Piece) → Option (List Held) → Piece
second_piece write None = no_piece
second_piece write (Some []) = no_piece
second_piece write (Some (h ∷ [])) = no_piece
second_piece write (Some (h ∷ g ∷ [])) = write g
second_piece write (Some (h ∷ g ∷ f ∷ hs)) = no_piece
