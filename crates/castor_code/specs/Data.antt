-- The data of a code: what fits it, the bytes that this is stored as, and what is stored in bytes.
use Rattle.std.specs.Prelude.{◌≡◌, ℕ, ℤ, List, [], ◌∷◌, ◌++◌, map, Bool, true, Some}
use Rattle.castor_alg.specs.declared.held.Held.{Held}
use Rattle.castor_code.specs.declared.code.Code.{Code, fold-Code}
use Rattle.castor_code.specs.declared.code.Code.TheOpen.{Code-F}
use Rattle.castor_code.specs.declared.code.Code.TheOpen as code
use Rattle.castor_code.specs.declared.code.Range.{Range}
use Rattle.castor_code.specs.Shapes.{leaf_of, parts_of, rows_of, keyed_of, inner_of}
use Rattle.castor_code.specs.Pieces.{Piece, int_piece, bool_piece, text_piece, parts_piece, inner_piece, list_piece}
use Rattle.castor_code.specs.Directories.{entry_piece, hash_piece, ord_piece}
use Rattle.castor_code.specs.Readings.{Reader, int_read, bool_read, text_read, parts_read, inner_read, list_read, entry_read, index_read, hash_offsets, ord_offsets}

-- how held data is written, and how it is read
pub record Format : Type 0 where
  pub write : Held → Piece
  pub read : Reader

abbrev pub writers : List Format → List (Held → Piece)
writers ks = map (λ (k : Format). k.write) ks

abbrev pub readers : List Format → List Reader
readers ks = map (λ (k : Format). k.read) ks

abbrev pub int_format : ℤ → ℤ → Format
int_format lo hi = record { write = λ h. int_piece lo hi (leaf_of h); read = int_read lo hi }

abbrev pub bool_format : Format
bool_format = record { write = λ h. bool_piece (leaf_of h); read = bool_read }

abbrev pub text_format : Range → Format
text_format lengths = record { write = λ h. text_piece lengths (leaf_of h); read = text_read lengths }

-- the kids in order
abbrev pub parts_format : List Format → Format
parts_format ks = record { write = λ h. parts_piece (writers ks) (parts_of h); read = parts_read (readers ks) }

-- the kid alone
abbrev pub inner_format : Format → Format
inner_format kid = record { write = λ h. inner_piece kid.write (inner_of h); read = inner_read kid.read }

abbrev pub list_format : Range → Range → Format → Format
list_format count body kid = record { write = λ h. list_piece count body kid.write (rows_of h); read = list_read count body kid.read }

abbrev pub hash_format : Range → Range → List Format → Format → Format
hash_format count body ks kid =
    let write : Held → Piece = λ h. hash_piece count body (entry_piece (writers ks) kid.write) (keyed_of h) in
    record { write = write; read = index_read count body hash_offsets (entry_read (readers ks) kid.read) write }

abbrev pub ord_format : Range → Range → List Format → Format → Format
ord_format count body ks kid =
    let write : Held → Piece = λ h. ord_piece count body (entry_piece (writers ks) kid.write) (keyed_of h) in
    record { write = write; read = index_read count body ord_offsets (entry_read (readers ks) kid.read) write }

-- one node, over the formats of its kids
abbrev pub format_step : Code-F Format → Format
format_step (code.Int lo hi) = int_format lo hi
format_step code.Bool = bool_format
format_step (code.Text min max) = text_format (record { lo = min; hi = max })
format_step (code.Cross ks) = parts_format ks
format_step (code.Concat ks) = parts_format ks
format_step (code.List count body kid) = list_format count body kid
format_step (code.Hash count body key kid by) = hash_format count body key kid
format_step (code.Ord count body key kid lo hi) = ord_format count body (key ∷ []) kid
format_step (code.Select es kid) = inner_format kid
format_step (code.Filter e kid) = inner_format kid
format_step (code.Dep k first second) = parts_format (first ∷ second ∷ [])
format_step (code.Group ks aggs kid) = inner_format kid
format_step (code.Order ks kid) = inner_format kid
format_step (code.Dedup kid) = inner_format kid

-- how the data of a code is written and read
abbrev pub format : Code → Format
format c = fold-Code Format format_step c

-- whether held data fits a code
abbrev pub fits : Code → Held → Bool
fits c h = ((format c).write h).fits

-- the bytes of held data that fits a code
abbrev pub data_of : Code → Held → List ℕ
data_of c h = ((format c).write h).bytes

-- the held data whose bytes come first, if such data does, and the bytes after it
abbrev pub data_read : Code → Reader
data_read c = (format c).read

-- data is read as what is held, whatever comes after it, and what is read is data
pub record ReadsData (c : Code) : Type 0 where
  pub again : (h : Held) (rest : List ℕ) → fits c h ≡ true → data_read c (data_of c h ++ rest) ≡ Some (h, rest)
  pub taken : (bytes rest : List ℕ) (h : Held) → data_read c bytes ≡ Some (h, rest) → (fits c h ≡ true) × (bytes ≡ data_of c h ++ rest)

-- where data of a code begins some bytes, what is held and the bytes after it are known: so at most one held
-- data has given bytes, and no data is a proper front part of other data of the code
abbrev pub DataIsTold : Code → Type 0
DataIsTold c = (h g : Held) (rest more : List ℕ) → fits c h ≡ true → fits c g ≡ true → data_of c h ++ rest ≡ data_of c g ++ more → (h ≡ g) × (rest ≡ more)
