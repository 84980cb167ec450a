-- What held data is written as under each code, over what its parts are written as.
use Rattle.std.proofs.Common.{◌≡◌, ◌∙◌, ℕ, ℤ, List, [], ◌∷◌, map, ap, sym, refl, length, Option, Some, None}
use Rattle.castor_val.specs.declared.value.Value.{Value}
use Rattle.castor_alg.specs.declared.expr.Expr.{Expr}
use Rattle.castor_alg.specs.declared.held.Entry.{Entry}
use Rattle.castor_alg.specs.declared.held.Held.{Held, out-Held, out-roll-Held}
use Rattle.castor_alg.specs.declared.held.Held.TheVariants.{rolls-Parts}
use Rattle.castor_alg.specs.declared.held.Held.TheOpen as F
use Rattle.castor_alg.specs.declared.rel.Agg.{Agg}
use Rattle.castor_alg.specs.declared.rel.Bound.{Bound}
use Rattle.castor_alg.specs.declared.rel.Key.{Key}
use Rattle.castor_code.specs.declared.code.Code.{Code}
use Rattle.castor_code.specs.declared.code.Code as C
use Rattle.castor_code.specs.declared.code.Range.{Range}
use Rattle.castor_code.specs.Data.{Format, format, format_step, writers}
use Rattle.castor_code.specs.Directories.{entry_piece, hash_piece, ord_piece}
use Rattle.castor_code.specs.Pieces.{Piece, bool_piece, inner_piece, int_piece, list_piece, parts_piece, side_by_side, text_piece}
use Rattle.castor_code.specs.Shapes.{inner_in, inner_of, keyed_in, keyed_of, leaf_in, leaf_of, parts_of, rows_in, rows_of}
use Rattle.castor_code.proofs.CodeInduction.{codes, code_induction, fold-Int, fold-Bool, fold-Text, fold-Cross, fold-Concat, fold-List, fold-Hash, fold-Ord, fold-Select, fold-Filter, fold-Dep, fold-Group, fold-Order, fold-Dedup}
use Rattle.castor_code.proofs.ShapeLaws.{parts_of-Parts}
use Rattle.castor_ltype.specs.Places.{held_or_nothing, nothing}
use Rattle.castor_ltype.specs.Sizes.{held_size}

-- how held data is written under a code
abbrev pub writing : Code → Held → Piece
writing c = (format c).write

-- how it is written under codes
abbrev pub writing_all : List Code → List (Held → Piece)
writing_all cs = writers (map format cs)

module _ (h : Held) where
  abbrev here : Format → Piece
  here f = f.write h

  pub piece-Int : (lo hi : ℤ) → writing (C.Int lo hi) h ≡ int_piece lo hi (leaf_of h)
  piece-Int lo hi = ap here (fold-Int Format format_step lo hi)

  pub piece-Bool : writing C.Bool h ≡ bool_piece (leaf_of h)
  piece-Bool = ap here (fold-Bool Format format_step)

  pub piece-Text : (min max : ℕ) → writing (C.Text min max) h ≡ text_piece (record { lo = min; hi = max }) (leaf_of h)
  piece-Text min max = ap here (fold-Text Format format_step min max)

  pub piece-Cross : (cs : List Code) → writing (C.Cross cs) h ≡ parts_piece (writing_all cs) (parts_of h)
  piece-Cross cs = ap here (fold-Cross Format format_step cs)

  pub piece-Concat : (cs : List Code) → writing (C.Concat cs) h ≡ parts_piece (writing_all cs) (parts_of h)
  piece-Concat cs = ap here (fold-Concat Format format_step cs)

  pub piece-List : (count body : Range) (c : Code) → writing (C.List count body c) h ≡ list_piece count body (writing c) (rows_of h)
  piece-List count body c = ap here (fold-List Format format_step count body c)

  pub piece-Hash : (count body : Range) (key : List Code) (c : Code) (es : List Expr) → writing (C.Hash count body key c es) h ≡ hash_piece count body (entry_piece (writing_all key) (writing c)) (keyed_of h)
  piece-Hash count body key c es = ap here (fold-Hash Format format_step count body key c es)

  pub piece-Ord : (count body : Range) (key c : Code) (lo hi : Bound) → writing (C.Ord count body key c lo hi) h ≡ ord_piece count body (entry_piece (writing_all (key ∷ [])) (writing c)) (keyed_of h)
  piece-Ord count body key c lo hi = ap here (fold-Ord Format format_step count body key c lo hi)

  pub piece-Select : (es : List Expr) (c : Code) → writing (C.Select es c) h ≡ inner_piece (writing c) (inner_of h)
  piece-Select es c = ap here (fold-Select Format format_step es c)

  pub piece-Filter : (e : Expr) (c : Code) → writing (C.Filter e c) h ≡ inner_piece (writing c) (inner_of h)
  piece-Filter e c = ap here (fold-Filter Format format_step e c)

  pub piece-Dep : (k : ℕ) (c d : Code) → writing (C.Dep k c d) h ≡ parts_piece (writing_all (c ∷ d ∷ [])) (parts_of h)
  piece-Dep k c d = ap here (fold-Dep Format format_step k c d)

  pub piece-Group : (ks : List ℕ) (aggs : List Agg) (c : Code) → writing (C.Group ks aggs c) h ≡ inner_piece (writing c) (inner_of h)
  piece-Group ks aggs c = ap here (fold-Group Format format_step ks aggs c)

  pub piece-Order : (ks : List Key) (c : Code) → writing (C.Order ks c) h ≡ inner_piece (writing c) (inner_of h)
  piece-Order ks c = ap here (fold-Order Format format_step ks c)

  pub piece-Dedup : (c : Code) → writing (C.Dedup c) h ≡ inner_piece (writing c) (inner_of h)
  piece-Dedup c = ap here (fold-Dedup Format format_step c)

-- nothing takes no byte
out-nothing : out-Held nothing ≡ F.Parts []
out-nothing = ap out-Held (sym (rolls-Parts [])) ∙ out-roll-Held (F.Parts [])

pub leaf_of-nothing : leaf_of nothing ≡ None
leaf_of-nothing = ap leaf_in out-nothing

no_rows : rows_of nothing ≡ None
no_rows = ap rows_in out-nothing

no_entries : keyed_of nothing ≡ None
no_entries = ap keyed_in out-nothing

no_inner : inner_of nothing ≡ None
no_inner = ap inner_in out-nothing

no_sides : (ws : List (Held → Piece)) → length (side_by_side ws []).bytes ≡ 0
no_sides [] = refl
no_sides (w ∷ ws) = refl

abbrev bytes_in : Piece → ℕ
bytes_in p = length p.bytes

no_parts : (ws : List (Held → Piece)) → bytes_in (parts_piece ws (parts_of nothing)) ≡ 0
no_parts ws = ap (λ (o : Option (List Held)). bytes_in (parts_piece ws o)) (parts_of-Parts []) ∙ no_sides ws

no_inner_bytes : (c : Code) → bytes_in (inner_piece (writing c) (inner_of nothing)) ≡ 0
no_inner_bytes c = ap (λ (o : Option Held). bytes_in (inner_piece (writing c) o)) no_inner

abbrev Empty : Code → Type 0
Empty c = held_size c nothing ≡ 0

pub nothing_size : (c : Code) → held_size c nothing ≡ 0
nothing_size = code_induction Empty record {
  int = λ lo hi. ap bytes_in (piece-Int nothing lo hi) ∙ ap (λ (o : Option Value). bytes_in (int_piece lo hi o)) leaf_of-nothing;
  bool = ap bytes_in (piece-Bool nothing) ∙ ap (λ (o : Option Value). bytes_in (bool_piece o)) leaf_of-nothing;
  text = λ min max. ap bytes_in (piece-Text nothing min max) ∙ ap (λ (o : Option Value). bytes_in (text_piece (record { lo = min; hi = max }) o)) leaf_of-nothing;
  cross = λ cs. ap bytes_in (piece-Cross nothing (codes cs)) ∙ no_parts (writing_all (codes cs));
  concat = λ cs. ap bytes_in (piece-Concat nothing (codes cs)) ∙ no_parts (writing_all (codes cs));
  list = λ count body c x. ap bytes_in (piece-List nothing count body c) ∙ ap (λ (o : Option (List Held)). bytes_in (list_piece count body (writing c) o)) no_rows;
  hash = λ count body key c es x. ap bytes_in (piece-Hash nothing count body (codes key) c es) ∙ ap (λ (o : Option (List Entry)). bytes_in (hash_piece count body (entry_piece (writing_all (codes key)) (writing c)) o)) no_entries;
  ordered = λ count body key c lo hi x y. ap bytes_in (piece-Ord nothing count body key c lo hi) ∙ ap (λ (o : Option (List Entry)). bytes_in (ord_piece count body (entry_piece (writing_all (key ∷ [])) (writing c)) o)) no_entries;
  select = λ es c x. ap bytes_in (piece-Select nothing es c) ∙ no_inner_bytes c;
  filter = λ e c x. ap bytes_in (piece-Filter nothing e c) ∙ no_inner_bytes c;
  dep = λ k c d x y. ap bytes_in (piece-Dep nothing k c d) ∙ no_parts (writing_all (c ∷ d ∷ []));
  group = λ ks aggs c x. ap bytes_in (piece-Group nothing ks aggs c) ∙ no_inner_bytes c;
  order = λ ks c x. ap bytes_in (piece-Order nothing ks c) ∙ no_inner_bytes c;
  dedup = λ c x. ap bytes_in (piece-Dedup nothing c) ∙ no_inner_bytes c;
}

-- what the operand holds takes the bytes
pub inner_size : (c : Code) (o : Option Held) → length (inner_piece (writing c) o).bytes ≡ held_size c (held_or_nothing o)
inner_size c (Some h) = refl
inner_size c None = sym (nothing_size c)
