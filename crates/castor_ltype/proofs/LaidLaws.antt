-- Codes with the sizes of what they are for, over those of parts.
use Rattle.std.proofs.Common.{◌≡◌, ◌∙◌, ℕ, ℤ, pos, ◌+◌, List, [], ◌∷◌, map, fold, length, sum, sym, ap, Option, Some, None, option_map, Result, Ok, Err, IfOk, IsOkAnd}
use Rattle.std.specs.List.{flat_map}
use Rattle.std.proofs.lemmas.Simd.{map-map}
use Rattle.castor_val.specs.declared.memory.Memory.{Memory}
use Rattle.castor_val.specs.declared.value.Cell.{Cell}
use Rattle.castor_val.specs.declared.value.Ty.{Ty}
use Rattle.castor_val.specs.declared.value.Ty.TheVariants as ty
use Rattle.castor_val.specs.declared.value.Value.{Value}
use Rattle.castor_val.specs.Values.{value_of}
use Rattle.castor_alg.specs.declared.context.Context.{Context}
use Rattle.castor_alg.specs.declared.expr.Expr.{Expr}
use Rattle.castor_alg.specs.declared.held.Entry.{Entry}
use Rattle.castor_alg.specs.declared.held.Held.{Held}
use Rattle.castor_alg.specs.declared.rel.Agg.{Agg}
use Rattle.castor_alg.specs.declared.rel.Bound.{Bound}
use Rattle.castor_alg.specs.declared.rel.Key.{Key}
use Rattle.castor_alg.specs.declared.rel.Rel.{Rel}
use Rattle.castor_alg.specs.declared.rel.Rel as R
use Rattle.castor_alg.specs.Typing.{extended, type_under}
use Rattle.castor_code.specs.declared.code.Code.{Code}
use Rattle.castor_code.specs.declared.code.Code as C
use Rattle.castor_code.specs.declared.code.Range.{Range}
use Rattle.castor_code.specs.Directories.{entry_piece, size}
use Rattle.castor_code.specs.Pieces.{Piece, bool_piece, int_piece, one_after_other, text_piece}
use Rattle.castor_code.specs.Shapes.{keyed_of, leaf_of, rows_of}
use Rattle.castor_code.proofs.ShapeLaws.{leaf_of-Leaf}
use Rattle.castor_ltype.specs.declared.laid.Laid.{Laid}
use Rattle.castor_ltype.specs.Generation.{body_range, code_over, count_range, generator, hash_code, kids, list_code, ord_code, part_codes, scalar_code}
use Rattle.castor_ltype.specs.Places.{children, entries, inner, int_in, part, text_length_in}
use Rattle.castor_ltype.specs.Ranges.{greater, int_code, least_range, lesser}
use Rattle.castor_ltype.specs.Sizes.{IsLaid, added, hash_frame, held_size, key_size, list_frame, ord_frame, parts_size, sums, value_held, value_size}
use Rattle.castor_ltype.proofs.GeneratorLaws.{code-Table, code-Scalar, code-Cross, code-Concat, code-Select, code-Filter, code-Join, code-DepJoin, code-Group, code-Order, code-Dedup, code-List, code-Hash, code-Ord, part_codes-are, source_types}
use Rattle.castor_ltype.proofs.IndexSizeLaws.{entry_sizes, size-Hash, size-Ord}
use Rattle.castor_ltype.proofs.PieceLaws.{leaf_of-nothing, piece-Bool, piece-Int, piece-Text, writing, writing_all}
use Rattle.castor_ltype.proofs.SizeLaws.{added-map, along_size, map-same, size-Concat, size-Cross, size-Dedup, size-Dep, size-Filter, size-Group, size-List, size-Order, size-Select, sums-along}

abbrev bytes_in : Piece → ℕ
bytes_in p = length p.bytes

pub moved_laid : (c d : Code) (hs : List Held) (laid : Laid) → c ≡ d → IsLaid d hs laid → IsLaid c hs laid
moved_laid c d hs laid is so = record { code = so.code ∙ sym is; sizes = so.sizes }

-- a node over one kid, which holds what the operand holds
pub inner_laid : (node : Code → Code) → ((c : Code) (h : Held) → held_size (node c) h ≡ held_size c (inner h)) → (c : Code) (hs : List Held) (kid laid : Laid) → IsLaid c (map inner hs) kid → laid.code ≡ node kid.code → laid.sizes.items ≡ kid.sizes.items → IsLaid (node c) hs laid
inner_laid node same c hs kid laid so code sizes = record {
  code = code ∙ ap node so.code;
  sizes = sizes ∙ so.sizes ∙ map-map (held_size kid.code) inner hs ∙ map-same (λ h. held_size kid.code (inner h)) (held_size (node kid.code)) (λ h. sym (same kid.code h)) hs ∙ ap (λ (d : Code). map (held_size d) hs) (sym code);
}

module _ (context : Context) (hs : List Held) where
  abbrev over : Rel → Code
  over q = code_over q context hs

  pub select_laid : (q : Rel) (es es' : List Expr) (r r' : Rel) (kid laid : Laid) → q ≡ R.Select es r → es' ≡ es → r' ≡ r → IsLaid (code_over r' context (map inner hs)) (map inner hs) kid → laid.code ≡ C.Select es' kid.code → laid.sizes.items ≡ kid.sizes.items → IsLaid (over q) hs laid
  select_laid q es es' r r' kid laid is e s so code sizes =
      moved_laid _ _ hs laid (ap over (is ∙ (λ i. R.Select (sym e i) (sym s i))) ∙ code-Select context hs es' r')
      (inner_laid (C.Select es') (size-Select es') (code_over r' context (map inner hs)) hs kid laid so code sizes)

  pub filter_laid : (q : Rel) (e e' : Expr) (r r' : Rel) (kid laid : Laid) → q ≡ R.Filter e r → e' ≡ e → r' ≡ r → IsLaid (code_over r' context (map inner hs)) (map inner hs) kid → laid.code ≡ C.Filter e' kid.code → laid.sizes.items ≡ kid.sizes.items → IsLaid (over q) hs laid
  filter_laid q e e' r r' kid laid is f s so code sizes =
      moved_laid _ _ hs laid (ap over (is ∙ (λ i. R.Filter (sym f i) (sym s i))) ∙ code-Filter context hs e' r')
      (inner_laid (C.Filter e') (size-Filter e') (code_over r' context (map inner hs)) hs kid laid so code sizes)

  pub group_laid : (q : Rel) (ks ks' : List ℕ) (aggs aggs' : List Agg) (r r' : Rel) (kid laid : Laid) → q ≡ R.Group ks aggs r → ks' ≡ ks → aggs' ≡ aggs → r' ≡ r → IsLaid (code_over r' context (map inner hs)) (map inner hs) kid → laid.code ≡ C.Group ks' aggs' kid.code → laid.sizes.items ≡ kid.sizes.items → IsLaid (over q) hs laid
  group_laid q ks ks' aggs aggs' r r' kid laid is k a s so code sizes =
      moved_laid _ _ hs laid (ap over (is ∙ (λ i. R.Group (sym k i) (sym a i) (sym s i))) ∙ code-Group context hs ks' aggs' r')
      (inner_laid (C.Group ks' aggs') (size-Group ks' aggs') (code_over r' context (map inner hs)) hs kid laid so code sizes)

  pub order_laid : (q : Rel) (ks ks' : List Key) (r r' : Rel) (kid laid : Laid) → q ≡ R.Order ks r → ks' ≡ ks → r' ≡ r → IsLaid (code_over r' context (map inner hs)) (map inner hs) kid → laid.code ≡ C.Order ks' kid.code → laid.sizes.items ≡ kid.sizes.items → IsLaid (over q) hs laid
  order_laid q ks ks' r r' kid laid is k s so code sizes =
      moved_laid _ _ hs laid (ap over (is ∙ (λ i. R.Order (sym k i) (sym s i))) ∙ code-Order context hs ks' r')
      (inner_laid (C.Order ks') (size-Order ks') (code_over r' context (map inner hs)) hs kid laid so code sizes)

  pub dedup_laid : (q r r' : Rel) (kid laid : Laid) → q ≡ R.Dedup r → r' ≡ r → IsLaid (code_over r' context (map inner hs)) (map inner hs) kid → laid.code ≡ C.Dedup kid.code → laid.sizes.items ≡ kid.sizes.items → IsLaid (over q) hs laid
  dedup_laid q r r' kid laid is s so code sizes =
      moved_laid _ _ hs laid (ap over (is ∙ ap R.Dedup (sym s)) ∙ code-Dedup context hs r')
      (inner_laid C.Dedup size-Dedup (code_over r' context (map inner hs)) hs kid laid so code sizes)

  pub table_laid : (q : Rel) (n : ℕ) (laid : Laid) → q ≡ R.Table n → IsLaid (C.Cross []) hs laid → IsLaid (over q) hs laid
  table_laid q n laid is so = moved_laid _ _ hs laid (ap over is ∙ code-Table context hs n) so

  pub join_laid : (q : Rel) (e : Expr) (r s : Rel) (laid : Laid) → q ≡ R.Join e r s → IsLaid (C.Cross []) hs laid → IsLaid (over q) hs laid
  join_laid q e r s laid is so = moved_laid _ _ hs laid (ap over is ∙ code-Join context hs e r s) so

  pub cross_laid : (q : Rel) (rs rs' : List Rel) (codes : List Code) (sizes : List ℕ) (laid : Laid) → q ≡ R.Cross rs → rs' ≡ rs → codes ≡ part_codes 0 (map generator rs') context hs → sizes ≡ map (parts_size 0 codes) hs → laid.code ≡ C.Cross codes → laid.sizes.items ≡ sizes → IsLaid (over q) hs laid
  cross_laid q rs rs' codes sizes laid is s all by code have =
      moved_laid _ _ hs laid (ap over (is ∙ ap R.Cross (sym s)) ∙ code-Cross context hs rs' ∙ ap C.Cross (sym (part_codes-are 0 rs' context hs) ∙ sym all))
      (record { code = code; sizes = have ∙ by ∙ map-same (parts_size 0 codes) (held_size (C.Cross codes)) (λ h. sym (size-Cross codes h)) hs ∙ ap (λ (d : Code). map (held_size d) hs) (sym code) })

  pub concat_laid : (q : Rel) (rs rs' : List Rel) (codes : List Code) (sizes : List ℕ) (laid : Laid) → q ≡ R.Concat rs → rs' ≡ rs → codes ≡ part_codes 0 (map generator rs') context hs → sizes ≡ map (parts_size 0 codes) hs → laid.code ≡ C.Concat codes → laid.sizes.items ≡ sizes → IsLaid (over q) hs laid
  concat_laid q rs rs' codes sizes laid is s all by code have =
      moved_laid _ _ hs laid (ap over (is ∙ ap R.Concat (sym s)) ∙ code-Concat context hs rs' ∙ ap C.Concat (sym (part_codes-are 0 rs' context hs) ∙ sym all))
      (record { code = code; sizes = have ∙ by ∙ map-same (parts_size 0 codes) (held_size (C.Concat codes)) (λ h. sym (size-Concat codes h)) hs ∙ ap (λ (d : Code). map (held_size d) hs) (sym code) })

  pub depjoin_laid : (q : Rel) (k : ℕ) (r r' s s' : Rel) (columns : List Ty) (first second : Result Laid Memory) (laid : Laid) → q ≡ R.DepJoin k r s → r' ≡ r → s' ≡ s → columns ≡ source_types r' context
      → IfOk first (IsLaid (code_over r' context (map (part 0) hs)) (map (part 0) hs)) → IfOk second (IsLaid (code_over s' (extended context k columns) (map (part 1) hs)) (map (part 1) hs))
      → IsOkAnd first (λ x. IsOkAnd second (λ y. laid.code ≡ C.Dep k x.code y.code)) → IsOkAnd first (λ x. IsOkAnd second (λ y. laid.sizes.items ≡ added x.sizes.items y.sizes.items)) → IsLaid (over q) hs laid
  depjoin_laid q k r r' s s' columns (Ok x) (Ok y) laid is rs ss cols one two code sizes =
      moved_laid _ _ hs laid
      (ap over (is ∙ (λ i. R.DepJoin k (sym rs i) (sym ss i))) ∙ code-DepJoin context hs k r' s' ∙ ap (λ (ts : List Ty). C.Dep k (code_over r' context (map (part 0) hs)) (code_over s' (extended context k ts) (map (part 1) hs))) (sym cols))
      (record {
        code = code ∙ (λ i. C.Dep k (one.code i) (two.code i));
        sizes = sizes ∙ (λ i. added ((one.sizes ∙ map-map (held_size x.code) (part 0) hs) i) ((two.sizes ∙ map-map (held_size y.code) (part 1) hs) i))
            ∙ added-map (λ h. held_size x.code (part 0 h)) (λ h. held_size y.code (part 1 h)) hs
            ∙ map-same (λ h. held_size x.code (part 0 h) + held_size y.code (part 1 h)) (held_size (C.Dep k x.code y.code)) (λ h. sym (size-Dep k x.code y.code h)) hs
            ∙ ap (λ (d : Code). map (held_size d) hs) (sym code);
      })
  depjoin_laid q k r r' s s' columns (Ok x) (Err e) laid is rs ss cols one two code sizes = absurd code
  depjoin_laid q k r r' s s' columns (Err e) second laid is rs ss cols one two code sizes = absurd code

  pub list_laid : (q : Rel) (k : ℕ) (r r' s s' : Rel) (columns : List Ty) (laid : Laid) → q ≡ R.List k r s → r' ≡ r → s' ≡ s → columns ≡ source_types r' context → IsLaid (list_code (code_over s' (extended context k columns)) hs) hs laid → IsLaid (over q) hs laid
  list_laid q k r r' s s' columns laid is rs ss cols so =
      moved_laid _ _ hs laid (ap over (is ∙ (λ i. R.List k (sym rs i) (sym ss i))) ∙ code-List context hs k r' s' ∙ ap (λ (ts : List Ty). list_code (code_over s' (extended context k ts)) hs) (sym cols)) so

  pub hash_laid : (q : Rel) (k : ℕ) (r r' s s' : Rel) (es es' : List Expr) (columns : List Ty) (laid : Laid) → q ≡ R.Hash k r s es → r' ≡ r → s' ≡ s → es' ≡ es → columns ≡ source_types r' context → IsLaid (hash_code columns (code_over s' (extended context k columns)) es' hs) hs laid → IsLaid (over q) hs laid
  hash_laid q k r r' s s' es es' columns laid is rs ss ee cols so =
      moved_laid _ _ hs laid (ap over (is ∙ (λ i. R.Hash k (sym rs i) (sym ss i) (sym ee i))) ∙ code-Hash context hs k r' s' es' ∙ ap (λ (ts : List Ty). hash_code ts (code_over s' (extended context k ts)) es' hs) (sym cols)) so

  pub ord_laid : (q : Rel) (k : ℕ) (r r' s s' : Rel) (lo lo' hi hi' : Bound) (columns : List Ty) (laid : Laid) → q ≡ R.Ord k r s lo hi → r' ≡ r → s' ≡ s → lo' ≡ lo → hi' ≡ hi → columns ≡ source_types r' context → IsLaid (ord_code columns (code_over s' (extended context k columns)) lo' hi' hs) hs laid → IsLaid (over q) hs laid
  ord_laid q k r r' s s' lo lo' hi hi' columns laid is rs ss l h cols so =
      moved_laid _ _ hs laid (ap over (is ∙ (λ i. R.Ord k (sym rs i) (sym ss i) (sym l i) (sym h i))) ∙ code-Ord context hs k r' s' lo' hi' ∙ ap (λ (ts : List Ty). ord_code ts (code_over s' (extended context k ts)) lo' hi' hs) (sym cols)) so

-- the size of a value, by what leaf there is
pub leaf_of-value_held : (o : Option Value) → leaf_of (value_held o) ≡ o
leaf_of-value_held (Some v) = leaf_of-Leaf v
leaf_of-value_held None = leaf_of-nothing

-- how values are written under the code of values of a type
abbrev pub int_write : List ℤ → Option Value → Piece
int_write [] o = int_piece (pos 0) (pos 0) o
int_write (z ∷ zs) o = int_piece (fold lesser z zs) (fold greater z zs) o

abbrev pub scalar_write : Option Ty → List (Option Value) → Option Value → Piece
scalar_write (Some ty.Int) values o = int_write (flat_map int_in values) o
scalar_write (Some ty.Bool) values o = bool_piece o
scalar_write (Some ty.Text) values o = text_piece (least_range (flat_map text_length_in values)) o
scalar_write None values o = bool_piece o

int_written : (zs : List ℤ) (h : Held) → writing (int_code zs) h ≡ int_write zs (leaf_of h)
int_written [] h = piece-Int h (pos 0) (pos 0)
int_written (z ∷ zs) h = piece-Int h (fold lesser z zs) (fold greater z zs)

pub scalar_written : (t : Option Ty) (values : List (Option Value)) (h : Held) → writing (scalar_code t values) h ≡ scalar_write t values (leaf_of h)
scalar_written (Some ty.Int) values h = int_written (flat_map int_in values) h
scalar_written (Some ty.Bool) values h = piece-Bool h
scalar_written (Some ty.Text) values h = piece-Text h _ _
scalar_written None values h = piece-Bool h

pub value_written : (t : Option Ty) (values : List (Option Value)) (o : Option Value) → writing (scalar_code t values) (value_held o) ≡ scalar_write t values o
value_written t values o = scalar_written t values (value_held o) ∙ ap (scalar_write t values) (leaf_of-value_held o)

leaf_size : (t : Option Ty) (values : List (Option Value)) (h : Held) → value_size (scalar_code t values) (leaf_of h) ≡ held_size (scalar_code t values) h
leaf_size t values h = ap bytes_in (value_written t values (leaf_of h)) ∙ sym (ap bytes_in (scalar_written t values h))

-- the code of the values of a scalar
pub scalar_found : (hs : List Held) (t : Option Ty) (cells : List (Option Cell)) (laid : Laid) → map (option_map value_of) cells ≡ map leaf_of hs
    → laid.code ≡ scalar_code t (map (option_map value_of) cells) → laid.sizes.items ≡ map (λ (o : Option Cell). value_size laid.code (option_map value_of o)) cells → IsLaid (scalar_code t (map leaf_of hs)) hs laid
scalar_found hs t cells laid leaves code sizes =
    let same : laid.code ≡ scalar_code t (map leaf_of hs) = code ∙ ap (scalar_code t) leaves in
    record {
      code = same;
      sizes = sizes ∙ sym (map-map (value_size laid.code) (option_map value_of) cells) ∙ ap (map (value_size laid.code)) leaves ∙ map-map (value_size laid.code) leaf_of hs
          ∙ ap (λ (d : Code). map (λ h. value_size d (leaf_of h)) hs) same
          ∙ map-same (λ h. value_size (scalar_code t (map leaf_of hs)) (leaf_of h)) (held_size (scalar_code t (map leaf_of hs))) (leaf_size t (map leaf_of hs)) hs
          ∙ ap (λ (d : Code). map (held_size d) hs) (sym same);
    }

pub scalar_laid : (context : Context) (hs : List Held) (q : Rel) (e : Expr) (laid : Laid) → q ≡ R.Scalar e → IsLaid (scalar_code (type_under e [] context) (map leaf_of hs)) hs laid → IsLaid (code_over q context hs) hs laid
scalar_laid context hs q e laid is so = moved_laid _ _ hs laid (ap (λ (r : Rel). code_over r context hs) is ∙ code-Scalar context hs e) so

-- a list, over all its children
pub children_laid : (hs : List Held) (kid : Laid) (counts bodies frames sizes : List ℕ) (count body : Range) (laid : Laid) → kid.sizes.items ≡ map (held_size kid.code) (flat_map children hs)
    → counts ≡ map (λ h. length (children h)) hs → bodies ≡ sums counts kid.sizes.items → count ≡ least_range counts → body ≡ least_range bodies → frames ≡ map (λ h. list_frame count body (rows_of h)) hs → sizes ≡ added frames bodies
    → laid.code ≡ C.List count body kid.code → laid.sizes.items ≡ sizes → IsLaid (list_code (λ xs. kid.code) hs) hs laid
children_laid hs kid counts bodies frames sizes count body laid kids counted summed counts_are bodies_are framed all code have =
    let write = writing kid.code in
    let along : bodies ≡ map (λ h. length (one_after_other write (children h)).bytes) hs =
    summed ∙ (λ i. sums (counted i) (kids i)) ∙ sums-along children (held_size kid.code) hs
    ∙ map-same (λ h. sum (map (held_size kid.code) (children h))) (λ h. length (one_after_other write (children h)).bytes) (λ h. along_size write (children h)) hs in
    let ranges : C.List count body kid.code ≡ list_code (λ xs. kid.code) hs = (λ i. C.List ((counts_are ∙ ap least_range counted) i) ((bodies_are ∙ ap least_range along) i) kid.code) in
    record {
      code = code ∙ ranges;
      sizes = have ∙ all ∙ (λ i. added (framed i) (along i)) ∙ added-map (λ h. list_frame count body (rows_of h)) (λ h. length (one_after_other write (children h)).bytes) hs
          ∙ map-same (λ h. list_frame count body (rows_of h) + length (one_after_other write (children h)).bytes) (held_size (C.List count body kid.code)) (size-List count body kid.code) hs
          ∙ ap (λ (d : Code). map (held_size d) hs) (sym code);
    }

-- the bodies of indexes
pub entry_bodies : (hs : List Held) (cs : List Code) (c : Code) (keys under bodies : List ℕ) → keys ≡ map (key_size 0 cs) (flat_map entries hs) → under ≡ map (held_size c) (kids (flat_map entries hs)) → bodies ≡ sums (map (λ h. length (entries h)) hs) (added keys under)
    → bodies ≡ map (λ h. size (entry_piece (writing_all cs) (writing c)) (entries h)) hs
entry_bodies hs cs c keys under bodies k u b =
    let write = entry_piece (writing_all cs) (writing c) in
    b ∙ ap (sums (map (λ h. length (entries h)) hs)) ((λ i. added (k i) (u i)) ∙ entry_sizes cs c (flat_map entries hs))
    ∙ sums-along entries (λ (e : Entry). length (write e).bytes) hs
    ∙ map-same (λ h. sum (map (λ (e : Entry). length (write e).bytes) (entries h))) (λ h. size write (entries h)) (λ h. along_size write (entries h)) hs

module _ (hs : List Held) (cs : List Code) (c : Code) (keys under bodies : List ℕ) (k : keys ≡ map (key_size 0 cs) (flat_map entries hs)) (u : under ≡ map (held_size c) (kids (flat_map entries hs))) (b : bodies ≡ sums (map (λ h. length (entries h)) hs) (added keys under)) where
  bodies_are : bodies ≡ map (λ h. size (entry_piece (writing_all cs) (writing c)) (entries h)) hs
  bodies_are = entry_bodies hs cs c keys under bodies k u b

  pub hash_coded : (count body : Range) (by : List Expr) (code : Code) → count ≡ count_range hs → body ≡ least_range bodies → code ≡ C.Hash count body cs c by → code ≡ C.Hash (count_range hs) (body_range cs c hs) cs c by
  hash_coded count body by code n m is = is ∙ (λ i. C.Hash (n i) ((m ∙ ap least_range bodies_are) i) cs c by)

  pub hash_sized : (count body : Range) (by : List Expr) (code : Code) (frames sizes : List ℕ) → frames ≡ map (λ h. hash_frame count body (keyed_of h)) hs → sizes ≡ added frames bodies → code ≡ C.Hash count body cs c by → sizes ≡ map (held_size code) hs
  hash_sized count body by code frames sizes f s is =
      s ∙ (λ i. added (f i) (bodies_are i)) ∙ added-map (λ h. hash_frame count body (keyed_of h)) (λ h. size (entry_piece (writing_all cs) (writing c)) (entries h)) hs
      ∙ map-same (λ h. hash_frame count body (keyed_of h) + size (entry_piece (writing_all cs) (writing c)) (entries h)) (held_size (C.Hash count body cs c by)) (size-Hash count body cs c by) hs
      ∙ ap (λ (d : Code). map (held_size d) hs) (sym is)

module _ (hs : List Held) (key c : Code) (keys under bodies : List ℕ) (k : keys ≡ map (key_size 0 (key ∷ [])) (flat_map entries hs)) (u : under ≡ map (held_size c) (kids (flat_map entries hs))) (b : bodies ≡ sums (map (λ h. length (entries h)) hs) (added keys under)) where
  bodies_of_one : bodies ≡ map (λ h. size (entry_piece (writing_all (key ∷ [])) (writing c)) (entries h)) hs
  bodies_of_one = entry_bodies hs (key ∷ []) c keys under bodies k u b

  pub ord_coded : (count body : Range) (lo hi : Bound) (code : Code) → count ≡ count_range hs → body ≡ least_range bodies → code ≡ C.Ord count body key c lo hi → code ≡ C.Ord (count_range hs) (body_range (key ∷ []) c hs) key c lo hi
  ord_coded count body lo hi code n m is = is ∙ (λ i. C.Ord (n i) ((m ∙ ap least_range bodies_of_one) i) key c lo hi)

  pub ord_sized : (count body : Range) (lo hi : Bound) (code : Code) (frames sizes : List ℕ) → frames ≡ map (λ h. ord_frame count body (keyed_of h)) hs → sizes ≡ added frames bodies → code ≡ C.Ord count body key c lo hi → sizes ≡ map (held_size code) hs
  ord_sized count body lo hi code frames sizes f s is =
      s ∙ (λ i. added (f i) (bodies_of_one i)) ∙ added-map (λ h. ord_frame count body (keyed_of h)) (λ h. size (entry_piece (writing_all (key ∷ [])) (writing c)) (entries h)) hs
      ∙ map-same (λ h. ord_frame count body (keyed_of h) + size (entry_piece (writing_all (key ∷ [])) (writing c)) (entries h)) (held_size (C.Ord count body key c lo hi)) (size-Ord count body key c lo hi) hs
      ∙ ap (λ (d : Code). map (held_size d) hs) (sym is)
