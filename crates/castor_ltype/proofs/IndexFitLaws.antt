-- What is held over tables of the types, and the indexes in it, fit the code for it.
use Rattle.std.proofs.Common.{◌≡◌, ◌∙◌, ℕ, zero, suc, ◌+◌, add-one, List, [], ◌∷◌, map, filter, length, drop, refl, sym, ap, subst, true, ◌==◌, if◌then◌else◌, Option, Some, None, Ok, slice_get}
use Rattle.std.specs.List.{flat_map, range_with_len}
use Rattle.std.proofs.lemmas.Bool.{and_from, and_parts}
use Rattle.castor_val.specs.declared.row.Row.{Row}
use Rattle.castor_val.specs.declared.table.Table.{Table}
use Rattle.castor_val.specs.declared.value.Ty.{Ty}
use Rattle.castor_val.specs.declared.value.Ty.TheVariants.{Bool as Truth}
use Rattle.castor_val.specs.declared.value.Value.{Value}
use Rattle.castor_val.specs.Values.{row_cmp, row_fits, same_row, value_fits}
use Rattle.castor_val.proofs.OrderLaws.{row_order}
use Rattle.castor_alg.specs.declared.context.Context.{Context}
use Rattle.castor_alg.specs.declared.expr.Expr.{Expr}
use Rattle.castor_alg.specs.declared.held.Entry.{Entry}
use Rattle.castor_alg.specs.declared.held.Held.{Held, Leaf}
use Rattle.castor_alg.specs.declared.rel.Bound.{Bound}
use Rattle.castor_alg.specs.declared.rel.Rel.{Rel}
use Rattle.castor_alg.specs.declared.rel.Rel as R
use Rattle.castor_alg.specs.Distinct.{distinct}
use Rattle.castor_alg.specs.Meaning.{meaning}
use Rattle.castor_alg.specs.Rows.{union_over}
use Rattle.castor_alg.specs.Scopes.{Scopes, bind, unbound}
use Rattle.castor_alg.specs.Sorting.{row_lt, sorted}
use Rattle.castor_alg.specs.Fits.{tables_fit}
use Rattle.castor_alg.specs.Typing.{allowed, are_hash_keys, are_sorting_keys, common_types, each, extended, group_types, is_context, is_of, is_range, type_under, types_of_each, types_under, within_limits}
use Rattle.castor_alg.proofs.RelInduction.{relations, rel_induction, fold-Table, fold-Scalar, fold-Cross, fold-Concat, fold-Select, fold-Filter, fold-Join, fold-DepJoin, fold-Group, fold-Order, fold-Dedup, fold-List, fold-Hash, fold-Ord}
use Rattle.castor_laws.proofs.EachLaws.{Each, none, one, each_all, each_distinct, each_filter, each_flat_map, each_map, each_weaker}
use Rattle.castor_laws.proofs.OperatorLaws.{sorted_permutes}
use Rattle.castor_laws.proofs.PermutationLaws.{each_permutes, permutes_sym}
use Rattle.castor_laws.proofs.TypeClauseLaws.{types_under-Scalar, types_under-Cross, types_under-Concat, types_under-Select, types_under-Filter, types_under-DepJoin, types_under-Group, types_under-Order, types_under-Dedup, types_under-List, types_under-Hash, types_under-Ord}
use Rattle.castor_laws.proofs.TypePartLaws.{and_then_parts, if_parts, limited_parts, map_parts}
use Rattle.castor_laws.proofs.ValueFitLaws.{AllFit}
use Rattle.castor_alg.specs.declared.held_out.HeldOut.{HeldOut}
use Rattle.castor_alg.specs.declared.phase.Phase.TheVariants.{Build, Run}
use Rattle.castor_alg.specs.HeldData.{entry, held_under, keyed, keys_of}
use Rattle.castor_alg.specs.Stages.{Phases, Staging, bind_phase, bound_stage, no_phases, stage_step, stage_under}
use Rattle.castor_stage.proofs.HoldingLaws.{holding-Scalar, holding-Cross, holding-Concat, holding-Select, holding-Filter, holding-Group, holding-Order, holding-Dedup, holding-Hash, holding-Ord}
use Rattle.castor_stage.proofs.KeyLaws.{strict_keys}
use Rattle.castor_stage.proofs.WalkLaws.{both_left, both_right}
use Rattle.castor_dir.specs.Buckets.{bucket_count}
use Rattle.castor_code.specs.declared.code.Code.{Code}
use Rattle.castor_code.specs.declared.code.Code as C
use Rattle.castor_code.specs.Directories.{ascending, bucket_of, bucketed, entry_piece, hash_piece, ord_piece, size}
use Rattle.castor_code.specs.LayoutMeaning.{all_in}
use Rattle.castor_code.specs.Pieces.{Piece, side_by_side, within}
use Rattle.castor_code.specs.Shapes.{keyed_of, leaf_of}
use Rattle.castor_code.proofs.ShapeLaws.{keyed_of-Keyed}
use Rattle.castor_ltype.specs.Generation.{body_range, code_over, count_range, hash_code, key_codes, kids, list_code, ord_code, scalar_code}
use Rattle.castor_ltype.specs.Places.{entries, key_value, part}
use Rattle.castor_ltype.specs.Layouts.{FitsHeld}
use Rattle.castor_ltype.proofs.CompletedLaws.{built_rows_fit}
use Rattle.castor_ltype.proofs.FaultLaws.{none_right}
use Rattle.castor_ltype.proofs.IndexSizeLaws.{bucketed_size}
use Rattle.castor_ltype.proofs.LaidLaws.{scalar_write, value_written}
use Rattle.castor_ltype.proofs.GeneratorLaws.{code-Scalar, code-Cross, code-Concat, code-Select, code-Filter, code-DepJoin, code-Group, code-Order, code-Dedup, code-List, code-Hash, code-Ord}
use Rattle.castor_ltype.proofs.PieceLaws.{piece-Concat, piece-Cross, piece-Dedup, piece-Filter, piece-Group, piece-Hash, piece-Order, piece-Ord, piece-Select, writing, writing_all}
use Rattle.castor_ltype.proofs.RangeLaws.{each_both, each_unflat, each_unmap}
use Rattle.castor_ltype.proofs.FitLaws.{Child, EntryStands, Fine, FitsAll, Stands, ValueFits, Valued, along_fits, depjoin_fits, entries_stand, fine_by, inner_fits, keys_ascend, leaf_clean, list_fits, numbers_of, parts_fit, scalar_fits, scalar_stands, values_fit}
use Rattle.castor_ltype.proofs.MeaningLaws.{held_is}
use Rattle.castor_stage.proofs.PhaseLaws.{here}

-- the entries of an index
record Indexed (s : Rel) (scopes : Phases) (context : Context) (k : ℕ) (columns : List Ty) (ts : List Table) (h : Held) : Type 0 where
  there : keyed_of h ≡ Some (entries h)
  rise : ascending (entries h) ≡ true
  stand : Each (EntryStands s scopes context k columns ts) (entries h)

indexed_stands : (q r s : Rel) (k : ℕ) → ((ts : List Table) (env run : Scopes) (params : Row) → held_under q ts env run params ≡ keyed (λ a. held_under s ts (bind env k a) run params) (keys_of (meaning r ts env params)))
    → (scopes : Phases) (context : Context) (columns : List Ty) (ts : List Table) → stage_under r Build scopes ≡ Ok tt → types_under r context ≡ Some columns → tables_fit ts context.tables ≡ true → (h : Held) → Stands q scopes context ts h → Indexed s scopes context k columns ts h
indexed_stands q r s k holds scopes context columns ts staged typed tables h so =
    let held = holds ts so.env so.run so.params in
    let source = meaning r ts so.env so.params in
    let keys = sorted row_lt (distinct same_row source.rows) in
    let hold = λ (a : Row). held_under s ts (bind so.env k a) so.run so.params in
    let es = map (entry hold) keys in
    let found : keyed_of h ≡ Some es = ap keyed_of (so.is ∙ ap (λ (x : HeldOut). x.held) held) ∙ keyed_of-Keyed es in
    let same : entries h ≡ es = ap (λ (o : Option (List Entry)). all_in o) found in
    let clean = none_right source.faults (union_over (λ a. (hold a).faults) keys) (sym (ap (λ (x : HeldOut). x.faults) held) ∙ so.clean) in
    let fitting = λ (row : Row). row_fits row columns ≡ true in
    let fit : AllFit columns keys = each_permutes fitting (permutes_sym (sorted_permutes row_lt (distinct same_row source.rows))) (each_distinct fitting same_row (built_rows_fit scopes context so.env so.known r columns ts so.params staged typed tables)) in
    record {
      there = found ∙ ap Some (sym same);
      rise = ap ascending same ∙ keys_ascend hold keys (strict_keys row_cmp row_order.total source.rows);
      stand = subst (λ (xs : List Entry). Each (EntryStands s scopes context k columns ts) xs) (sym same) (entries_stand s scopes context k columns ts so.env so.run so.params so.known fit clean);
    }

-- the keys of all entries fit the codes of their columns
abbrev Row_from : ℕ → Entry → Row
Row_from j e = drop j e.key

record First (t : Ty) (types : List Ty) (j : ℕ) (row : Row) : Type 0 where
  value : Valued t (slice_get row j)
  rest : row_fits (drop (suc j) row) types ≡ true
  is : drop j row ≡ value.value ∷ drop (suc j) row

first_value : (t : Ty) (types : List Ty) (j : ℕ) (row : Row) → row_fits (drop j row) (t ∷ types) ≡ true → First t types j row
first_value t types zero [] fit = cc
first_value t types zero (v ∷ row) fit = let parts = and_parts (value_fits v t) (row_fits row types) fit in record { value = record { value = v; is = refl; fit = parts.0 }; rest = parts.1; is = refl }
first_value t types (suc j) [] fit = cc
first_value t types (suc j) (v ∷ row) fit = let f = first_value t types j row fit in record { value = f.value; rest = f.rest; is = f.is }

no_values : (row : Row) → row_fits row [] ≡ true → (side_by_side [] (map Leaf row)).fits ≡ true
no_values [] fit = refl
no_values (v ∷ row) fit = cc

abbrev KeyFits : List Code → ℕ → Entry → Type 0
KeyFits cs j e = (side_by_side (writing_all cs) (map Leaf (drop j e.key))).fits ≡ true

keys_fit : (types : List Ty) (j : ℕ) (es : List Entry) → Each (λ (e : Entry). row_fits (drop j e.key) types ≡ true) es → Each (KeyFits (key_codes j types es) j) es
keys_fit [] j es all = each_weaker _ (KeyFits [] j) (λ e fit. no_values (drop j e.key) fit) all
keys_fit (t ∷ types) j es all =
    let values = map (key_value j) es in
    let firsts = each_weaker _ (λ (e : Entry). First t types j e.key) (λ e fit. first_value t types j e.key fit) all in
    let own = each_unmap (ValueFits t values) (key_value j) es (values_fit t values (each_map (Valued t) (key_value j) (each_weaker _ (λ (e : Entry). Valued t (key_value j e)) (λ e f. f.value) firsts))) in
    let behind = each_weaker _ (λ (e : Entry). row_fits (drop (j + 1) e.key) types ≡ true) (λ e f. subst (λ n. row_fits (drop n e.key) types ≡ true) (sym (add-one j)) f.rest) firsts in
    let rest = keys_fit types (j + 1) es behind in
    let cs = key_codes (j + 1) types es in
    let c = scalar_code (Some t) values in
    let Rest = λ (e : Entry). ValueFits t values (key_value j e) × KeyFits cs (j + 1) e in
    each_weaker _ (KeyFits (c ∷ cs) j)
    (λ e both. ap (λ (row : Row). (side_by_side (writing c ∷ writing_all cs) (map Leaf row)).fits) both.0.is
    ∙ and_from _ _ (ap (λ (p : Piece). p.fits) (value_written (Some t) values (Some both.0.value.value)) ∙ ap (λ (o : Option Value). (scalar_write (Some t) values o).fits) (sym both.0.value.is) ∙ both.1.0)
    (subst (λ n. KeyFits cs n e) (add-one j) both.1.1))
    (each_both (λ (e : Entry). First t types j e.key) Rest firsts (each_both (λ (e : Entry). ValueFits t values (key_value j e)) (KeyFits cs (j + 1)) own rest))

-- the entries of a bucket fit where all do
bucketed_fits : (P : Entry → Type 0) {es : List Entry} → Each P es → Each P (bucketed es)
bucketed_fits P {es} all =
    let n = bucket_count (length es) in
    each_flat_map P (λ b. filter (λ (e : Entry). bucket_of n e == b) es) (each_all (λ b. Each P (filter (λ (e : Entry). bucket_of n e == b) es)) (λ b. each_filter P (λ (e : Entry). bucket_of n e == b) all) (range_with_len 0 n))

-- what indexes hold, under the code of their keys and of what stands under these
module _ (q r s : Rel) (k : ℕ) (holds : (ts : List Table) (env run : Scopes) (params : Row) → held_under q ts env run params ≡ keyed (λ a. held_under s ts (bind env k a) run params) (keys_of (meaning r ts env params)))
    (y : FitsAll s) (scopes : Phases) (context : Context) (ts : List Table) (columns types : List Ty) (hs : List Held) (staged : stage_under r Build scopes ≡ Ok tt) (staged_body : stage_under s Run (bind_phase scopes k Build) ≡ Ok tt)
    (tables : tables_fit ts context.tables ≡ true) (source : types_under r context ≡ Some columns) (body : types_under s (extended context k columns) ≡ Some types) (all : Each (Stands q scopes context ts) hs) where
  abbrev es : List Entry
  es = flat_map entries hs

  abbrev kid : Code
  kid = code_over s (extended context k columns) (kids es)

  indexed : Each (Indexed s scopes context k columns ts) hs
  indexed = each_weaker _ (Indexed s scopes context k columns ts) (indexed_stands q r s k holds scopes context columns ts staged source tables) all

  stand : Each (EntryStands s scopes context k columns ts) es
  stand = each_flat_map (EntryStands s scopes context k columns ts) entries (each_weaker _ (λ h. Each (EntryStands s scopes context k columns ts) (entries h)) (λ h x. x.stand) indexed)

  kids_fit : Each (λ (e : Entry). Fine kid e.kid) es
  kids_fit =
      each_unmap (Fine kid) (λ (e : Entry). e.kid) es
      (y (bind_phase scopes k Build) (extended context k columns) ts types (kids es) staged_body tables body (each_map (Child s scopes context k columns ts) (λ (e : Entry). e.kid) (each_weaker _ (λ (e : Entry). Child s scopes context k columns ts e.kid) (λ e x. x.1) stand)))

  keys_fitting : Each (λ (e : Entry). row_fits (drop 0 e.key) columns ≡ true) es
  keys_fitting = each_weaker _ (λ (e : Entry). row_fits (drop 0 e.key) columns ≡ true) (λ e x. x.0) stand

  module _ (cs : List Code) (keys : Each (KeyFits cs 0) es) where
    abbrev write : Entry → Piece
    write = entry_piece (writing_all cs) (writing kid)

    abbrev EntryFits : Entry → Type 0
    EntryFits e = (write e).fits ≡ true

    entries_fit : Each (λ h. Each EntryFits (entries h)) hs
    entries_fit = each_unflat EntryFits entries hs (each_weaker _ EntryFits (λ e both. and_from _ _ both.0 both.1) (each_both (KeyFits cs 0) (λ (e : Entry). Fine kid e.kid) keys kids_fit))

    abbrev Ranges : Held → Type 0
    Ranges h = (within (count_range hs) (length (entries h)) ≡ true) × (within (body_range cs kid hs) (size write (entries h)) ≡ true)

    ranges : Each Ranges hs
    ranges = each_both (λ h. within (count_range hs) (length (entries h)) ≡ true) (λ h. within (body_range cs kid hs) (size write (entries h)) ≡ true) (numbers_of (λ h. length (entries h)) hs) (numbers_of (λ h. size write (entries h)) hs)

    abbrev IndexFits : Held → Type 0
    IndexFits h = Indexed s scopes context k columns ts h × (Each EntryFits (entries h) × Ranges h)

    index_fits : Each IndexFits hs
    index_fits = each_both (Indexed s scopes context k columns ts) (λ h. Each EntryFits (entries h) × Ranges h) indexed (each_both (λ h. Each EntryFits (entries h)) Ranges entries_fit ranges)

    pub hash_fits : (by : List Expr) → Each (Fine (C.Hash (count_range hs) (body_range cs kid hs) cs kid by)) hs
    hash_fits by =
        each_weaker _ (Fine (C.Hash (count_range hs) (body_range cs kid hs) cs kid by))
        (λ h x. ap (λ (p : Piece). p.fits) (piece-Hash h (count_range hs) (body_range cs kid hs) cs kid by) ∙ ap (λ (o : Option (List Entry)). (hash_piece (count_range hs) (body_range cs kid hs) write o).fits) x.0.there
        ∙ and_from _ _ x.1.1.0 (and_from _ _ (ap (within (body_range cs kid hs)) (bucketed_size write (entries h)) ∙ x.1.1.1) (and_from _ _ x.0.rise (along_fits write (bucketed_fits EntryFits x.1.0)))))
        index_fits

  pub ord_fits : (c : Code) → Each (KeyFits (c ∷ []) 0) es → (lo hi : Bound) → Each (Fine (C.Ord (count_range hs) (body_range (c ∷ []) kid hs) c kid lo hi)) hs
  ord_fits c keys lo hi =
      each_weaker _ (Fine (C.Ord (count_range hs) (body_range (c ∷ []) kid hs) c kid lo hi))
      (λ h x. ap (λ (p : Piece). p.fits) (piece-Ord h (count_range hs) (body_range (c ∷ []) kid hs) c kid lo hi) ∙ ap (λ (o : Option (List Entry)). (ord_piece (count_range hs) (body_range (c ∷ []) kid hs) (write (c ∷ []) keys) o).fits) x.0.there
      ∙ and_from _ _ x.1.1.0 (and_from _ _ x.1.1.1 (and_from _ _ x.0.rise (along_fits (write (c ∷ []) keys) x.1.0))))
      (index_fits (c ∷ []) keys)

one_column : (types : List Ty) (lo hi : Bound) (context : Context) → is_range types lo hi context ≡ true → (t : Ty) × (types ≡ t ∷ [])
one_column [] lo hi context is = cc
one_column (t ∷ []) lo hi context is = (t, refl)
one_column (t ∷ u ∷ types) lo hi context is = cc

query_fits : (q : Rel) → FitsAll q
query_fits = rel_induction FitsAll record {
  table = λ n scopes context ts columns hs staged tables typed all.
      let refused = sym (ap (here Run scopes) (fold-Table Staging stage_step n)) ∙ staged in
      cc;
  scalar = λ e scopes context ts columns hs staged tables typed all.
      let staged_part = sym (ap (here Run scopes) (fold-Scalar Staging stage_step e)) ∙ staged in
      let part = map_parts (λ t. t ∷ []) (type_under e [] context) columns (sym (types_under-Scalar context e) ∙ typed) in
      fine_by _ _ hs (code-Scalar context hs e ∙ ap (λ (o : Option Ty). scalar_code o (map leaf_of hs)) part.1)
      (scalar_fits part.0 hs (each_weaker _ (λ h. Valued part.0 (leaf_of h)) (scalar_stands e part.0 scopes context ts staged_part part.1 (λ env run params. holding-Scalar ts env run params e) leaf_clean) all));
  cross = λ rs scopes context ts columns hs staged tables typed all.
      let parts = sym (ap (here Run scopes) (fold-Cross Staging stage_step (relations rs))) ∙ staged in
      let operands = map (λ (r : Rel). types_under r context) (relations rs) in
      let types = map_parts (λ all. flat_map (λ ts. ts) all) (each operands) columns (limited_parts _ columns (sym (types_under-Cross context (relations rs)) ∙ typed)) in
      fine_by _ _ hs (code-Cross context hs (relations rs))
      (parts_fit C.Cross (λ cs h. piece-Cross h cs) (R.Cross (relations rs)) rs (λ ts env run params. holding-Cross ts env run params (relations rs)) scopes context ts types.0 hs parts tables types.1 all);
  concat = λ rs scopes context ts columns hs staged tables typed all.
      let parts = sym (ap (here Run scopes) (fold-Concat Staging stage_step (relations rs))) ∙ staged in
      let operands = map (λ (r : Rel). types_under r context) (relations rs) in
      let types = and_then_parts common_types (each operands) columns (sym (types_under-Concat context (relations rs)) ∙ typed) in
      fine_by _ _ hs (code-Concat context hs (relations rs))
      (parts_fit C.Concat (λ cs h. piece-Concat h cs) (R.Concat (relations rs)) rs (λ ts env run params. holding-Concat ts env run params (relations rs)) scopes context ts types.0 hs parts tables types.1 all);
  select = λ es r x scopes context ts columns hs staged tables typed all.
      let parts = sym (ap (here Run scopes) (fold-Select Staging stage_step es r)) ∙ staged in
      let part = and_then_parts (λ columns. within_limits (types_of_each es columns context)) (types_under r context) columns (sym (types_under-Select context es r) ∙ typed) in
      fine_by _ _ hs (code-Select context hs es r)
      (inner_fits (R.Select es r) r (λ ts env run params. holding-Select ts env run params es r) scopes context ts (C.Select es) (λ c h. piece-Select h es c) x part.0 hs (both_right _ _ parts) tables part.1 all);
  filter = λ e r x scopes context ts columns hs staged tables typed all.
      let parts = sym (ap (here Run scopes) (fold-Filter Staging stage_step e r)) ∙ staged in
      let part = and_then_parts (λ columns. allowed (is_of Truth (type_under e columns context)) columns) (types_under r context) columns (sym (types_under-Filter context e r) ∙ typed) in
      fine_by _ _ hs (code-Filter context hs e r)
      (inner_fits (R.Filter e r) r (λ ts env run params. holding-Filter ts env run params e r) scopes context ts (C.Filter e) (λ c h. piece-Filter h e c) x part.0 hs (both_right _ _ parts) tables part.1 all);
  join = λ e r s x y scopes context ts columns hs staged tables typed all.
      let refused = sym (ap (here Run scopes) (fold-Join Staging stage_step e r s)) ∙ staged in
      cc;
  depjoin = λ k r s x y scopes context ts columns hs staged tables typed all.
      let parts = sym (ap (here Run scopes) (fold-DepJoin Staging stage_step k r s)) ∙ staged in
      let source = and_then_parts (λ columns. types_under s (extended context k columns)) (types_under r context) columns (sym (types_under-DepJoin context k r s) ∙ typed) in
      fine_by _ _ hs (code-DepJoin context hs k r s ∙ ap (λ (cols : List Ty). C.Dep k (code_over r context (map (part 0) hs)) (code_over s (extended context k cols) (map (part 1) hs))) (ap all_in source.1))
      (depjoin_fits k r s x y scopes context ts source.0 columns hs (both_left _ _ parts) (both_right _ _ parts) tables source.1 source.2 all);
  group = λ ks aggs r x scopes context ts columns hs staged tables typed all.
      let staged_part = sym (ap (here Run scopes) (fold-Group Staging stage_step ks aggs r)) ∙ staged in
      let part = and_then_parts (λ columns. group_types ks aggs columns) (types_under r context) columns (sym (types_under-Group context ks aggs r) ∙ typed) in
      fine_by _ _ hs (code-Group context hs ks aggs r)
      (inner_fits (R.Group ks aggs r) r (λ ts env run params. holding-Group ts env run params ks aggs r) scopes context ts (C.Group ks aggs) (λ c h. piece-Group h ks aggs c) x part.0 hs staged_part tables part.1 all);
  order = λ ks r x scopes context ts columns hs staged tables typed all.
      let staged_part = sym (ap (here Run scopes) (fold-Order Staging stage_step ks r)) ∙ staged in
      let part = and_then_parts (λ columns. allowed (are_sorting_keys ks columns) columns) (types_under r context) columns (sym (types_under-Order context ks r) ∙ typed) in
      fine_by _ _ hs (code-Order context hs ks r)
      (inner_fits (R.Order ks r) r (λ ts env run params. holding-Order ts env run params ks r) scopes context ts (C.Order ks) (λ c h. piece-Order h ks c) x part.0 hs staged_part tables part.1 all);
  dedup = λ r x scopes context ts columns hs staged tables typed all.
      let staged_part = sym (ap (here Run scopes) (fold-Dedup Staging stage_step r)) ∙ staged in
      fine_by _ _ hs (code-Dedup context hs r)
      (inner_fits (R.Dedup r) r (λ ts env run params. holding-Dedup ts env run params r) scopes context ts C.Dedup (λ c h. piece-Dedup h c) x columns hs staged_part tables (sym (types_under-Dedup context r) ∙ typed) all);
  list = λ k r s x y scopes context ts columns hs staged tables typed all.
      let parts = sym (ap (here Run scopes) (fold-List Staging stage_step k r s)) ∙ staged in
      let part = and_then_parts (λ columns. types_under s (extended context k columns)) (types_under r context) columns (sym (types_under-List context k r s) ∙ typed) in
      fine_by _ _ hs (code-List context hs k r s ∙ ap (λ (cols : List Ty). list_code (code_over s (extended context k cols)) hs) (ap all_in part.1))
      (list_fits k r s y scopes context ts part.0 columns hs (both_left _ _ parts) (both_right _ _ parts) tables part.1 part.2 all);
  hash = λ k r s es x y scopes context ts columns hs staged tables typed all.
      let parts = sym (ap (here Run scopes) (fold-Hash Staging stage_step k r s es)) ∙ staged in
      let part = and_then_parts (λ columns. if are_hash_keys columns (types_of_each es [] context) then types_under s (extended context k columns) else None) (types_under r context) columns (sym (types_under-Hash context k r s es) ∙ typed) in
      let body = if_parts (are_hash_keys part.0 (types_of_each es [] context)) (types_under s (extended context k part.0)) columns part.2 in
      let holds = λ (ts : List Table) (env run : Scopes) (params : Row). holding-Hash ts env run params k r s es in
      let staged_source = both_left _ _ (both_right _ _ parts) in
      let staged_body = both_right _ _ (both_right _ _ parts) in
      let keys = keys_fit part.0 0 (flat_map entries hs) (keys_fitting (R.Hash k r s es) r s k holds y scopes context ts part.0 columns hs staged_source staged_body tables part.1 body.1 all) in
      fine_by _ _ hs (code-Hash context hs k r s es ∙ ap (λ (cols : List Ty). hash_code cols (code_over s (extended context k cols)) es hs) (ap all_in part.1))
      (hash_fits (R.Hash k r s es) r s k holds y scopes context ts part.0 columns hs staged_source staged_body tables part.1 body.1 all (key_codes 0 part.0 (flat_map entries hs)) keys es);
  ordered = λ k r s lo hi x y scopes context ts columns hs staged tables typed all.
      let parts = sym (ap (here Run scopes) (fold-Ord Staging stage_step k r s lo hi)) ∙ staged in
      let part = and_then_parts (λ columns. if is_range columns lo hi context then types_under s (extended context k columns) else None) (types_under r context) columns (sym (types_under-Ord context k r s lo hi) ∙ typed) in
      let body = if_parts (is_range part.0 lo hi context) (types_under s (extended context k part.0)) columns part.2 in
      let behind : stage_under s Run (bind_phase scopes k Build) ≡ Ok tt = both_right (stage_under r Build scopes) _ (both_right (bound_stage hi Run scopes) _ (both_right (bound_stage lo Run scopes) _ parts)) in
      let source = both_left _ _ (both_right _ _ (both_right _ _ parts)) in
      let holds = λ (ts : List Table) (env run : Scopes) (params : Row). holding-Ord ts env run params k r s lo hi in
      let one = one_column part.0 lo hi context body.0 in
      let all_entries = flat_map entries hs in
      let c = scalar_code (slice_get part.0 0) (map (key_value 0) all_entries) in
      let c_is : c ≡ scalar_code (Some one.0) (map (key_value 0) all_entries) = ap (λ (cols : List Ty). scalar_code (slice_get cols 0) (map (key_value 0) all_entries)) one.1 in
      let fitting = keys_fitting (R.Ord k r s lo hi) r s k holds y scopes context ts part.0 columns hs source behind tables part.1 body.1 all in
      let keys_one = keys_fit (one.0 ∷ []) 0 all_entries (subst (λ (cols : List Ty). Each (λ (e : Entry). row_fits (drop 0 e.key) cols ≡ true) all_entries) one.1 fitting) in
      let keys = subst (λ (d : Code). Each (KeyFits (d ∷ []) 0) all_entries) (sym c_is) keys_one in
      fine_by _ _ hs (code-Ord context hs k r s lo hi ∙ ap (λ (cols : List Ty). ord_code cols (code_over s (extended context k cols)) lo hi hs) (ap all_in part.1))
      (ord_fits (R.Ord k r s lo hi) r s k holds y scopes context ts part.0 columns hs source behind tables part.1 body.1 all c keys lo hi);
}

-- what is held for a query fits the code for it
pub code_fits : (q : Rel) (types : Context) (held : Held) → FitsHeld q types held (code_over q types (held ∷ []))
code_fits q types held staged columns typed tables fit is =
    let typed_parts = if_parts (is_context types) (types_under q types) columns typed in
    let tree = held_is q tables held is in
    let stands : Stands q no_phases types tables held = record { env = unbound; run = unbound; params = []; is = sym tree.1; clean = tree.0; known = λ k ts phase same. cc } in
    head_of (query_fits q no_phases types tables columns (held ∷ []) staged fit typed_parts.1 (one stands none))
  where
    head_of : {P : Held → Type 0} {h : Held} {hs : List Held} → Each P (h ∷ hs) → P h
    head_of (one first rest) = first
