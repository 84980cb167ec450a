-- The rows of well-typed relations are of their column types.
use Rattle.std.proofs.Common.{◌≡◌, ◌∙◌, ℕ, zero, suc, List, [], ◌∷◌, ◌++◌, map, filter, Bool, true, false, ◌&&◌, ◌==◌, refl, sym, ap, subst, Option, Some, None, slice_get, Result, Ok, Err, if◌then◌else◌, cond}
use Rattle.std.specs.Prelude.{slice_index_or}
use Rattle.std.specs.List.{list_all, list_any, flat_map, AllZip}
use Rattle.std.proofs.lemmas.Bool.{and_from, and_parts}
use Rattle.castor_val.specs.declared.fault.Faults.{Faults}
use Rattle.castor_val.specs.declared.row.Row.{Row}
use Rattle.castor_val.specs.declared.table.Table.{Table}
use Rattle.castor_val.specs.declared.value.Ty.{Ty}
use Rattle.castor_val.specs.declared.value.Ty.TheVariants.{Bool as Truth}
use Rattle.castor_val.specs.declared.value.Value.{Value}
use Rattle.castor_val.specs.Values.{column, row_fits, same_row, table_fits}
use Rattle.castor_val.proofs.FitLaws.{row_fits-append}
use Rattle.castor_alg.specs.declared.context.Context.{Context}
use Rattle.castor_alg.specs.declared.out.Out.{Out}
use Rattle.castor_alg.specs.declared.rel.Rel.{Rel}
use Rattle.castor_alg.specs.Distinct.{distinct}
use Rattle.castor_alg.specs.Expression.{expr_value, expr_values}
use Rattle.castor_alg.specs.Fits.{Fits, tables_fit}
use Rattle.castor_alg.specs.Groups.{group_row}
use Rattle.castor_alg.specs.Indexes.{found, hashed, lower, ranged, upper}
use Rattle.castor_alg.specs.Meaning.{meaning}
use Rattle.castor_alg.specs.Rows.{combined, is_true, row_in}
use Rattle.castor_alg.specs.Scopes.{Scopes, bind}
use Rattle.castor_alg.specs.Sorting.{by_keys, row_lt, sorted}
use Rattle.castor_alg.specs.Typing.{allowed, are_hash_keys, are_sorting_keys, common_types, cross_types, each, extended, group_types, is_of, is_range, same_types, scope_types, type_under, types_of_each, types_under, within_limits}
use Rattle.castor_alg.proofs.RelInduction.{With, relations, rel_induction}
use Rattle.castor_alg.proofs.TypingLaws.{scope_types-extended}
use Rattle.castor_laws.specs.Fitting.{RowsFit}
use Rattle.std.specs.Ordering.{is_lt}
use Rattle.castor_laws.proofs.DistinctLaws.{each_at_key}
use Rattle.castor_laws.proofs.EachLaws.{none, one, each_append, each_distinct, each_filter, each_flat_map, each_map, each_weaker}
use Rattle.castor_laws.proofs.GroupFitLaws.{groups_fit}
use Rattle.castor_laws.proofs.OperatorLaws.{sorted_permutes}
use Rattle.castor_laws.proofs.PermutationLaws.{each_permutes, permutes_sym}
use Rattle.castor_laws.proofs.RelClauseLaws.{meaning-Table, meaning-Scalar, meaning-Cross, meaning-Concat, meaning-Select, meaning-Filter, meaning-Join, meaning-DepJoin, meaning-Group, meaning-Order, meaning-Dedup, meaning-List, meaning-Hash, meaning-Ord}
use Rattle.castor_laws.proofs.TypeClauseLaws.{types_under-Table, types_under-Scalar, types_under-Cross, types_under-Concat, types_under-Select, types_under-Filter, types_under-Join, types_under-DepJoin, types_under-Group, types_under-Order, types_under-Dedup, types_under-List, types_under-Hash, types_under-Ord}
use Rattle.castor_laws.proofs.TypePartLaws.{allowed_parts, and_then_parts, both_parts, if_parts, limited_parts, map_parts, same_types-equal}
use Rattle.castor_laws.proofs.ValueFitLaws.{AllFit, row_in_fits, rows_of_values_fit}

-- where the relation has column types, each of its rows is of these types
abbrev pub EachRowFits : Rel → Type 0
EachRowFits q = (context : Context) (types : List Ty) → types_under q context ≡ Some types → (tables : List Table) (env : Scopes) (params : Row) → Fits context tables env params → AllFit types (meaning q tables env params).rows

abbrev OutFits : Out → List Ty → Type 0
OutFits out types = AllFit types out.rows

fits_by : (a b : Out) (types : List Ty) → a ≡ b → OutFits b types → OutFits a types
fits_by a b types is fits = subst (λ out. OutFits out types) (sym is) fits

all_fit : (types : List Ty) (table : Table) → table_fits table types ≡ true → AllFit types table
all_fit types [] fits = none
all_fit types (row ∷ table) fits =
    let parts = and_parts (row_fits row types) (table_fits table types) fits in
    one parts.0 (all_fit types table parts.1)

pub as_table : (types : List Ty) {table : Table} → AllFit types table → table_fits table types ≡ true
as_table types none = refl
as_table types (one {x} {xs} first rest) = and_from (row_fits x types) (table_fits xs types) first (as_table types rest)

table_rows_fit : (tables : List Table) (all : List (List Ty)) (n : ℕ) (types : List Ty) → tables_fit tables all ≡ true → slice_get all n ≡ Some types → AllFit types (slice_index_or tables n [])
table_rows_fit tables [] n types fits is = cc
table_rows_fit [] (ts ∷ all) n types fits is = cc
table_rows_fit (table ∷ tables) (ts ∷ all) zero types fits is =
    let same : ts ≡ types = cc in
    subst (λ us. AllFit us table) same (all_fit ts table (and_parts (table_fits table ts) (tables_fit tables all) fits).0)
table_rows_fit (table ∷ tables) (ts ∷ all) (suc n) types fits is = table_rows_fit tables all n types (and_parts (table_fits table ts) (tables_fit tables all) fits).1 is

-- in the body of a binder its scope is bound to a row of the source
bound_fits : (b : Bool) (row outer : Row) (columns : List Ty) (found : Option (List Ty)) (types : List Ty) → row_fits row columns ≡ true → ((ts : List Ty) → found ≡ Some ts → row_fits outer ts ≡ true) → (if b then Some columns else found) ≡ Some types → row_fits (cond b row outer) types ≡ true
bound_fits true row outer columns found types fits rest is = let same : columns ≡ types = cc in subst (λ ts. row_fits row ts ≡ true) same fits
bound_fits false row outer columns found types fits rest is = rest types is

pub fits_in_body : (context : Context) (k : ℕ) (columns : List Ty) (tables : List Table) (env : Scopes) (params row : Row) → Fits context tables env params → row_fits row columns ≡ true → Fits (extended context k columns) tables (bind env k row) params
fits_in_body context k columns tables env params row fits row_is = record {
  tables_have_types = fits.tables_have_types;
  scopes_have_types = λ j types is. bound_fits (k == j) row (env j) columns (scope_types context.scopes j) types row_is (fits.scopes_have_types j) (sym (scope_types-extended context k columns j) ∙ is);
  params_have_types = fits.params_have_types;
}

-- all combinations of rows, and one operand after the other
combined_fit : (outs : List Out) (all : List (List Ty)) → AllZip OutFits outs all → AllFit (flat_map (λ types. types) all) (combined (map (λ (r : Out). r.rows) outs))
combined_fit [] [] fit = one refl none
combined_fit [] (types ∷ all) fit = absurd fit
combined_fit (out ∷ outs) [] fit = absurd fit
combined_fit (out ∷ outs) (types ∷ all) (first, rest) =
    let more = flat_map (λ types. types) all in
    let others = combined (map (λ (r : Out). r.rows) outs) in
    let fitting = λ (row : Row). row_fits row (types ++ more) ≡ true in
    each_flat_map fitting (λ a. map (λ b. a ++ b) others)
    (each_weaker _ _ (λ a fit. each_map fitting (λ b. a ++ b) (each_weaker _ _ (λ b also. row_fits-append a b types more fit also) (combined_fit outs all rest))) first)

operands_combined_fit : (outs : List Out) (all : List (List Ty)) (types : List Ty) → flat_map (λ ts. ts) all ≡ types → AllZip OutFits outs all → AllFit types (combined (map (λ (r : Out). r.rows) outs))
operands_combined_fit outs all types is fit = subst (λ ts. AllFit ts (combined (map (λ (r : Out). r.rows) outs))) is (combined_fit outs all fit)

appended_fit : (types : List Ty) (outs : List Out) (all : List (List Ty)) → list_all (λ ts. same_types types ts) all ≡ true → AllZip OutFits outs all → AllFit types (flat_map (λ (r : Out). r.rows) outs)
appended_fit types [] [] same fit = none
appended_fit types [] (ts ∷ all) same fit = absurd fit
appended_fit types (out ∷ outs) [] same fit = absurd fit
appended_fit types (out ∷ outs) (ts ∷ all) same (first, rest) =
    let parts = and_parts (same_types types ts) (list_all (λ us. same_types types us) all) same in
    each_append (λ row. row_fits row types ≡ true) (subst (λ us. AllFit us out.rows) (sym (same_types-equal types ts parts.0)) first) (appended_fit types outs all parts.1 rest)

operands_fit : (rs : List (With EachRowFits)) (context : Context) (all : List (List Ty)) → each (map (λ (r : Rel). types_under r context) (relations rs)) ≡ Some all → (ts : List Table) (env : Scopes) (p : Row) → Fits context ts env p → AllZip OutFits (map (λ (r : Rel). meaning r ts env p) (relations rs)) all
operands_fit [] context [] typed ts env p fits = tt
operands_fit [] context (types ∷ all) typed ts env p fits = cc
operands_fit (r ∷ rs) context all typed ts env p fits =
    let parts = both_parts (λ t ts. t ∷ ts) (types_under r.0 context) (each (map (λ (r : Rel). types_under r context) (relations rs))) all typed in
    subst (λ list. AllZip OutFits (map (λ (r : Rel). meaning r ts env p) (relations (r ∷ rs))) list) parts.4
    (r.1 context parts.0 parts.2 ts env p fits, operands_fit rs context parts.1 parts.3 ts env p fits)

-- the body of a binder under rows of its source
module _ (s : Rel) (holds : EachRowFits s) (context : Context) (k : ℕ) (columns types : List Ty) (typed : types_under s (extended context k columns) ≡ Some types) (ts : List Table) (env : Scopes) (p : Row) (fits : Fits context ts env p) where
  body_fits : (row : Row) → row_fits row columns ≡ true → AllFit types (meaning s ts (bind env k row) p).rows
  body_fits row fit = holds (extended context k columns) types typed ts (bind env k row) p (fits_in_body context k columns ts env p row fits fit)

  bodies_fit : {rows : List Row} → AllFit columns rows → AllFit types (flat_map (λ row. (meaning s ts (bind env k row) p).rows) rows)
  bodies_fit all = each_flat_map (λ row. row_fits row types ≡ true) (λ row. (meaning s ts (bind env k row) p).rows) (each_weaker _ _ body_fits all)

  found_fits : (r : Out) (key : Row) (b : Bool) → list_any (same_row key) r.rows ≡ b → AllFit columns r.rows → AllFit types (found (λ row. meaning s ts (bind env k row) p) r key b).rows
  found_fits r key true is all = body_fits key (each_at_key (λ row. row_fits row columns ≡ true) key all is)
  found_fits r key false is all = none

  hashed_fits : (r : Out) (key : Result Row Faults) → AllFit columns r.rows → AllFit types (hashed (λ row. meaning s ts (bind env k row) p) r key).rows
  hashed_fits r (Ok key) all = found_fits r key (list_any (same_row key) r.rows) refl all
  hashed_fits r (Err f) all = none

  reached_fit : (within : Value → Bool) (rows : List Row) → AllFit columns rows → AllFit columns (sorted row_lt (filter (λ row. within (column row 0)) (distinct same_row rows)))
  reached_fit within rows all =
      let fitting = λ (row : Row). row_fits row columns ≡ true in
      let inside = λ (row : Row). within (column row 0) in
      each_permutes fitting (permutes_sym (sorted_permutes row_lt (filter inside (distinct same_row rows)))) (each_filter fitting inside (each_distinct fitting same_row all))

  ranged_fits : (r : Out) (from to : Result (Value → Bool) Faults) → AllFit columns r.rows → AllFit types (ranged (λ row. meaning s ts (bind env k row) p) r from to).rows
  ranged_fits r (Ok f) (Ok g) all = bodies_fit (reached_fit (λ v. f v && g v) r.rows all)
  ranged_fits r (Ok f) (Err g) all = none
  ranged_fits r (Err f) (Ok g) all = none
  ranged_fits r (Err f) (Err g) all = none

pub rows_fit_types : (q : Rel) → EachRowFits q
rows_fit_types = rel_induction EachRowFits record {
  table = λ n context types typed ts env p fits.
      fits_by _ _ types (meaning-Table ts env p n) (table_rows_fit ts context.tables n types fits.tables_have_types (sym (types_under-Table context n) ∙ typed));
  scalar = λ e context types typed ts env p fits.
      let part = map_parts (λ t. t ∷ []) (type_under e [] context) types (sym (types_under-Scalar context e) ∙ typed) in
      let each_is : types_of_each (e ∷ []) [] context ≡ Some types = rw part.1 (ap Some part.2) in
      fits_by _ _ types (meaning-Scalar ts env p e)
      (row_in_fits (expr_values (e ∷ []) [] env p) types (rows_of_values_fit (e ∷ []) [] context types each_is [] env p refl fits.scopes_have_types fits.params_have_types));
  cross = λ rs context types typed ts env p fits.
      let operands = map (λ (r : Rel). types_under r context) (relations rs) in
      let part = map_parts (λ all. flat_map (λ ts. ts) all) (each operands) types (limited_parts _ types (sym (types_under-Cross context (relations rs)) ∙ typed)) in
      fits_by _ _ types (meaning-Cross ts env p (relations rs))
      (operands_combined_fit (map (λ (r : Rel). meaning r ts env p) (relations rs)) part.0 types part.2 (operands_fit rs context part.0 part.1 ts env p fits));
  concat = λ rs context types typed ts env p fits.
      let operands = map (λ (r : Rel). types_under r context) (relations rs) in
      let part = and_then_parts common_types (each operands) types (sym (types_under-Concat context (relations rs)) ∙ typed) in
      let first = and_then_parts (λ first. allowed (list_all (λ types. same_types first types) part.0) first) (slice_get part.0 0) types part.2 in
      let same = allowed_parts (list_all (λ types. same_types first.0 types) part.0) first.0 types first.2 in
      fits_by _ _ types (meaning-Concat ts env p (relations rs))
      (appended_fit types (map (λ (r : Rel). meaning r ts env p) (relations rs)) part.0
      (subst (λ us. list_all (λ types. same_types us types) part.0 ≡ true) same.1 same.0)
      (operands_fit rs context part.0 part.1 ts env p fits));
  select = λ es r x context types typed ts env p fits.
      let part = and_then_parts (λ columns. within_limits (types_of_each es columns context)) (types_under r context) types (sym (types_under-Select context es r) ∙ typed) in
      let values = limited_parts (types_of_each es part.0 context) types part.2 in
      fits_by _ _ types (meaning-Select ts env p es r)
      (each_flat_map (λ row. row_fits row types ≡ true) (λ row. row_in (expr_values es row env p))
      (each_weaker _ _ (λ row fit. row_in_fits (expr_values es row env p) types (rows_of_values_fit es part.0 context types values row env p fit fits.scopes_have_types fits.params_have_types)) (x context part.0 part.1 ts env p fits)));
  filter = λ e r x context types typed ts env p fits.
      let part = and_then_parts (λ columns. allowed (is_of Truth (type_under e columns context)) columns) (types_under r context) types (sym (types_under-Filter context e r) ∙ typed) in
      let same = (allowed_parts (is_of Truth (type_under e part.0 context)) part.0 types part.2).1 in
      fits_by _ _ types (meaning-Filter ts env p e r)
      (each_filter (λ row. row_fits row types ≡ true) (λ row. is_true (expr_value e row env p)) (x context types (part.1 ∙ ap Some same) ts env p fits));
  join = λ e r s x y context types typed ts env p fits.
      let operands = types_under r context ∷ types_under s context ∷ [] in
      let part = and_then_parts (λ columns. allowed (is_of Truth (type_under e columns context)) columns) (cross_types operands) types (sym (types_under-Join context e r s) ∙ typed) in
      let same = (allowed_parts (is_of Truth (type_under e part.0 context)) part.0 types part.2).1 in
      let both = map_parts (λ all. flat_map (λ ts. ts) all) (each operands) types (limited_parts _ types (part.1 ∙ ap Some same)) in
      let fit = operands_fit ((r, x) ∷ (s, y) ∷ []) context both.0 both.1 ts env p fits in
      fits_by _ _ types (meaning-Join ts env p e r s)
      (each_filter (λ row. row_fits row types ≡ true) (λ row. is_true (expr_value e row env p))
      (operands_combined_fit (meaning r ts env p ∷ meaning s ts env p ∷ []) both.0 types both.2 fit));
  depjoin = λ k r s x y context types typed ts env p fits.
      let part = and_then_parts (λ columns. types_under s (extended context k columns)) (types_under r context) types (sym (types_under-DepJoin context k r s) ∙ typed) in
      fits_by _ _ types (meaning-DepJoin ts env p k r s) (bodies_fit s y context k part.0 types part.2 ts env p fits (x context part.0 part.1 ts env p fits));
  group = λ ks aggs r x context types typed ts env p fits.
      let part = and_then_parts (λ columns. group_types ks aggs columns) (types_under r context) types (sym (types_under-Group context ks aggs r) ∙ typed) in
      let rows = (meaning r ts env p).rows in
      fits_by _ _ types (meaning-Group ts env p ks aggs r)
      (each_flat_map (λ row. row_fits row types ≡ true) (λ key. row_in (group_row ks aggs rows key)) (groups_fit part.0 ks aggs types part.2 (x context part.0 part.1 ts env p fits) refl));
  order = λ ks r x context types typed ts env p fits.
      let part = and_then_parts (λ columns. allowed (are_sorting_keys ks columns) columns) (types_under r context) types (sym (types_under-Order context ks r) ∙ typed) in
      let same = (allowed_parts (are_sorting_keys ks part.0) part.0 types part.2).1 in
      fits_by _ _ types (meaning-Order ts env p ks r)
      (each_permutes (λ row. row_fits row types ≡ true) (permutes_sym (sorted_permutes (λ a b. is_lt (by_keys ks a b)) (meaning r ts env p).rows)) (x context types (part.1 ∙ ap Some same) ts env p fits));
  dedup = λ r x context types typed ts env p fits.
      fits_by _ _ types (meaning-Dedup ts env p r) (each_distinct (λ row. row_fits row types ≡ true) same_row (x context types (sym (types_under-Dedup context r) ∙ typed) ts env p fits));
  list = λ k r s x y context types typed ts env p fits.
      let part = and_then_parts (λ columns. types_under s (extended context k columns)) (types_under r context) types (sym (types_under-List context k r s) ∙ typed) in
      fits_by _ _ types (meaning-List ts env p k r s) (bodies_fit s y context k part.0 types part.2 ts env p fits (x context part.0 part.1 ts env p fits));
  hash = λ k r s es x y context types typed ts env p fits.
      let part = and_then_parts (λ columns. if are_hash_keys columns (types_of_each es [] context) then types_under s (extended context k columns) else None) (types_under r context) types (sym (types_under-Hash context k r s es) ∙ typed) in
      let body = if_parts (are_hash_keys part.0 (types_of_each es [] context)) (types_under s (extended context k part.0)) types part.2 in
      fits_by _ _ types (meaning-Hash ts env p k r s es) (hashed_fits s y context k part.0 types body.1 ts env p fits (meaning r ts env p) (expr_values es [] env p) (x context part.0 part.1 ts env p fits));
  ordered = λ k r s lo hi x y context types typed ts env p fits.
      let part = and_then_parts (λ columns. if is_range columns lo hi context then types_under s (extended context k columns) else None) (types_under r context) types (sym (types_under-Ord context k r s lo hi) ∙ typed) in
      let body = if_parts (is_range part.0 lo hi context) (types_under s (extended context k part.0)) types part.2 in
      fits_by _ _ types (meaning-Ord ts env p k r s lo hi) (ranged_fits s y context k part.0 types body.1 ts env p fits (meaning r ts env p) (lower lo env p) (upper hi env p) (x context part.0 part.1 ts env p fits));
}

pub tables_fit_types : (q : Rel) → RowsFit q
tables_fit_types q context types typed ts env p fits = as_table types (rows_fit_types q context types typed ts env p fits)
