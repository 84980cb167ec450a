-- Relations that mean exactly the same under a context, and that every operator keeps this.
use Rattle.std.proofs.Common.{◌≡◌, ◌∙◌, ℕ, List, [], ◌∷◌, filter, map, refl, sym, ap, Bool, true, false, ◌&&◌, Option, Some, None, option_and_then, if◌then◌else◌, Result, Ok, Err}
use Rattle.std.specs.List.{AllZip, list_any}
use Rattle.castor_val.specs.declared.fault.Faults.{Faults}
use Rattle.castor_val.specs.declared.row.Row.{Row}
use Rattle.castor_val.specs.declared.table.Table.{Table}
use Rattle.castor_val.specs.declared.value.Ty.{Ty}
use Rattle.castor_val.specs.declared.value.Ty.TheVariants.{Bool as Truth}
use Rattle.castor_val.specs.declared.value.Value.{Value}
use Rattle.castor_val.specs.Values.{column, row_fits, same_row, union}
use Rattle.castor_alg.specs.declared.context.Context.{Context}
use Rattle.castor_alg.specs.declared.expr.Expr.{Expr}
use Rattle.castor_alg.specs.declared.out.Out.{Out}
use Rattle.castor_alg.specs.declared.rel.Agg.{Agg}
use Rattle.castor_alg.specs.declared.rel.Bound.{Bound}
use Rattle.castor_alg.specs.declared.rel.Key.{Key}
use Rattle.castor_alg.specs.declared.rel.Rel.{Rel}
use Rattle.castor_alg.specs.declared.rel.Rel as R
use Rattle.castor_alg.specs.Distinct.{deduped, distinct}
use Rattle.castor_alg.specs.Expression.{expr_value, expr_values}
use Rattle.castor_alg.specs.Fits.{Fits}
use Rattle.castor_alg.specs.Groups.{grouped}
use Rattle.castor_alg.specs.Indexes.{found, hashed, lower, ranged, upper}
use Rattle.castor_alg.specs.Meaning.{meaning}
use Rattle.castor_alg.specs.Rows.{concatenated, crossed, depjoined, filtered, selected}
use Rattle.castor_alg.specs.Scopes.{Scopes, bind}
use Rattle.castor_alg.specs.Sorting.{row_lt, sorted, sorted_by}
use Rattle.castor_alg.specs.Typing.{allowed, are_hash_keys, are_sorting_keys, common_types, cross_types, each, extended, group_types, is_of, is_range, type_under, types_of_each, types_under, within_limits}
use Rattle.castor_laws.proofs.DistinctLaws.{each_at_key}
use Rattle.castor_laws.proofs.EachLaws.{Each, each_distinct, each_filter, each_weaker}
use Rattle.castor_laws.proofs.OperatorLaws.{sorted_permutes}
use Rattle.castor_laws.proofs.OutcomeLaws.{depjoined_same}
use Rattle.castor_laws.proofs.PermutationLaws.{each_permutes, permutes_sym}
use Rattle.castor_laws.proofs.RelClauseLaws.{meaning-Cross, meaning-Concat, meaning-Select, meaning-Filter, meaning-Join, meaning-DepJoin, meaning-Group, meaning-Order, meaning-Dedup, meaning-List, meaning-Hash, meaning-Ord}
use Rattle.castor_laws.proofs.RowFitLaws.{fits_in_body, rows_fit_types}
use Rattle.castor_laws.proofs.TypeClauseLaws.{types_under-Cross, types_under-Concat, types_under-Select, types_under-Filter, types_under-Join, types_under-DepJoin, types_under-Group, types_under-Order, types_under-Dedup, types_under-List, types_under-Hash, types_under-Ord}

-- r has the column types of q, and over all that fits the context its rows in their order and its faults
pub record Same (context : Context) (q r : Rel) : Type 0 where
  pub types : types_under r context ≡ types_under q context
  pub means : (ts : List Table) (env : Scopes) (p : Row) → Fits context ts env p → meaning r ts env p ≡ meaning q ts env p

-- look-ups over bodies that are equal under each row of the source
module _ (body other : Row → Out) where
  abbrev Equal : Row → Type 0
  Equal row = body row ≡ other row

  found_same : (r : Out) (key : Row) (b : Bool) → list_any (same_row key) r.rows ≡ b → Each Equal r.rows → found body r key b ≡ found other r key b
  found_same r key true is all = λ i. record { rows = (each_at_key Equal key all is i).rows; faults = union r.faults (each_at_key Equal key all is i).faults }
  found_same r key false is all = refl

  pub hashed_same : (r : Out) (key : Result Row Faults) → Each Equal r.rows → hashed body r key ≡ hashed other r key
  hashed_same r (Ok key) all = found_same r key (list_any (same_row key) r.rows) refl all
  hashed_same r (Err f) all = refl

  reached : (within : Value → Bool) (rows : List Row) → Each Equal rows → Each Equal (sorted row_lt (filter (λ row. within (column row 0)) (distinct same_row rows)))
  reached within rows all =
      let inside = λ (row : Row). within (column row 0) in
      each_permutes Equal (permutes_sym (sorted_permutes row_lt (filter inside (distinct same_row rows)))) (each_filter Equal inside (each_distinct Equal same_row all))

  pub ranged_same : (r : Out) (from to : Result (Value → Bool) Faults) → Each Equal r.rows → ranged body r from to ≡ ranged other r from to
  ranged_same r (Ok f) (Ok g) all = depjoined_same body other _ (reached (λ v. f v && g v) r.rows all)
  ranged_same r (Ok f) (Err g) all = refl
  ranged_same r (Err f) (Ok g) all = refl
  ranged_same r (Err f) (Err g) all = refl

module _ (context : Context) where
  pub same_refl : (q : Rel) → Same context q q
  same_refl q = record { types = refl; means = λ ts env p fits. refl }

  all_types : (qs rs : List Rel) → AllZip (Same context) qs rs → map (λ (r : Rel). types_under r context) rs ≡ map (λ (r : Rel). types_under r context) qs
  all_types [] [] same = refl
  all_types [] (r ∷ rs) same = absurd same
  all_types (q ∷ qs) [] same = absurd same
  all_types (q ∷ qs) (r ∷ rs) (first, rest) = λ i. first.types i ∷ all_types qs rs rest i

  all_meanings : (qs rs : List Rel) → AllZip (Same context) qs rs → (ts : List Table) (env : Scopes) (p : Row) → Fits context ts env p → map (λ (r : Rel). meaning r ts env p) rs ≡ map (λ (r : Rel). meaning r ts env p) qs
  all_meanings [] [] same ts env p fits = refl
  all_meanings [] (r ∷ rs) same ts env p fits = absurd same
  all_meanings (q ∷ qs) [] same ts env p fits = absurd same
  all_meanings (q ∷ qs) (r ∷ rs) (first, rest) ts env p fits = λ i. first.means ts env p fits i ∷ all_meanings qs rs rest ts env p fits i

  pub cross_same : (qs rs : List Rel) → AllZip (Same context) qs rs → Same context (R.Cross qs) (R.Cross rs)
  cross_same qs rs same = record {
    types = types_under-Cross context rs ∙ ap cross_types (all_types qs rs same) ∙ sym (types_under-Cross context qs);
    means = λ ts env p fits. meaning-Cross ts env p rs ∙ ap crossed (all_meanings qs rs same ts env p fits) ∙ sym (meaning-Cross ts env p qs);
  }

  pub concat_same : (qs rs : List Rel) → AllZip (Same context) qs rs → Same context (R.Concat qs) (R.Concat rs)
  concat_same qs rs same = record {
    types = types_under-Concat context rs ∙ ap (λ os. option_and_then common_types (each os)) (all_types qs rs same) ∙ sym (types_under-Concat context qs);
    means = λ ts env p fits. meaning-Concat ts env p rs ∙ ap concatenated (all_meanings qs rs same ts env p fits) ∙ sym (meaning-Concat ts env p qs);
  }

  pub select_same : (es : List Expr) (q r : Rel) → Same context q r → Same context (R.Select es q) (R.Select es r)
  select_same es q r same = record {
    types = types_under-Select context es r ∙ ap (option_and_then (λ columns. within_limits (types_of_each es columns context))) same.types ∙ sym (types_under-Select context es q);
    means = λ ts env p fits. meaning-Select ts env p es r ∙ ap (selected (λ row. expr_values es row env p)) (same.means ts env p fits) ∙ sym (meaning-Select ts env p es q);
  }

  pub filter_same : (e : Expr) (q r : Rel) → Same context q r → Same context (R.Filter e q) (R.Filter e r)
  filter_same e q r same = record {
    types = types_under-Filter context e r ∙ ap (option_and_then (λ columns. allowed (is_of Truth (type_under e columns context)) columns)) same.types ∙ sym (types_under-Filter context e q);
    means = λ ts env p fits. meaning-Filter ts env p e r ∙ ap (filtered (λ row. expr_value e row env p)) (same.means ts env p fits) ∙ sym (meaning-Filter ts env p e q);
  }

  pub join_same : (e : Expr) (q r s t : Rel) → Same context q r → Same context s t → Same context (R.Join e q s) (R.Join e r t)
  join_same e q r s t same also = record {
    types = types_under-Join context e r t ∙ (λ i. option_and_then (λ columns. allowed (is_of Truth (type_under e columns context)) columns) (cross_types (same.types i ∷ also.types i ∷ []))) ∙ sym (types_under-Join context e q s);
    means = λ ts env p fits. meaning-Join ts env p e r t ∙ (λ i. filtered (λ row. expr_value e row env p) (crossed (same.means ts env p fits i ∷ also.means ts env p fits i ∷ []))) ∙ sym (meaning-Join ts env p e q s);
  }

  pub group_same : (ks : List ℕ) (aggs : List Agg) (q r : Rel) → Same context q r → Same context (R.Group ks aggs q) (R.Group ks aggs r)
  group_same ks aggs q r same = record {
    types = types_under-Group context ks aggs r ∙ ap (option_and_then (λ columns. group_types ks aggs columns)) same.types ∙ sym (types_under-Group context ks aggs q);
    means = λ ts env p fits. meaning-Group ts env p ks aggs r ∙ ap (grouped ks aggs) (same.means ts env p fits) ∙ sym (meaning-Group ts env p ks aggs q);
  }

  pub order_same : (ks : List Key) (q r : Rel) → Same context q r → Same context (R.Order ks q) (R.Order ks r)
  order_same ks q r same = record {
    types = types_under-Order context ks r ∙ ap (option_and_then (λ columns. allowed (are_sorting_keys ks columns) columns)) same.types ∙ sym (types_under-Order context ks q);
    means = λ ts env p fits. meaning-Order ts env p ks r ∙ ap (sorted_by ks) (same.means ts env p fits) ∙ sym (meaning-Order ts env p ks q);
  }

  pub dedup_same : (q r : Rel) → Same context q r → Same context (R.Dedup q) (R.Dedup r)
  dedup_same q r same = record {
    types = types_under-Dedup context r ∙ same.types ∙ sym (types_under-Dedup context q);
    means = λ ts env p fits. meaning-Dedup ts env p r ∙ ap deduped (same.means ts env p fits) ∙ sym (meaning-Dedup ts env p q);
  }

  -- binders over a source of these column types
  module _ (k : ℕ) (q r s t : Rel) (columns : List Ty) (is : types_under q context ≡ Some columns) (source : Same context q r) (inside : Same (extended context k columns) s t) where
    bodies_same : (ts : List Table) (env : Scopes) (p : Row) → Fits context ts env p → Each (λ row. meaning t ts (bind env k row) p ≡ meaning s ts (bind env k row) p) (meaning q ts env p).rows
    bodies_same ts env p fits =
        each_weaker (λ row. row_fits row columns ≡ true) _
        (λ row fit. inside.means ts (bind env k row) p (fits_in_body context k columns ts env p row fits fit))
        (rows_fit_types q context columns is ts env p fits)

    binder_types : (g : List Ty → Option (List Ty) → Option (List Ty))
        → option_and_then (λ c. g c (types_under t (extended context k c))) (types_under r context) ≡ option_and_then (λ c. g c (types_under s (extended context k c))) (types_under q context)
    binder_types g =
        ap (option_and_then (λ c. g c (types_under t (extended context k c)))) (source.types ∙ is)
        ∙ ap (g columns) inside.types
        ∙ sym (ap (option_and_then (λ c. g c (types_under s (extended context k c)))) is)

    pub depjoin_same : Same context (R.DepJoin k q s) (R.DepJoin k r t)
    depjoin_same = record {
      types = types_under-DepJoin context k r t ∙ binder_types (λ c o. o) ∙ sym (types_under-DepJoin context k q s);
      means = λ ts env p fits.
          meaning-DepJoin ts env p k r t
          ∙ ap (depjoined (λ row. meaning t ts (bind env k row) p)) (source.means ts env p fits)
          ∙ depjoined_same _ _ (meaning q ts env p) (bodies_same ts env p fits)
          ∙ sym (meaning-DepJoin ts env p k q s);
    }

    pub list_same : Same context (R.List k q s) (R.List k r t)
    list_same = record {
      types = types_under-List context k r t ∙ binder_types (λ c o. o) ∙ sym (types_under-List context k q s);
      means = λ ts env p fits.
          meaning-List ts env p k r t
          ∙ ap (depjoined (λ row. meaning t ts (bind env k row) p)) (source.means ts env p fits)
          ∙ depjoined_same _ _ (meaning q ts env p) (bodies_same ts env p fits)
          ∙ sym (meaning-List ts env p k q s);
    }

    pub hash_same : (es : List Expr) → Same context (R.Hash k q s es) (R.Hash k r t es)
    hash_same es = record {
      types = types_under-Hash context k r t es ∙ binder_types (λ c o. if are_hash_keys c (types_of_each es [] context) then o else None) ∙ sym (types_under-Hash context k q s es);
      means = λ ts env p fits.
          meaning-Hash ts env p k r t es
          ∙ ap (λ out. hashed (λ row. meaning t ts (bind env k row) p) out (expr_values es [] env p)) (source.means ts env p fits)
          ∙ hashed_same _ _ (meaning q ts env p) (expr_values es [] env p) (bodies_same ts env p fits)
          ∙ sym (meaning-Hash ts env p k q s es);
    }

    pub ordered_same : (lo hi : Bound) → Same context (R.Ord k q s lo hi) (R.Ord k r t lo hi)
    ordered_same lo hi = record {
      types = types_under-Ord context k r t lo hi ∙ binder_types (λ c o. if is_range c lo hi context then o else None) ∙ sym (types_under-Ord context k q s lo hi);
      means = λ ts env p fits.
          meaning-Ord ts env p k r t lo hi
          ∙ ap (λ out. ranged (λ row. meaning t ts (bind env k row) p) out (lower lo env p) (upper hi env p)) (source.means ts env p fits)
          ∙ ranged_same _ _ (meaning q ts env p) (lower lo env p) (upper hi env p) (bodies_same ts env p fits)
          ∙ sym (meaning-Ord ts env p k q s lo hi);
    }
