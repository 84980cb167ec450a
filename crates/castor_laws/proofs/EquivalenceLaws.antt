-- Equivalence under a context, and that every operator keeps it.
use Rattle.std.proofs.Common.{◌≡◌, ◌∙◌, ℕ, List, [], ◌∷◌, map, Bool, true, false, refl, sym, ap, subst, Option, Some, None, option_and_then, if◌then◌else◌}
use Rattle.std.specs.Prelude.{is_some}
use Rattle.std.specs.List.{AllZip}
use Rattle.castor_val.specs.declared.row.Row.{Row}
use Rattle.castor_val.specs.declared.table.Table.{Table}
use Rattle.castor_val.specs.declared.value.Ty.{Ty}
use Rattle.castor_val.specs.declared.value.Ty.TheVariants.{Bool as Truth}
use Rattle.castor_val.specs.Values.{row_fits}
use Rattle.castor_alg.specs.declared.context.Context.{Context}
use Rattle.castor_alg.specs.declared.expr.Expr.{Expr}
use Rattle.castor_alg.specs.declared.out.Out.{Out}
use Rattle.castor_alg.specs.declared.rel.Agg.{Agg}
use Rattle.castor_alg.specs.declared.rel.Bound.{Bound}
use Rattle.castor_alg.specs.declared.rel.Key.{Key}
use Rattle.castor_alg.specs.declared.rel.Rel.{Rel}
use Rattle.castor_alg.specs.declared.rel.Rel as R
use Rattle.castor_alg.specs.Expression.{expr_value, expr_values}
use Rattle.castor_alg.specs.Fits.{Fits}
use Rattle.castor_alg.specs.Indexes.{lower, upper}
use Rattle.castor_alg.specs.Meaning.{meaning}
use Rattle.castor_alg.specs.Scopes.{Scopes, bind}
use Rattle.castor_alg.specs.Typing.{Typed, allowed, are_hash_keys, are_sorting_keys, column_types, common_types, cross_types, each, extended, group_types, is_context, is_of, is_range, type_under, types_of_each, types_under, within_limits}
use Rattle.castor_alg.specs.Equivalence.{Equivalent}
use Rattle.castor_laws.specs.Congruence.{Congruence, EquivalenceLaws, EquivalentUnder}
use Rattle.castor_alg.specs.Permutation.{SameUpToOrder}
use Rattle.castor_laws.proofs.EachLaws.{Each, each_weaker}
use Rattle.castor_laws.proofs.OperatorLaws.{same_refl, same_sym, same_trans, crossed_keeps, concatenated_keeps, selected_keeps, filtered_keeps, grouped_keeps, sorted_by_keeps, deduped_keeps, depjoined_keeps, hashed_keeps, ranged_keeps}
use Rattle.castor_laws.proofs.RelClauseLaws.{meaning-Cross, meaning-Concat, meaning-Select, meaning-Filter, meaning-Join, meaning-DepJoin, meaning-Group, meaning-Order, meaning-Dedup, meaning-List, meaning-Hash, meaning-Ord}
use Rattle.castor_laws.proofs.RowFitLaws.{fits_in_body, rows_fit_types}
use Rattle.castor_laws.proofs.TypeClauseLaws.{types_under-Cross, types_under-Concat, types_under-Select, types_under-Filter, types_under-Join, types_under-DepJoin, types_under-Group, types_under-Order, types_under-Dedup, types_under-List, types_under-Hash, types_under-Ord}

-- what is well typed stands under a context within limits, and has column types
within : (b : Bool) (o : Option (List Ty)) → is_some (if b then o else None) ≡ true → b ≡ true
within true o is = refl
within false o is = cc

found : (b : Bool) (o : Option (List Ty)) → is_some (if b then o else None) ≡ true → is_some o ≡ true
found true o is = is
found false o is = cc

shown : (b : Bool) (o p : Option (List Ty)) → b ≡ true → (if b then o else None) ≡ (if b then p else None) → o ≡ p
shown true o p is same = same
shown false o p is same = cc

hidden : (b : Bool) (o : Option (List Ty)) (types : List Ty) → b ≡ true → o ≡ Some types → (if b then o else None) ≡ Some types
hidden true o types is same = same
hidden false o types is same = cc

source_of : (f : List Ty → Option (List Ty)) (o : Option (List Ty)) → is_some (option_and_then f o) ≡ true → (types : List Ty) × (o ≡ Some types)
source_of f None is = cc
source_of f (Some types) is = (types, refl)

same_by : (a b c d : Out) → a ≡ c → b ≡ d → SameUpToOrder c d → SameUpToOrder a b
same_by a b c d left right same = subst (λ x. SameUpToOrder x b) (sym left) (subst (λ y. SameUpToOrder c y) (sym right) same)

module _ (context : Context) where
  pub equivalent_refl : (q : Rel) → Typed q context → Equivalent context q q
  equivalent_refl q typed = record { typed = typed; same_types = refl; same_meaning = λ ts env p fits. same_refl (meaning q ts env p) }

  pub equivalent_sym : (q r : Rel) → Equivalent context q r → Equivalent context r q
  equivalent_sym q r same = record {
    typed = ap is_some (sym same.same_types) ∙ same.typed;
    same_types = sym same.same_types;
    same_meaning = λ ts env p fits. same_sym (meaning q ts env p) (meaning r ts env p) (same.same_meaning ts env p fits);
  }

  pub equivalent_trans : (q r s : Rel) → Equivalent context q r → Equivalent context r s → Equivalent context q s
  equivalent_trans q r s same also = record {
    typed = same.typed;
    same_types = same.same_types ∙ also.same_types;
    same_meaning = λ ts env p fits. same_trans (meaning q ts env p) (meaning r ts env p) (meaning s ts env p) (same.same_meaning ts env p fits) (also.same_meaning ts env p fits);
  }

  pub equivalence_laws : EquivalenceLaws context
  equivalence_laws = record { itself = equivalent_refl; back = equivalent_sym; chain = equivalent_trans }

  -- equal meanings are the same up to order
  pub equivalent_by : (q r : Rel) → Typed q context → column_types q context ≡ column_types r context → ((ts : List Table) (env : Scopes) (p : Row) → Fits context ts env p → meaning q ts env p ≡ meaning r ts env p) → Equivalent context q r
  equivalent_by q r typed same_types same = record {
    typed = typed;
    same_types = same_types;
    same_meaning = λ ts env p fits. subst (λ out. SameUpToOrder (meaning q ts env p) out) (same ts env p fits) (same_refl (meaning q ts env p));
  }

  pub same_types_under : (q r : Rel) → Equivalent context q r → types_under q context ≡ types_under r context
  same_types_under q r same = shown (is_context context) (types_under q context) (types_under r context) (within (is_context context) (types_under q context) same.typed) same.same_types

  abbrev pub SameMeaning : Rel → Rel → Type 0
  SameMeaning q r = (ts : List Table) (env : Scopes) (p : Row) → Fits context ts env p → SameUpToOrder (meaning q ts env p) (meaning r ts env p)

  pub from_types : (q r : Rel) → Typed q context → types_under q context ≡ types_under r context → SameMeaning q r → Equivalent context q r
  from_types q r typed same_types same = record {
    typed = typed;
    same_types = ap (λ (o : Option (List Ty)). if is_context context then o else None) same_types;
    same_meaning = same;
  }

  -- and so are equal column types and equal meanings, where the first is well typed
  pub equivalent_where : (q r : Rel) → Typed q context → types_under q context ≡ types_under r context → ((ts : List Table) (env : Scopes) (p : Row) → Fits context ts env p → meaning q ts env p ≡ meaning r ts env p) → Equivalent context q r
  equivalent_where q r typed same_types same = equivalent_by q r typed (ap (λ (o : Option (List Ty)). if is_context context then o else None) same_types) same

  -- an operator over one operand, whose column types are those of the operand's
  over_one : (f : Option (List Ty) → Option (List Ty)) (x y q r : Rel) → types_under x context ≡ f (types_under q context) → types_under y context ≡ f (types_under r context) → Equivalent context q r → Typed x context → SameMeaning x y → Equivalent context x y
  over_one f x y q r left right same typed meant = from_types x y typed (left ∙ ap f (same_types_under q r same) ∙ sym right) meant

  all_types : (qs rs : List Rel) → AllZip (Equivalent context) qs rs → map (λ (r : Rel). types_under r context) qs ≡ map (λ (r : Rel). types_under r context) rs
  all_types [] [] same = refl
  all_types [] (r ∷ rs) same = absurd same
  all_types (q ∷ qs) [] same = absurd same
  all_types (q ∷ qs) (r ∷ rs) (first, rest) = λ i. same_types_under q r first i ∷ all_types qs rs rest i

  all_meanings : (qs rs : List Rel) → AllZip (Equivalent context) qs rs → (ts : List Table) (env : Scopes) (p : Row) → Fits context ts env p → AllZip SameUpToOrder (map (λ (r : Rel). meaning r ts env p) qs) (map (λ (r : Rel). meaning r ts env p) rs)
  all_meanings [] [] same ts env p fits = tt
  all_meanings [] (r ∷ rs) same ts env p fits = absurd same
  all_meanings (q ∷ qs) [] same ts env p fits = absurd same
  all_meanings (q ∷ qs) (r ∷ rs) (first, rest) ts env p fits = (first.same_meaning ts env p fits, all_meanings qs rs rest ts env p fits)

  pub cross_equivalent : (qs rs : List Rel) → AllZip (Equivalent context) qs rs → Typed (R.Cross qs) context → Equivalent context (R.Cross qs) (R.Cross rs)
  cross_equivalent qs rs same typed =
      from_types (R.Cross qs) (R.Cross rs) typed (types_under-Cross context qs ∙ ap cross_types (all_types qs rs same) ∙ sym (types_under-Cross context rs))
      (λ ts env p fits. same_by _ _ _ _ (meaning-Cross ts env p qs) (meaning-Cross ts env p rs) (crossed_keeps _ _ (all_meanings qs rs same ts env p fits)))

  pub concat_equivalent : (qs rs : List Rel) → AllZip (Equivalent context) qs rs → Typed (R.Concat qs) context → Equivalent context (R.Concat qs) (R.Concat rs)
  concat_equivalent qs rs same typed =
      from_types (R.Concat qs) (R.Concat rs) typed (types_under-Concat context qs ∙ ap (λ os. option_and_then common_types (each os)) (all_types qs rs same) ∙ sym (types_under-Concat context rs))
      (λ ts env p fits. same_by _ _ _ _ (meaning-Concat ts env p qs) (meaning-Concat ts env p rs) (concatenated_keeps _ _ (all_meanings qs rs same ts env p fits)))

  pub select_equivalent : (es : List Expr) (q r : Rel) → Equivalent context q r → Typed (R.Select es q) context → Equivalent context (R.Select es q) (R.Select es r)
  select_equivalent es q r same typed =
      over_one (option_and_then (λ columns. within_limits (types_of_each es columns context))) _ _ q r (types_under-Select context es q) (types_under-Select context es r) same typed
      (λ ts env p fits. same_by _ _ _ _ (meaning-Select ts env p es q) (meaning-Select ts env p es r) (selected_keeps (λ row. expr_values es row env p) _ _ (same.same_meaning ts env p fits)))

  pub filter_equivalent : (e : Expr) (q r : Rel) → Equivalent context q r → Typed (R.Filter e q) context → Equivalent context (R.Filter e q) (R.Filter e r)
  filter_equivalent e q r same typed =
      over_one (option_and_then (λ columns. allowed (is_of Truth (type_under e columns context)) columns)) _ _ q r (types_under-Filter context e q) (types_under-Filter context e r) same typed
      (λ ts env p fits. same_by _ _ _ _ (meaning-Filter ts env p e q) (meaning-Filter ts env p e r) (filtered_keeps (λ row. expr_value e row env p) _ _ (same.same_meaning ts env p fits)))

  pub join_equivalent : (e : Expr) (q r s t : Rel) → Equivalent context q r → Equivalent context s t → Typed (R.Join e q s) context → Equivalent context (R.Join e q s) (R.Join e r t)
  join_equivalent e q r s t same also typed =
      from_types (R.Join e q s) (R.Join e r t) typed
      (types_under-Join context e q s
      ∙ (λ i. option_and_then (λ columns. allowed (is_of Truth (type_under e columns context)) columns) (cross_types (same_types_under q r same i ∷ same_types_under s t also i ∷ [])))
      ∙ sym (types_under-Join context e r t))
      (λ ts env p fits. same_by _ _ _ _ (meaning-Join ts env p e q s) (meaning-Join ts env p e r t)
      (filtered_keeps (λ row. expr_value e row env p) _ _
      (crossed_keeps (meaning q ts env p ∷ meaning s ts env p ∷ []) (meaning r ts env p ∷ meaning t ts env p ∷ []) (same.same_meaning ts env p fits, (also.same_meaning ts env p fits, tt)))))

  pub group_equivalent : (ks : List ℕ) (aggs : List Agg) (q r : Rel) → Equivalent context q r → Typed (R.Group ks aggs q) context → Equivalent context (R.Group ks aggs q) (R.Group ks aggs r)
  group_equivalent ks aggs q r same typed =
      over_one (option_and_then (λ columns. group_types ks aggs columns)) _ _ q r (types_under-Group context ks aggs q) (types_under-Group context ks aggs r) same typed
      (λ ts env p fits. same_by _ _ _ _ (meaning-Group ts env p ks aggs q) (meaning-Group ts env p ks aggs r) (grouped_keeps ks aggs _ _ (same.same_meaning ts env p fits)))

  pub order_equivalent : (ks : List Key) (q r : Rel) → Equivalent context q r → Typed (R.Order ks q) context → Equivalent context (R.Order ks q) (R.Order ks r)
  order_equivalent ks q r same typed =
      over_one (option_and_then (λ columns. allowed (are_sorting_keys ks columns) columns)) _ _ q r (types_under-Order context ks q) (types_under-Order context ks r) same typed
      (λ ts env p fits. same_by _ _ _ _ (meaning-Order ts env p ks q) (meaning-Order ts env p ks r) (sorted_by_keeps ks _ _ (same.same_meaning ts env p fits)))

  pub dedup_equivalent : (q r : Rel) → Equivalent context q r → Typed (R.Dedup q) context → Equivalent context (R.Dedup q) (R.Dedup r)
  dedup_equivalent q r same typed =
      over_one (λ o. o) _ _ q r (types_under-Dedup context q) (types_under-Dedup context r) same typed
      (λ ts env p fits. same_by _ _ _ _ (meaning-Dedup ts env p q) (meaning-Dedup ts env p r) (deduped_keeps _ _ (same.same_meaning ts env p fits)))

  -- the bodies of a binder
  module _ (k : ℕ) (q r s t : Rel) (same : Equivalent context q r) (under : EquivalentUnder context k q s t) where
    abbrev Bodies : Scopes → Row → List Table → List Row → Type 0
    Bodies env p ts rows = Each (λ row. SameUpToOrder (meaning s ts (bind env k row) p) (meaning t ts (bind env k row) p)) rows

    columns_are : (columns : List Ty) → types_under q context ≡ Some columns → column_types q context ≡ Some columns
    columns_are columns is = hidden (is_context context) (types_under q context) columns (within (is_context context) (types_under q context) same.typed) is

    bodies_same : (columns : List Ty) → types_under q context ≡ Some columns → (ts : List Table) (env : Scopes) (p : Row) → Fits context ts env p → Bodies env p ts (meaning q ts env p).rows
    bodies_same columns is ts env p fits =
        each_weaker (λ row. row_fits row columns ≡ true) _
        (λ row fit. (under columns (columns_are columns is)).same_meaning ts (bind env k row) p (fits_in_body context k columns ts env p row fits fit))
        (rows_fit_types q context columns is ts env p fits)

    -- a binder whose column types are those of its body, where g allows them
    over_binder : (g : List Ty → Option (List Ty) → Option (List Ty)) (x y : Rel)
        → types_under x context ≡ option_and_then (λ columns. g columns (types_under s (extended context k columns))) (types_under q context)
        → types_under y context ≡ option_and_then (λ columns. g columns (types_under t (extended context k columns))) (types_under r context)
        → Typed x context
        → ((ts : List Table) (env : Scopes) (p : Row) → Fits context ts env p → Bodies env p ts (meaning q ts env p).rows → SameUpToOrder (meaning x ts env p) (meaning y ts env p))
        → Equivalent context x y
    over_binder g x y left right typed meant =
        let source = source_of (λ columns. g columns (types_under s (extended context k columns))) (types_under q context) (ap is_some (sym left) ∙ found (is_context context) (types_under x context) typed) in
        let body = under source.0 (columns_are source.0 source.1) in
        let extended_is = within (is_context (extended context k source.0)) (types_under s (extended context k source.0)) body.typed in
        let body_types = shown (is_context (extended context k source.0)) (types_under s (extended context k source.0)) (types_under t (extended context k source.0)) extended_is body.same_types in
        from_types x y typed
        (left
        ∙ ap (option_and_then (λ columns. g columns (types_under s (extended context k columns)))) source.1
        ∙ ap (g source.0) body_types
        ∙ sym (ap (option_and_then (λ columns. g columns (types_under t (extended context k columns)))) (sym (same_types_under q r same) ∙ source.1))
        ∙ sym right)
        (λ ts env p fits. meant ts env p fits (bodies_same source.0 source.1 ts env p fits))

    pub depjoin_equivalent : Typed (R.DepJoin k q s) context → Equivalent context (R.DepJoin k q s) (R.DepJoin k r t)
    depjoin_equivalent typed =
        over_binder (λ columns o. o) (R.DepJoin k q s) (R.DepJoin k r t) (types_under-DepJoin context k q s) (types_under-DepJoin context k r t) typed
        (λ ts env p fits bodies. same_by _ _ _ _ (meaning-DepJoin ts env p k q s) (meaning-DepJoin ts env p k r t)
        (depjoined_keeps (λ row. meaning s ts (bind env k row) p) (λ row. meaning t ts (bind env k row) p) (meaning q ts env p) (meaning r ts env p) (same.same_meaning ts env p fits) bodies))

    pub list_equivalent : Typed (R.List k q s) context → Equivalent context (R.List k q s) (R.List k r t)
    list_equivalent typed =
        over_binder (λ columns o. o) (R.List k q s) (R.List k r t) (types_under-List context k q s) (types_under-List context k r t) typed
        (λ ts env p fits bodies. same_by _ _ _ _ (meaning-List ts env p k q s) (meaning-List ts env p k r t)
        (depjoined_keeps (λ row. meaning s ts (bind env k row) p) (λ row. meaning t ts (bind env k row) p) (meaning q ts env p) (meaning r ts env p) (same.same_meaning ts env p fits) bodies))

    pub hash_equivalent : (es : List Expr) → Typed (R.Hash k q s es) context → Equivalent context (R.Hash k q s es) (R.Hash k r t es)
    hash_equivalent es typed =
        over_binder (λ columns o. if are_hash_keys columns (types_of_each es [] context) then o else None) (R.Hash k q s es) (R.Hash k r t es) (types_under-Hash context k q s es) (types_under-Hash context k r t es) typed
        (λ ts env p fits bodies. same_by _ _ _ _ (meaning-Hash ts env p k q s es) (meaning-Hash ts env p k r t es)
        (hashed_keeps (λ row. meaning s ts (bind env k row) p) (λ row. meaning t ts (bind env k row) p) (meaning q ts env p) (meaning r ts env p) (expr_values es [] env p) (same.same_meaning ts env p fits) bodies))

    pub ordered_equivalent : (lo hi : Bound) → Typed (R.Ord k q s lo hi) context → Equivalent context (R.Ord k q s lo hi) (R.Ord k r t lo hi)
    ordered_equivalent lo hi typed =
        over_binder (λ columns o. if is_range columns lo hi context then o else None) (R.Ord k q s lo hi) (R.Ord k r t lo hi) (types_under-Ord context k q s lo hi) (types_under-Ord context k r t lo hi) typed
        (λ ts env p fits bodies. same_by _ _ _ _ (meaning-Ord ts env p k q s lo hi) (meaning-Ord ts env p k r t lo hi)
        (ranged_keeps (λ row. meaning s ts (bind env k row) p) (λ row. meaning t ts (bind env k row) p) (meaning q ts env p) (meaning r ts env p) (lower lo env p) (upper hi env p) (same.same_meaning ts env p fits) bodies))

  pub congruence : Congruence context
  congruence = record {
    cross = cross_equivalent;
    concat = concat_equivalent;
    select = select_equivalent;
    filter = filter_equivalent;
    join = join_equivalent;
    depjoin = depjoin_equivalent;
    group = group_equivalent;
    order = order_equivalent;
    dedup = dedup_equivalent;
    list = list_equivalent;
    hash = λ k q r s t es same under typed. hash_equivalent k q r s t same under es typed;
    ordered = λ k q r s t lo hi same under typed. ordered_equivalent k q r s t same under lo hi typed;
  }
