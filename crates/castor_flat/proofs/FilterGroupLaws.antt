-- What `filter-group` makes is equivalent.
use Rattle.std.proofs.Common.{◌≡◌, ◌∙◌, ℕ, ◌<◌, List, [], ◌∷◌, ◌++◌, length, map, true, not, ◌&&◌, sym, ap, Ok, slice_get, option_and_then, nat_le, nat_lt, arith}
use Rattle.std.specs.List.{list_all}
use Rattle.std.proofs.lemmas.Bool.{and_parts, ltb-true}
use Rattle.std.proofs.lemmas.List.{length-map}
use Rattle.castor_val.specs.declared.row.Row.{Row}
use Rattle.castor_val.specs.declared.table.Table.{Table}
use Rattle.castor_val.specs.declared.value.Ty.{Ty}
use Rattle.castor_val.specs.declared.value.Ty.TheVariants as ty
use Rattle.castor_val.specs.Values.{column}
use Rattle.castor_alg.specs.declared.context.Context.{Context}
use Rattle.castor_alg.specs.declared.expr.Expr.{Expr, Col}
use Rattle.castor_alg.specs.declared.rel.Agg.{Agg}
use Rattle.castor_alg.specs.declared.rel.Rel.{Rel, Filter, Group}
use Rattle.castor_alg.specs.Equivalence.{Equivalent}
use Rattle.castor_alg.specs.Expression.{expr_value}
use Rattle.castor_alg.specs.Groups.{grouped, key_of}
use Rattle.castor_alg.specs.Meaning.{meaning}
use Rattle.castor_alg.specs.Rows.{filtered}
use Rattle.castor_alg.specs.Scopes.{Scopes}
use Rattle.castor_alg.specs.Substitution.{subst_cols}
use Rattle.castor_alg.specs.Totality.{is_sum, is_total_expr}
use Rattle.castor_alg.specs.Typing.{Typed, group_types, is_of, type_under}
use Rattle.castor_laws.specs.Faultless.{HasValue}
use Rattle.castor_laws.proofs.ColumnNumberLaws.{column_left, type_left, types_of_columns, values_of_columns}
use Rattle.castor_laws.proofs.ColumnSubstitutionLaws.{columns_have_values}
use Rattle.castor_laws.proofs.ColumnTestLaws.{type_rests_on_columns, value_rests_on_columns}
use Rattle.castor_laws.proofs.ExprListLaws.{each_long}
use Rattle.castor_laws.proofs.GroupFilterLaws.{filter_under_groups}
use Rattle.castor_laws.proofs.OperandTypeLaws.{group_parts}
use Rattle.castor_laws.proofs.RelClauseLaws.{meaning-Filter, meaning-Group}
use Rattle.castor_laws.proofs.TotalExprLaws.{total_gives_value}
use Rattle.castor_laws.proofs.TypeClauseLaws.{types_under-Group}
use Rattle.castor_laws.proofs.TypedRelLaws.{equal_where, filter_parts, filter_typed}
use Rattle.castor_flat.specs.Columns.{has_columns_within}
use Rattle.castor_flat.specs.FilterGroup.{filter_group, is_over_keys}
use Rattle.castor_flat.proofs.ConjunctionLaws.{replaced_is_bool}
use Rattle.castor_flat.proofs.FormLaws.{by_form, filter_is, fits_parts, group_is, three_parts, total_parts, two_parts}

below : (n i : ℕ) → (nat_le 0 i && nat_lt i n) ≡ true → i < n
below n i within = ltb-true i n (and_parts (nat_le 0 i) (nat_lt i n) within).1

module _ (ks : List ℕ) (p : Expr) where
  -- the condition by the columns of the keys
  abbrev by_keys : Expr
  by_keys = subst_cols (map Col ks) p

  by_keys_value : (env : Scopes) (q row : Row) → expr_value by_keys row env q ≡ expr_value p (key_of ks row) env q
  by_keys_value env q row = columns_have_values (map Col ks) p row env q (key_of ks row) (values_of_columns row env q ks)

  by_keys_has_value : is_total_expr p ≡ true → (env : Scopes) (q row : Row) → HasValue (expr_value by_keys row env q)
  by_keys_has_value total env q row = let value = total_gives_value p total (key_of ks row) env q in (value.0, by_keys_value env q row ∙ value.1)

  module _ (within : has_columns_within 0 (length ks) p ≡ true) where
    group_value : (env : Scopes) (q of values : Row) → expr_value p (key_of ks of ++ values) env q ≡ expr_value by_keys of env q
    group_value env q of values =
        let long = length-map ks (λ (k : ℕ). column of k) in
        value_rests_on_columns (λ i. nat_le 0 i && nat_lt i (length ks)) p within (key_of ks of ++ values) (key_of ks of) (λ i passes. column_left (key_of ks of) values i (let under = below (length ks) i passes in omega arith)) env q
        ∙ sym (by_keys_value env q of)

    keys_type : (keys values : List Ty) (context : Context) → length keys ≡ length ks → is_of ty.Bool (type_under p (keys ++ values) context) ≡ true → is_of ty.Bool (type_under p keys context) ≡ true
    keys_type keys values context long bool =
        ap (is_of ty.Bool) (sym (type_rests_on_columns (λ i. nat_le 0 i && nat_lt i (length ks)) p within (keys ++ values) keys (λ i passes. type_left keys values i (let under = below (length ks) i passes in omega arith)) context)) ∙ bool

groups_mean : (ks : List ℕ) (aggs : List Agg) (p : Expr) (r : Rel) → is_over_keys ks aggs p ≡ true → is_total_expr p ≡ true → (ts : List Table) (env : Scopes) (q : Row) → meaning (Filter p (Group ks aggs r)) ts env q ≡ meaning (Group ks aggs (Filter (by_keys ks p) r)) ts env q
groups_mean [] aggs p r over total ts env q = cc
groups_mean (k ∷ ks) aggs p r over total ts env q =
    let parts = and_parts (nat_lt 0 (length (k ∷ ks)) && list_all (λ a. not (is_sum a)) aggs) (has_columns_within 0 (length (k ∷ ks)) p) over in
    let lists = and_parts (nat_lt 0 (length (k ∷ ks))) (list_all (λ a. not (is_sum a)) aggs) parts.0 in
    let test = λ (row : Row). expr_value p row env q in
    let under = λ (row : Row). expr_value (by_keys (k ∷ ks) p) row env q in
    meaning-Filter ts env q p (Group (k ∷ ks) aggs r)
    ∙ ap (filtered test) (meaning-Group ts env q (k ∷ ks) aggs r)
    ∙ filter_under_groups k ks aggs (meaning r ts env q) test under lists.1 (by_keys_has_value (k ∷ ks) p total env q) (group_value (k ∷ ks) p parts.1 env q)
    ∙ ap (grouped (k ∷ ks) aggs) (sym (meaning-Filter ts env q (by_keys (k ∷ ks) p) r))
    ∙ sym (meaning-Group ts env q (k ∷ ks) aggs (Filter (by_keys (k ∷ ks) p) r))

goes_before : (context : Context) (ks : List ℕ) (aggs : List Agg) (p : Expr) (r : Rel) → is_over_keys ks aggs p ≡ true → is_total_expr p ≡ true → Typed (Filter p (Group ks aggs r)) context → Equivalent context (Filter p (Group ks aggs r)) (Group ks aggs (Filter (by_keys ks p) r))
goes_before context ks aggs p r over total typed =
    equal_where context (Filter p (Group ks aggs r)) (Group ks aggs (Filter (by_keys ks p) r)) typed
    (λ types is.
    let parts = filter_parts context p (Group ks aggs r) types is in
    let group = group_parts context ks aggs r types parts.0 in
    let within = (and_parts (nat_lt 0 (length ks) && list_all (λ a. not (is_sum a)) aggs) (has_columns_within 0 (length ks) p) over).1 in
    let long = each_long (map (λ k. slice_get group.columns k) ks) group.keys group.keys_typed ∙ length-map ks (λ (k : ℕ). slice_get group.columns k) in
    let bool = keys_type ks p within group.keys group.values context long (ap (λ (ts : List Ty). is_of ty.Bool (type_under p ts context)) group.both ∙ parts.1) in
    let filter = filter_typed context (by_keys ks p) r group.columns group.operand_typed (replaced_is_bool context (map Col ks) p group.columns group.keys (types_of_columns group.columns context ks ∙ group.keys_typed) bool) in
    types_under-Group context ks aggs (Filter (by_keys ks p) r)
    ∙ ap (option_and_then (λ columns. group_types ks aggs columns)) (filter ∙ sym group.operand_typed)
    ∙ sym (types_under-Group context ks aggs r)
    ∙ parts.0)
    (λ types is ts env q fits. groups_mean ks aggs p r over total ts env q)

pub filter_group_keeps : (context : Context) (q made : Rel) → filter_group q ≡ Ok made → Typed q context → Equivalent context q made
filter_group_keeps context q made is =
    let (outer, form, more) = two_parts _ _ made is in
    let (inner, below, rest) = three_parts _ _ made more in
    let (over, last) = fits_parts _ _ made rest in
    let (total, same) = total_parts _ _ made last in
    by_form context q (Filter outer.0 (Group inner.0 inner.1 inner.2)) (Group inner.0 inner.1 (Filter (by_keys inner.0 outer.0) inner.2)) made
    (filter_is q outer form ∙ ap (Filter outer.0) (group_is outer.1 inner below)) same (goes_before context inner.0 inner.1 outer.0 inner.2 over total)
