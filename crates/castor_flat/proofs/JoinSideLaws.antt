-- A condition over a join that has columns of one operand alone.
use Rattle.std.proofs.Common.{◌≡◌, ◌∙◌, ℕ, zero, suc, ◌+◌, ◌-◌, ◌<◌, ◌≤◌, List, [], ◌∷◌, ◌++◌, length, map, replicate, true, false, ◌&&◌, refl, sym, ap, Ok, Some, slice_get, nat_le, nat_lt, arith}
use Rattle.std.specs.List.{range_with_len}
use Rattle.std.specs.Prelude.{All}
use Rattle.std.proofs.lemmas.Bool.{and_parts, leb-true, ltb-true}
use Rattle.std.proofs.lemmas.List.{length-replicate, map-append}
use Rattle.castor_val.specs.declared.row.Row.{Row}
use Rattle.castor_val.specs.declared.table.Table.{Table}
use Rattle.castor_val.specs.declared.value.Ty.{Ty}
use Rattle.castor_val.specs.declared.value.Ty.TheVariants as ty
use Rattle.castor_val.specs.declared.value.Value.TheVariants.{Bool as Truth}
use Rattle.castor_val.specs.Values.{column, row_fits}
use Rattle.castor_val.proofs.FitLaws.{length-row_fits}
use Rattle.castor_alg.specs.declared.context.Context.{Context}
use Rattle.castor_alg.specs.declared.expr.Expr.{Expr, Lit}
use Rattle.castor_alg.specs.declared.rel.Rel.{Rel, Filter, Join}
use Rattle.castor_alg.specs.ColumnCount.{column_count}
use Rattle.castor_alg.specs.Expression.{expr_value, expr_values, put_front}
use Rattle.castor_alg.specs.Fits.{Fits}
use Rattle.castor_alg.specs.Groups.{key_of}
use Rattle.castor_alg.specs.Meaning.{meaning}
use Rattle.castor_alg.specs.Rows.{crossed, filtered}
use Rattle.castor_alg.specs.Scopes.{Scopes}
use Rattle.castor_alg.specs.Substitution.{subst_cols}
use Rattle.castor_alg.specs.Totality.{is_total_expr}
use Rattle.castor_alg.specs.Typing.{each, is_of, type_under, types_of_each, types_under, with_both}
use Rattle.castor_laws.specs.Faultless.{HasValue}
use Rattle.castor_laws.proofs.ColumnNumberLaws.{all_columns, all_types, column_left, column_right, type_left, type_right, types_of_columns, values_of_columns}
use Rattle.castor_laws.proofs.ColumnSubstitutionLaws.{columns_have_values}
use Rattle.castor_laws.proofs.ColumnTestLaws.{type_rests_on_columns, value_rests_on_columns}
use Rattle.castor_laws.proofs.CountedColumnLaws.{columns_counted}
use Rattle.castor_laws.proofs.CrossLaws.{filter_on_left, filter_on_right}
use Rattle.castor_laws.proofs.EachLaws.{All_from_each, each_all, each_weaker}
use Rattle.castor_laws.proofs.ExchangeLaws.{filters_exchange}
use Rattle.castor_laws.proofs.ExprClauseLaws.{expr_value-Lit}
use Rattle.castor_laws.proofs.ExprListLaws.{each-append, expr_values-append}
use Rattle.castor_laws.proofs.RelClauseLaws.{meaning-Filter, meaning-Join}
use Rattle.castor_laws.proofs.RowFitLaws.{rows_fit_types}
use Rattle.castor_laws.proofs.TotalExprLaws.{total_gives_value}
use Rattle.castor_laws.proofs.TypeClauseLaws.{type_under-Lit}
use Rattle.castor_flat.specs.Columns.{columns_between, has_columns_within, over_second}
use Rattle.castor_flat.proofs.ConjunctionLaws.{filter_of_join_means, replaced_is_bool}

-- the rows of a typed relation have as many values as it has columns
pub row_length : (context : Context) (r : Rel) (types : List Ty) → types_under r context ≡ Some types → (row : Row) → row_fits row types ≡ true → length row ≡ column_count context.tables r
row_length context r types typed row fit = length-row_fits row types fit ∙ sym (columns_counted r context types typed)

above : (from to i : ℕ) → (nat_le from i && nat_lt i to) ≡ true → from ≤ i
above from to i within = leb-true from i (and_parts (nat_le from i) (nat_lt i to) within).0

below : (from to i : ℕ) → (nat_le from i && nat_lt i to) ≡ true → i < to
below from to i within = ltb-true i to (and_parts (nat_le from i) (nat_lt i to) within).1

module _ (context : Context) (p : Expr) (r : Rel) (left : List Ty) (typed : types_under r context ≡ Some left) where
  abbrev width : ℕ
  width = column_count context.tables r

  -- a condition over the columns of the left operand is one over that operand
  module _ (within : has_columns_within 0 width p ≡ true) where
    pub left_type : (right : List Ty) → is_of ty.Bool (type_under p (left ++ right) context) ≡ true → is_of ty.Bool (type_under p left context) ≡ true
    left_type right bool =
        let wide = columns_counted r context left typed in
        ap (is_of ty.Bool)
        (sym (type_rests_on_columns (λ i. nat_le 0 i && nat_lt i width) p within (left ++ right) left (λ i passes. type_left left right i (let under = below 0 width i passes in omega arith)) context))
        ∙ bool

    left_value : (env : Scopes) (q a b : Row) → row_fits a left ≡ true → expr_value p (a ++ b) env q ≡ expr_value p a env q
    left_value env q a b fit =
        let long = row_length context r left typed a fit in
        value_rests_on_columns (λ i. nat_le 0 i && nat_lt i width) p within (a ++ b) a (λ i passes. column_left a b i (let under = below 0 width i passes in omega arith)) env q

    -- a filter by it over a join is one over that operand, where the condition of the join is total, too
    pub goes_to_left : (c : Expr) (s : Rel) → is_total_expr p ≡ true → is_total_expr c ≡ true → (ts : List Table) (env : Scopes) (q : Row) → Fits context ts env q → meaning (Filter p (Join c r s)) ts env q ≡ meaning (Join c (Filter p r) s) ts env q
    goes_to_left c s total joining ts env q fits =
        let test = λ (row : Row). expr_value p row env q in
        let joins = λ (row : Row). expr_value c row env q in
        let rows = meaning r ts env q in
        let others = meaning s ts env q in
        let says = each_weaker (λ row. row_fits row left ≡ true) (λ a. All (λ b. test (a ++ b) ≡ test a) others.rows)
        (λ a fit. All_from_each (λ b. test (a ++ b) ≡ test a) others.rows (each_all (λ b. test (a ++ b) ≡ test a) (λ b. left_value env q a b fit) others.rows))
        (rows_fit_types r context left typed ts env q fits) in
        filter_of_join_means ts env q p c r s
        ∙ filters_exchange test joins (crossed (rows ∷ others ∷ [])) (λ row. total_gives_value p total row env q) (λ row. total_gives_value c joining row env q)
        ∙ ap (filtered joins) (filter_on_left rows others test test (λ row. total_gives_value p total row env q) (All_from_each (λ a. All (λ b. test (a ++ b) ≡ test a) others.rows) rows.rows says))
        ∙ (λ i. filtered joins (crossed (sym (meaning-Filter ts env q p r) i ∷ others ∷ [])))
        ∙ sym (meaning-Join ts env q c (Filter p r) s)

abbrev missing : ℕ → Row
missing n = replicate n (Truth false)

missing_values : (n : ℕ) (row : Row) (env : Scopes) (q : Row) → expr_values (replicate n (Lit (Truth false))) row env q ≡ Ok (missing n)
missing_values zero row env q = refl
missing_values (suc n) row env q = λ i. put_front (expr_value-Lit row env q (Truth false) i) (missing_values n row env q i)

missing_types : (n : ℕ) (columns : List Ty) (context : Context) → types_of_each (replicate n (Lit (Truth false))) columns context ≡ Some (replicate n ty.Bool)
missing_types zero columns context = refl
missing_types (suc n) columns context = λ i. with_both (λ t ts. t ∷ ts) (type_under-Lit columns context (Truth false) i) (missing_types n columns context i)

-- the columns of the second operand over its row
second_values : (left right : ℕ) (row : Row) (env : Scopes) (q : Row) → expr_values (over_second left right) row env q ≡ Ok (missing left ++ key_of (range_with_len 0 (right - 0)) row)
second_values left right row env q =
    expr_values-append (replicate left (Lit (Truth false))) (columns_between 0 right) row env q (missing left) (key_of (range_with_len 0 (right - 0)) row)
    (missing_values left row env q) (values_of_columns row env q (range_with_len 0 (right - 0)))

second_types : (left right : ℕ) (columns : List Ty) (context : Context) → right ≡ length columns → types_of_each (over_second left right) columns context ≡ Some (replicate left ty.Bool ++ columns)
second_types left right columns context long =
    let all : right - 0 ≡ length columns = omega arith in
    ap each (map-append (λ (e : Expr). type_under e columns context) (replicate left (Lit (Truth false))) (columns_between 0 right))
    ∙ each-append (map (λ (e : Expr). type_under e columns context) (replicate left (Lit (Truth false)))) (map (λ (e : Expr). type_under e columns context) (columns_between 0 right)) (replicate left ty.Bool) columns (missing_types left columns context)
    (types_of_columns columns context (range_with_len 0 (right - 0))
    ∙ ap (λ (n : ℕ). each (map (λ i. slice_get columns i) (range_with_len 0 n))) all
    ∙ all_types columns)

module _ (context : Context) (p : Expr) (r s : Rel) (left right : List Ty) (left_typed : types_under r context ≡ Some left) (right_typed : types_under s context ≡ Some right) where
  abbrev first : ℕ
  first = column_count context.tables r

  abbrev second : ℕ
  second = column_count context.tables s

  -- the condition by the columns of the right operand
  abbrev lowered : Expr
  lowered = subst_cols (over_second first second) p

  module _ (within : has_columns_within first (first + second) p ≡ true) where
    pub right_type : is_of ty.Bool (type_under p (left ++ right) context) ≡ true → is_of ty.Bool (type_under lowered right context) ≡ true
    right_type bool =
        let wide = columns_counted r context left left_typed in
        let shift = λ (i : ℕ) (passes : (nat_le first i && nat_lt i (first + second)) ≡ true). same_type_at wide i (above first (first + second) i passes) in
        replaced_is_bool context (over_second first second) p right (replicate first ty.Bool ++ right) (second_types first second right context (columns_counted s context right right_typed))
        (ap (is_of ty.Bool) (sym (type_rests_on_columns (λ i. nat_le first i && nat_lt i (first + second)) p within (left ++ right) (replicate first ty.Bool ++ right) shift context)) ∙ bool)
      where
        same_type_at : first ≡ length left → (i : ℕ) → first ≤ i → slice_get (left ++ right) i ≡ slice_get (replicate first ty.Bool ++ right) i
        same_type_at wide i over =
            let long = length-replicate first ty.Bool in
            let same : i - length left ≡ i - length (replicate first ty.Bool) = omega arith in
            type_right left right i (omega arith) ∙ ap (slice_get right) same ∙ sym (type_right (replicate first ty.Bool) right i (omega arith))

    -- what it says of a row of the right operand
    lowered_value : (env : Scopes) (q row : Row) → expr_value lowered row env q ≡ expr_value p (missing first ++ key_of (range_with_len 0 (second - 0)) row) env q
    lowered_value env q row = columns_have_values (over_second first second) p row env q (missing first ++ key_of (range_with_len 0 (second - 0)) row) (second_values first second row env q)

    right_value : (env : Scopes) (q a b : Row) → row_fits a left ≡ true → row_fits b right ≡ true → expr_value p (a ++ b) env q ≡ expr_value lowered b env q
    right_value env q a b fit also =
        let wide = row_length context r left left_typed a fit in
        let long = row_length context s right right_typed b also in
        let all : second - 0 ≡ length b = omega arith in
        value_rests_on_columns (λ i. nat_le first i && nat_lt i (first + second)) p within (a ++ b) (missing first ++ b) (λ i passes. same_value_at wide i (above first (first + second) i passes)) env q
        ∙ sym (lowered_value env q b ∙ ap (λ (row : Row). expr_value p (missing first ++ row) env q) (ap (λ (n : ℕ). key_of (range_with_len 0 n) b) all ∙ all_columns b))
      where
        same_value_at : length a ≡ first → (i : ℕ) → first ≤ i → column (a ++ b) i ≡ column (missing first ++ b) i
        same_value_at wide i over =
            let long = length-replicate first (Truth false) in
            let same : i - length a ≡ i - length (missing first) = omega arith in
            column_right a b i (omega arith) ∙ ap (column b) same ∙ sym (column_right (missing first) b i (omega arith))

    lowered_has_value : is_total_expr p ≡ true → (env : Scopes) (q row : Row) → HasValue (expr_value lowered row env q)
    lowered_has_value total env q row =
        let value = total_gives_value p total (missing first ++ key_of (range_with_len 0 (second - 0)) row) env q in
        (value.0, lowered_value env q row ∙ value.1)

    -- a filter over a join is one over its right operand, where the condition of the join is total, too
    pub goes_to_right : (c : Expr) → is_total_expr p ≡ true → is_total_expr c ≡ true → (ts : List Table) (env : Scopes) (q : Row) → Fits context ts env q → meaning (Filter p (Join c r s)) ts env q ≡ meaning (Join c r (Filter lowered s)) ts env q
    goes_to_right c total joining ts env q fits =
        let test = λ (row : Row). expr_value p row env q in
        let under = λ (row : Row). expr_value lowered row env q in
        let joins = λ (row : Row). expr_value c row env q in
        let rows = meaning r ts env q in
        let others = meaning s ts env q in
        let says = each_weaker (λ row. row_fits row left ≡ true) (λ a. All (λ b. test (a ++ b) ≡ under b) others.rows)
        (λ a fit. All_from_each (λ b. test (a ++ b) ≡ under b) others.rows
        (each_weaker (λ row. row_fits row right ≡ true) (λ b. test (a ++ b) ≡ under b) (λ b also. right_value env q a b fit also) (rows_fit_types s context right right_typed ts env q fits)))
        (rows_fit_types r context left left_typed ts env q fits) in
        filter_of_join_means ts env q p c r s
        ∙ filters_exchange test joins (crossed (rows ∷ others ∷ [])) (λ row. total_gives_value p total row env q) (λ row. total_gives_value c joining row env q)
        ∙ ap (filtered joins) (filter_on_right rows others test under (lowered_has_value total env q) (All_from_each (λ a. All (λ b. test (a ++ b) ≡ under b) others.rows) rows.rows says))
        ∙ (λ i. filtered joins (crossed (rows ∷ sym (meaning-Filter ts env q lowered s) i ∷ [])))
        ∙ sym (meaning-Join ts env q c r (Filter lowered s))
