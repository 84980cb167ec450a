-- What `join-commute` makes is equivalent.
use Rattle.std.proofs.Common.{◌≡◌, ◌∙◌, ℕ, ◌+◌, ◌-◌, List, [], ◌∷◌, ◌++◌, length, map, true, sym, ap, subst, Ok, Some, slice_get, nat_le, nat_lt, ◌&&◌, length-append, arith}
use Rattle.std.specs.List.{range_with_len}
use Rattle.std.specs.Prelude.{All}
use Rattle.std.proofs.lemmas.List.{map-append}
use Rattle.castor_val.specs.declared.row.Row.{Row}
use Rattle.castor_val.specs.declared.table.Table.{Table}
use Rattle.castor_val.specs.declared.value.Ty.{Ty}
use Rattle.castor_val.specs.declared.value.Ty.TheVariants as ty
use Rattle.castor_val.specs.Limits.{most_columns}
use Rattle.castor_val.specs.Values.{row_fits}
use Rattle.castor_alg.specs.declared.context.Context.{Context}
use Rattle.castor_alg.specs.declared.expr.Expr.{Expr}
use Rattle.castor_alg.specs.declared.rel.Rel.{Rel, Join}
use Rattle.castor_alg.specs.ColumnCount.{column_count}
use Rattle.castor_alg.specs.Equivalence.{Equivalent}
use Rattle.castor_alg.specs.Expression.{expr_value, expr_values}
use Rattle.castor_alg.specs.Fits.{Fits}
use Rattle.castor_alg.specs.Groups.{key_of}
use Rattle.castor_alg.specs.Meaning.{meaning}
use Rattle.castor_alg.specs.Permutation.{SameUpToOrder}
use Rattle.castor_alg.specs.Rows.{crossed, filtered, selected}
use Rattle.castor_alg.specs.Scopes.{Scopes}
use Rattle.castor_alg.specs.Substitution.{subst_cols}
use Rattle.castor_alg.specs.Typing.{Typed, are_columns, each, is_of, type_under, types_of_each, types_under}
use Rattle.castor_laws.proofs.ColumnNumberLaws.{left_columns, left_types, right_columns, right_types, types_of_columns, values_of_columns}
use Rattle.castor_laws.proofs.ColumnSubstitutionLaws.{columns_have_values}
use Rattle.castor_laws.proofs.CountedColumnLaws.{columns_counted}
use Rattle.castor_laws.proofs.CrossLaws.{cross_exchanges}
use Rattle.castor_laws.proofs.EachLaws.{All_from_each, each_weaker}
use Rattle.castor_laws.proofs.ExprListLaws.{each-append, expr_values-append}
use Rattle.castor_laws.proofs.MoveLaws.{after_projection}
use Rattle.castor_laws.proofs.OperandTypeLaws.{join_parts, join_typed, select_typed}
use Rattle.castor_laws.proofs.OperatorLaws.{filtered_keeps}
use Rattle.castor_laws.proofs.RelClauseLaws.{meaning-Join, meaning-Select}
use Rattle.castor_laws.proofs.RowFitLaws.{rows_fit_types}
use Rattle.castor_laws.proofs.TypedRelLaws.{equivalent_where}
use Rattle.castor_flat.specs.Columns.{changed_places, columns_between}
use Rattle.castor_flat.specs.JoinCommute.{commuted, join_commute}
use Rattle.castor_flat.proofs.ConjunctionLaws.{replaced_is_bool}
use Rattle.castor_flat.proofs.FormLaws.{by_form, is_made, join_is, three_parts}
use Rattle.castor_flat.proofs.JoinSideLaws.{row_length}

-- the values of two rows side by side, back in their places
abbrev put_back : ℕ → ℕ → Row → Row
put_back left right row = key_of (range_with_len right (right + left - right)) row ++ key_of (range_with_len 0 (right - 0)) row

places_values : (left right : ℕ) (row : Row) (env : Scopes) (q : Row) → expr_values (changed_places left right) row env q ≡ Ok (put_back left right row)
places_values left right row env q =
    expr_values-append (columns_between right (right + left)) (columns_between 0 right) row env q (key_of (range_with_len right (right + left - right)) row) (key_of (range_with_len 0 (right - 0)) row)
    (values_of_columns row env q (range_with_len right (right + left - right))) (values_of_columns row env q (range_with_len 0 (right - 0)))

puts_back : (left right : ℕ) (b a : Row) → length b ≡ right → length a ≡ left → put_back left right (b ++ a) ≡ a ++ b
puts_back left right b a wide long =
    let of_left : right + left - right ≡ length a = omega arith in
    let of_right : right - 0 ≡ length b = omega arith in
    let front = (λ i. key_of (range_with_len (sym wide i) (of_left i)) (b ++ a)) ∙ right_columns b a in
    let back = ap (λ (n : ℕ). key_of (range_with_len 0 n) (b ++ a)) of_right ∙ left_columns b a in
    λ i. front i ++ back i

places_types : (left right : ℕ) (a b : List Ty) (context : Context) → length b ≡ right → length a ≡ left → types_of_each (changed_places left right) (b ++ a) context ≡ Some (a ++ b)
places_types left right a b context wide long =
    let of_left : right + left - right ≡ length a = omega arith in
    let of_right : right - 0 ≡ length b = omega arith in
    let at = λ (n : ℕ). slice_get (b ++ a) n in
    let front = types_of_columns (b ++ a) context (range_with_len right (right + left - right)) ∙ (λ i. each (map at (range_with_len (sym wide i) (of_left i)))) ∙ right_types b a in
    let back = types_of_columns (b ++ a) context (range_with_len 0 (right - 0)) ∙ ap (λ (n : ℕ). each (map at (range_with_len 0 n))) of_right ∙ left_types b a in
    ap each (map-append (λ (e : Expr). type_under e (b ++ a) context) (columns_between right (right + left)) (columns_between 0 right))
    ∙ each-append (map (λ (e : Expr). type_under e (b ++ a) context) (columns_between right (right + left))) (map (λ (e : Expr). type_under e (b ++ a) context) (columns_between 0 right)) a b front back

module _ (context : Context) (c : Expr) (r s : Rel) where
  abbrev first : ℕ
  first = column_count context.tables r

  abbrev second : ℕ
  second = column_count context.tables s

  abbrev other : Rel
  other = commuted (changed_places first second) c r s

  -- the projection of the join whose operands have changed places
  other_means : (ts : List Table) (env : Scopes) (q : Row) → meaning other ts env q ≡ filtered (λ row. expr_value c row env q) (selected (λ row. Ok (put_back first second row)) (crossed (meaning s ts env q ∷ meaning r ts env q ∷ [])))
  other_means ts env q =
      let pairs = crossed (meaning s ts env q ∷ meaning r ts env q ∷ []) in
      let condition = subst_cols (changed_places first second) c in
      meaning-Select ts env q (changed_places first second) (Join condition s r)
      ∙ (λ i. selected (λ row. places_values first second row env q i) (meaning-Join ts env q condition s r i))
      ∙ (λ i. selected (λ row. Ok (put_back first second row)) (filtered (λ row. columns_have_values (changed_places first second) c row env q (put_back first second row) (places_values first second row env q) i) pairs))
      ∙ sym ((after_projection (put_back first second) pairs).filter (λ row. expr_value c row env q))

  module _ (left right : List Ty) (left_typed : types_under r context ≡ Some left) (right_typed : types_under s context ≡ Some right) where
    same_rows : (ts : List Table) (env : Scopes) (q : Row) → Fits context ts env q → SameUpToOrder (meaning (Join c r s) ts env q) (meaning other ts env q)
    same_rows ts env q fits =
        let test = λ (row : Row). expr_value c row env q in
        let rows = meaning r ts env q in
        let others = meaning s ts env q in
        let back = put_back first second in
        let kept = each_weaker (λ row. row_fits row right ≡ true) (λ b. All (λ a. back (b ++ a) ≡ a ++ b) rows.rows)
        (λ b fit. All_from_each (λ a. back (b ++ a) ≡ a ++ b) rows.rows
        (each_weaker (λ row. row_fits row left ≡ true) (λ a. back (b ++ a) ≡ a ++ b)
        (λ a also. puts_back first second b a (row_length context s right right_typed b fit) (row_length context r left left_typed a also))
        (rows_fit_types r context left left_typed ts env q fits)))
        (rows_fit_types s context right right_typed ts env q fits) in
        subst (λ out. SameUpToOrder out (meaning other ts env q)) (sym (meaning-Join ts env q c r s))
        (subst (λ out. SameUpToOrder (filtered test (crossed (rows ∷ others ∷ []))) out) (sym (other_means ts env q))
        (filtered_keeps test (crossed (rows ∷ others ∷ [])) (selected (λ row. Ok (back row)) (crossed (others ∷ rows ∷ [])))
        (cross_exchanges rows others back (All_from_each (λ b. All (λ a. back (b ++ a) ≡ a ++ b) rows.rows) others.rows kept))))

    same_types : are_columns (left ++ right) ≡ true → is_of ty.Bool (type_under c (left ++ right) context) ≡ true → types_under other context ≡ Some (left ++ right)
    same_types within bool =
        let places = places_types first second left right context (sym (columns_counted s context right right_typed)) (sym (columns_counted r context left left_typed)) in
        let condition = replaced_is_bool context (changed_places first second) c (right ++ left) (left ++ right) places bool in
        let joined = join_typed context (subst_cols (changed_places first second) c) s r right left right_typed left_typed (as_many left right within) condition in
        select_typed context (changed_places first second) (Join (subst_cols (changed_places first second) c) s r) (right ++ left) (left ++ right) joined places within
      where
        as_many : (a b : List Ty) → are_columns (a ++ b) ≡ true → are_columns (b ++ a) ≡ true
        as_many a b within =
            let same : length (b ++ a) ≡ length (a ++ b) = omega (arith, length-append a b, length-append b a) in
            ap (λ (n : ℕ). nat_lt 0 n && nat_le n most_columns) same ∙ within

commutes : (context : Context) (c : Expr) (r s : Rel) → Typed (Join c r s) context → Equivalent context (Join c r s) (other context c r s)
commutes context c r s typed =
    equivalent_where context (Join c r s) (other context c r s) typed
    (λ types is.
    let join = join_parts context c r s types is in
    same_types context c r s join.left join.right join.left_typed join.right_typed (ap are_columns join.both ∙ join.within) (ap (λ (ts : List Ty). is_of ty.Bool (type_under c ts context)) join.both ∙ join.condition)
    ∙ ap Some join.both)
    (λ types is ts env q fits.
    let join = join_parts context c r s types is in
    same_rows context c r s join.left join.right join.left_typed join.right_typed ts env q fits)

pub join_commute_keeps : (context : Context) (q made : Rel) → join_commute context.tables q ≡ Ok made → Typed q context → Equivalent context q made
join_commute_keeps context q made is =
    let (whole, form, last) = three_parts _ _ made is in
    by_form context q (Join whole.0 whole.1 whole.2) (other context whole.0 whole.1 whole.2) made (join_is q whole form) (is_made _ made last) (commutes context whole.0 whole.1 whole.2)
