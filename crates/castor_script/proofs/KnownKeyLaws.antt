-- The rows of a relation are in order by its known keys.
use Rattle.std.proofs.Common.{◌≡◌, ◌∙◌, ℕ, List, [], ◌∷◌, ◌++◌, map, refl, sym, ap, subst, Option, Some, None}
use Rattle.std.specs.Prelude.{position}
use Rattle.std.specs.List.{flat_map}
use Rattle.castor_val.specs.declared.row.Row.{Row}
use Rattle.castor_val.specs.declared.table.Table.{Table}
use Rattle.castor_val.specs.Values.{same_row}
use Rattle.castor_alg.specs.declared.expr.Expr.{Expr}
use Rattle.castor_alg.specs.declared.out.Out.{Out}
use Rattle.castor_alg.specs.declared.rel.Key.{Key}
use Rattle.castor_alg.specs.declared.rel.Rel.{Rel}
use Rattle.castor_alg.specs.declared.rel.Rel as R
use Rattle.castor_alg.specs.Expression.{expr_value, expr_values}
use Rattle.castor_alg.specs.Meaning.{meaning}
use Rattle.castor_alg.specs.Rows.{combined, is_true, row_in}
use Rattle.castor_alg.specs.Scopes.{Scopes, bind}
use Rattle.castor_alg.proofs.RelInduction.{With, relations, rel_induction, fold-Table, fold-Scalar, fold-Cross, fold-Concat, fold-Select, fold-Filter, fold-Join, fold-DepJoin, fold-Group, fold-Order, fold-Dedup, fold-List, fold-Hash, fold-Ord}
use Rattle.castor_laws.proofs.RelClauseLaws.{meaning-Scalar, meaning-Cross, meaning-Select, meaning-Filter, meaning-Order, meaning-Dedup, meaning-List}
use Rattle.castor_laws.proofs.ScalarLaws.{one_row}
use Rattle.castor_script.specs.InOrder.{KnownKeysAreTrue}
use Rattle.castor_script.specs.KnownKeys.{Known, all_values, is_column, is_scope_column, known, known_step, moved, moved_into, nothing, sorted_as, with_value}
use Rattle.castor_script.proofs.MovedColumnLaws.{projection_moves, scalars_move}
use Rattle.castor_script.proofs.MovedKeyLaws.{ordered_made}
use Rattle.castor_script.proofs.SortedRowLaws.{Ordered, ordered_by_fewer, ordered_distinct, ordered_filter, ordered_without_keys, precedes, sorted_from_ordered, sorted_ordered}

-- the rows of a relation over tables, an environment and parameters
abbrev rows_of : Rel → List Table → Scopes → Row → List Row
rows_of q tables env params = (meaning q tables env params).rows

-- what is known of a relation is so
record Holds (q : Rel) : Type 0 where
  keys : (tables : List Table) (env : Scopes) (params : Row) → Ordered (known q).keys (rows_of q tables env params)
  value : (e : Expr) → (known q).value ≡ Some e → (tables : List Table) (env : Scopes) (params : Row) → rows_of q tables env params ≡ row_in (expr_values (e ∷ []) [] env params)
  values : (es : List Expr) → (known q).values ≡ Some es → (tables : List Table) (env : Scopes) (params : Row) → rows_of q tables env params ≡ row_in (expr_values es [] env params)

-- of a relation that is neither a scalar nor a cross
by_keys_alone : (q : Rel) (ks : List Key) → known q ≡ sorted_as ks → ((tables : List Table) (env : Scopes) (params : Row) → Ordered ks (rows_of q tables env params)) → Holds q
by_keys_alone q ks is ordered = record {
  keys = λ ts env p. subst (λ (k : Known). Ordered k.keys (rows_of q ts env p)) (sym is) (ordered ts env p);
  value = λ e found. let no = sym (ap (λ (k : Known). k.value) is) ∙ found in cc;
  values = λ es found. let no = sym (ap (λ (k : Known). k.values) is) ∙ found in cc;
}

without_keys : (q : Rel) → known q ≡ nothing → Holds q
without_keys q is = by_keys_alone q [] is (λ ts env p. ordered_without_keys (rows_of q ts env p))

-- rows that are those of an outcome
of_rows : (ks : List Key) (a b : Out) → a ≡ b → Ordered ks b.rows → Ordered ks a.rows
of_rows ks a b is o = subst (λ (r : Out). Ordered ks r.rows) (sym is) o

first_value : (e : Option Expr) (es : Option (List Expr)) (all : List Expr) → with_value e es ≡ Some all → (x : Expr) × (xs : List Expr) × (e ≡ Some x) × (es ≡ Some xs) × (x ∷ xs ≡ all)
first_value None es all is = cc
first_value (Some x) None all is = cc
first_value (Some x) (Some xs) all is = (x, xs, refl, refl, cc)

-- all combinations of the rows of scalars
combined_scalars : (rs : List (With Holds)) (es : List Expr) → all_values (map (λ (r : Known). r.value) (map known (relations rs))) ≡ Some es → (tables : List Table) (env : Scopes) (params : Row)
    → combined (map (λ (r : Out). r.rows) (map (λ (r : Rel). meaning r tables env params) (relations rs))) ≡ row_in (expr_values es [] env params)
combined_scalars [] es is ts env p = let none : [] ≡ es = cc in ap (λ xs. row_in (expr_values xs [] env p)) none
combined_scalars (r ∷ rs) es is ts env p =
    let parts = first_value (known r.0).value (all_values (map (λ (r : Known). r.value) (map known (relations rs)))) es is in
    let first = r.1.value parts.0 parts.2 ts env p in
    let rest = combined_scalars rs parts.1 parts.3 ts env p in
    (λ i. flat_map (λ a. map (λ b. a ++ b) (rest i)) (first i))
    ∙ one_row (expr_value parts.0 [] env p) (expr_values parts.1 [] env p)
    ∙ ap (λ xs. row_in (expr_values xs [] env p)) parts.4

-- the rows of a list whose body is known, or isn't
ordered_list : (k : ℕ) (r s : Rel) → Holds r → Holds s → (values : Option (List Expr)) → (known s).values ≡ values → (tables : List Table) (env : Scopes) (params : Row) → Ordered (moved_into values k (known r).keys) (rows_of (R.List k r s) tables env params)
ordered_list k r s x y None is ts env p = ordered_without_keys (rows_of (R.List k r s) ts env p)
ordered_list k r s x y (Some es) is ts env p =
    let made = λ (a : Row). y.values es is ts (bind env k a) p in
    subst (λ rows. Ordered (moved_into (Some es) k (known r).keys) rows)
    (sym (ap (λ (o : Out). o.rows) (meaning-List ts env p k r s) ∙ (λ i. flat_map (λ a. made a i) (rows_of r ts env p))))
    (ordered_made (λ c. position (is_scope_column k c) es) (known r).keys (λ a. expr_values es [] (bind env k a) p) (scalars_move es k env p) (x.keys ts env p))

holds : (q : Rel) → Holds q
holds = rel_induction Holds record {
  table = λ n. without_keys (R.Table n) (fold-Table Known known_step n);
  scalar = λ e. record {
    keys = λ ts env p. subst (λ (k : Known). Ordered k.keys (rows_of (R.Scalar e) ts env p)) (sym (fold-Scalar Known known_step e)) (ordered_without_keys (rows_of (R.Scalar e) ts env p));
    value = λ x found ts env p. let same : e ≡ x = let both = sym (ap (λ (k : Known). k.value) (fold-Scalar Known known_step e)) ∙ found in cc in ap (λ (o : Out). o.rows) (meaning-Scalar ts env p e) ∙ ap (λ y. row_in (expr_values (y ∷ []) [] env p)) same;
    values = λ es found. let no = sym (ap (λ (k : Known). k.values) (fold-Scalar Known known_step e)) ∙ found in cc;
  };
  cross = λ rs. record {
    keys = λ ts env p. subst (λ (k : Known). Ordered k.keys (rows_of (R.Cross (relations rs)) ts env p)) (sym (fold-Cross Known known_step (relations rs))) (ordered_without_keys (rows_of (R.Cross (relations rs)) ts env p));
    value = λ e found. let no = sym (ap (λ (k : Known). k.value) (fold-Cross Known known_step (relations rs))) ∙ found in cc;
    values = λ es found ts env p. ap (λ (o : Out). o.rows) (meaning-Cross ts env p (relations rs)) ∙ combined_scalars rs es (sym (ap (λ (k : Known). k.values) (fold-Cross Known known_step (relations rs))) ∙ found) ts env p;
  };
  concat = λ rs. without_keys (R.Concat (relations rs)) (fold-Concat Known known_step (relations rs));
  select = λ es r x. by_keys_alone (R.Select es r) (moved (λ c. position (is_column c) es) (known r).keys) (fold-Select Known known_step es r)
      (λ ts env p. of_rows (moved (λ c. position (is_column c) es) (known r).keys) _ _ (meaning-Select ts env p es r)
      (ordered_made (λ c. position (is_column c) es) (known r).keys (λ a. expr_values es a env p) (projection_moves es env p) (x.keys ts env p)));
  filter = λ e r x. by_keys_alone (R.Filter e r) (known r).keys (fold-Filter Known known_step e r)
      (λ ts env p. of_rows (known r).keys _ _ (meaning-Filter ts env p e r) (ordered_filter (known r).keys (λ a. is_true (expr_value e a env p)) (x.keys ts env p)));
  join = λ e r s x y. without_keys (R.Join e r s) (fold-Join Known known_step e r s);
  depjoin = λ k r s x y. without_keys (R.DepJoin k r s) (fold-DepJoin Known known_step k r s);
  group = λ ks aggs r x. without_keys (R.Group ks aggs r) (fold-Group Known known_step ks aggs r);
  order = λ ks r x. by_keys_alone (R.Order ks r) ks (fold-Order Known known_step ks r)
      (λ ts env p. of_rows ks _ _ (meaning-Order ts env p ks r) (sorted_ordered ks (rows_of r ts env p)));
  dedup = λ r x. by_keys_alone (R.Dedup r) (known r).keys (fold-Dedup Known known_step r)
      (λ ts env p. of_rows (known r).keys _ _ (meaning-Dedup ts env p r) (ordered_distinct (known r).keys same_row (x.keys ts env p)));
  list = λ k r s x y. by_keys_alone (R.List k r s) (moved_into (known s).values k (known r).keys) (fold-List Known known_step k r s)
      (ordered_list k r s x y (known s).values refl);
  hash = λ k r s es x y. without_keys (R.Hash k r s es) (fold-Hash Known known_step k r s es);
  ordered = λ k r s lo hi x y. without_keys (R.Ord k r s lo hi) (fold-Ord Known known_step k r s lo hi);
}

pub known_keys_are_true : (q : Rel) → KnownKeysAreTrue q
known_keys_are_true q tables env params front rest is =
    sorted_from_ordered front (meaning q tables env params)
    (ordered_by_fewer front rest (subst (λ ks. Ordered ks (rows_of q tables env params)) (sym is) ((holds q).keys tables env params)))
