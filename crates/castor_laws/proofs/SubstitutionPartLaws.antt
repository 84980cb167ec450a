-- What is total, free and without columns where columns or a scope are replaced.
use Rattle.std.proofs.Common.{◌≡◌, ◌∙◌, ℕ, zero, suc, List, [], ◌∷◌, map, cond, refl, sym, ap, subst, Bool, true, false, not, ◌&&◌, ◌||◌, ◌==◌}
use Rattle.std.specs.List.{list_all, list_any}
use Rattle.std.proofs.lemmas.Bool.{and_parts, eqb-true, or_from, or_parts, or_right}
use Rattle.castor_val.specs.declared.value.Value.TheVariants.{Bool as Truth}
use Rattle.castor_alg.specs.declared.expr.Expr.{Expr}
use Rattle.castor_alg.specs.declared.expr.Expr as E
use Rattle.castor_alg.specs.declared.expr.Expr.TheVariants.{rolls-Col, rolls-Scope}
use Rattle.castor_alg.specs.declared.rel.Bound.{Bound}
use Rattle.castor_alg.specs.declared.rel.Bound.TheVariants.{Any, Incl, Excl}
use Rattle.castor_alg.specs.declared.rel.Rel.{Rel}
use Rattle.castor_alg.specs.declared.rel.Rel.TheVariants.{rolls-Table, rolls-Scalar, rolls-Cross, rolls-Concat, rolls-Select, rolls-Filter, rolls-Join, rolls-DepJoin, rolls-Group, rolls-Order, rolls-Dedup, rolls-List, rolls-Hash, rolls-Ord}
use Rattle.castor_alg.specs.FreeScopes.{bound_reads, free_step, is_free, passes, reads, reads_step}
use Rattle.castor_alg.specs.Substitution.{cols_to_scope, cols_to_scope_step, replacing, subst_cols, subst_cols_step, subst_scope, subst_scope_bound, subst_scope_expr, subst_scope_expr_step, subst_scope_step}
use Rattle.castor_alg.specs.Totality.{is_total, is_total_bound, is_total_expr, is_total_group, total_expr_step, total_step}
use Rattle.castor_alg.proofs.ExprInduction.{fold-Col, fold-Scope, fold-Lit}
use Rattle.castor_alg.proofs.RelInduction.{With, relations, rel_induction, fold-Table, fold-Scalar, fold-Cross, fold-Concat, fold-Select, fold-Filter, fold-Join, fold-DepJoin, fold-Group, fold-Order, fold-Dedup, fold-List, fold-Hash, fold-Ord}
use Rattle.castor_laws.specs.ColumnFree.{column_free_step, is_column_free}
use Rattle.castor_laws.specs.SubstitutionParts.{ColumnsAreGone, ColumnsAreGoneToScope, ColumnsOfScopeStayTotal, ColumnsReadKnown, ColumnsReadScope, ColumnsStayTotal, ScopeFreesKnown, ScopeStaysTotal}
use Rattle.castor_laws.proofs.LeafChangeLaws.{change_loses_columns, change_reads_no_more, change_stays_total, columns_change, columns_change_to_scope, scope_changes}

-- what is so of all expressions and of `false` is so of that which replaces a column
replacing_all : (test : Expr → Bool) → test (E.Lit (Truth false)) ≡ true → (by : List Expr) → list_all test by ≡ true → (i : ℕ) → test (replacing by i) ≡ true
replacing_all test base [] all i = base
replacing_all test base (e ∷ es) all zero = (and_parts (test e) (list_all test es) all).0
replacing_all test base (e ∷ es) all (suc i) = replacing_all test base es (and_parts (test e) (list_all test es) all).1 i

replacing_none : (test : Expr → Bool) → test (E.Lit (Truth false)) ≡ false → (by : List Expr) → list_any test by ≡ false → (i : ℕ) → test (replacing by i) ≡ false
replacing_none test base [] none i = base
replacing_none test base (e ∷ es) none zero = (or_parts (test e) (list_any test es) none).0
replacing_none test base (e ∷ es) none (suc i) = replacing_none test base es (or_parts (test e) (list_any test es) none).1 i

replacing_total : (by : List Expr) → list_all is_total_expr by ≡ true → (i : ℕ) → is_total_expr (replacing by i) ≡ true
replacing_total by total i = replacing_all is_total_expr (fold-Lit Bool total_expr_step (Truth false)) by total i

replacing_unread : (j : ℕ) (by : List Expr) → list_any (reads j) by ≡ false → (i : ℕ) → reads j (replacing by i) ≡ false
replacing_unread j by fresh i = replacing_none (reads j) (fold-Lit Bool (reads_step j) (Truth false)) by fresh i

clash : {P : Type 0} (b : Bool) → b ≡ false → b ≡ true → P
clash b isnt is = cc

-- what is not so without one of two is so by one of them
by_either : (f r s : Bool) → (f ≡ false → r ≡ false → s ≡ false) → s ≡ true → (f || r) ≡ true
by_either true r s holds is = refl
by_either false true s holds is = refl
by_either false false s holds is = clash s (holds refl refl) is

by_other : (c f r s : Bool) → ((c ≡ false → f ≡ false) → r ≡ false → s ≡ false) → s ≡ true → ((not c && f) || r) ≡ true
by_other c f true s holds is = or_right (not c && f) true refl
by_other true f false s holds is = clash s (holds (λ other. clash true other refl) refl) is
by_other false true false s holds is = refl
by_other false false false s holds is = clash s (holds (λ other. refl) refl) is

module _ (by : List Expr) where
  pub columns_stay_total : (e : Expr) → ColumnsStayTotal by e
  columns_stay_total e total =
      change_stays_total (subst_cols by) (columns_change by)
      (λ i. ap is_total_expr (fold-Col Expr (subst_cols_step by) i) ∙ replacing_total by total i)
      (λ j i. ap is_total_expr (fold-Scope Expr (subst_cols_step by) j i ∙ rolls-Scope j i) ∙ fold-Scope Bool total_expr_step j i)
      e

  pub columns_read_known : (e : Expr) → ColumnsReadKnown by e
  columns_read_known e j =
      by_either (reads j e) (list_any (reads j) by) (reads j (subst_cols by e))
      (λ unread fresh.
      change_reads_no_more (subst_cols by) (columns_change by) j false
      (λ i. ap (reads j) (fold-Col Expr (subst_cols_step by) i) ∙ replacing_unread j by fresh i)
      (λ m i before. ap (reads j) (fold-Scope Expr (subst_cols_step by) m i ∙ rolls-Scope m i) ∙ before refl)
      e (λ stays. unread))

  pub columns_are_gone : (e : Expr) → ColumnsAreGone by e
  columns_are_gone e free =
      change_loses_columns (subst_cols by) (columns_change by)
      (λ i. ap is_column_free (fold-Col Expr (subst_cols_step by) i) ∙ replacing_all is_column_free (fold-Lit Bool column_free_step (Truth false)) by free i)
      (λ j i. ap is_column_free (fold-Scope Expr (subst_cols_step by) j i ∙ rolls-Scope j i) ∙ fold-Scope Bool column_free_step j i)
      e

module _ (k : ℕ) where
  pub columns_of_scope_stay_total : (e : Expr) → ColumnsOfScopeStayTotal k e
  columns_of_scope_stay_total =
      change_stays_total (cols_to_scope k) (columns_change_to_scope k)
      (λ i. ap is_total_expr (fold-Col Expr (cols_to_scope_step k) i) ∙ fold-Scope Bool total_expr_step k i)
      (λ j i. ap is_total_expr (fold-Scope Expr (cols_to_scope_step k) j i ∙ rolls-Scope j i) ∙ fold-Scope Bool total_expr_step j i)

  pub columns_read_scope : (e : Expr) → ColumnsReadScope k e
  columns_read_scope e j =
      by_either (reads j e) (k == j) (reads j (cols_to_scope k e))
      (λ unread other.
      change_reads_no_more (cols_to_scope k) (columns_change_to_scope k) j false
      (λ i. ap (reads j) (fold-Col Expr (cols_to_scope_step k) i) ∙ fold-Scope Bool (reads_step j) k i ∙ other)
      (λ m i before. ap (reads j) (fold-Scope Expr (cols_to_scope_step k) m i ∙ rolls-Scope m i) ∙ before refl)
      e (λ stays. unread))

  pub columns_are_gone_to_scope : (e : Expr) → ColumnsAreGoneToScope k e
  columns_are_gone_to_scope =
      change_loses_columns (cols_to_scope k) (columns_change_to_scope k)
      (λ i. ap is_column_free (fold-Col Expr (cols_to_scope_step k) i) ∙ fold-Scope Bool column_free_step k i)
      (λ j i. ap is_column_free (fold-Scope Expr (cols_to_scope_step k) j i ∙ rolls-Scope j i) ∙ fold-Scope Bool column_free_step j i)

module _ (k : ℕ) (by : List Expr) where
  module _ (total : list_all is_total_expr by ≡ true) where
    total_at : (j i : ℕ) (b : Bool) → is_total_expr (cond b (replacing by i) (E.Scope j i)) ≡ true
    total_at j i true = replacing_total by total i
    total_at j i false = fold-Scope Bool total_expr_step j i

    expr_stays_total : (e : Expr) → is_total_expr (subst_scope_expr k by e) ≡ is_total_expr e
    expr_stays_total =
        change_stays_total (subst_scope_expr k by) (scope_changes k by)
        (λ i. ap is_total_expr (fold-Col Expr (subst_scope_expr_step k by) i ∙ rolls-Col i) ∙ fold-Col Bool total_expr_step i)
        (λ j i. ap is_total_expr (fold-Scope Expr (subst_scope_expr_step k by) j i) ∙ total_at j i (k == j))

    exprs_stay_total : (es : List Expr) → list_all is_total_expr (map (subst_scope_expr k by) es) ≡ list_all is_total_expr es
    exprs_stay_total [] = refl
    exprs_stay_total (e ∷ es) = λ i. expr_stays_total e i && exprs_stay_total es i

    bound_stays_total : (b : Bound) → is_total_bound (subst_scope_bound k by b) ≡ is_total_bound b
    bound_stays_total Any = refl
    bound_stays_total (Incl e) = expr_stays_total e
    bound_stays_total (Excl e) = expr_stays_total e

    abbrev StaysTotal : Rel → Type 0
    StaysTotal q = is_total (subst_scope k by q) ≡ is_total q

    all_stay_total : (rs : List (With StaysTotal)) → list_all (λ r. r) (map is_total (map (subst_scope k by) (relations rs))) ≡ list_all (λ r. r) (map is_total (relations rs))
    all_stay_total [] = refl
    all_stay_total (r ∷ rs) = λ i. r.1 i && all_stay_total rs i

    stays_total : (q : Rel) → StaysTotal q
    stays_total = rel_induction StaysTotal record {
      table = λ n. ap is_total (fold-Table Rel (subst_scope_step k by) n ∙ rolls-Table n);
      scalar = λ e.
          ap is_total (fold-Scalar Rel (subst_scope_step k by) e ∙ rolls-Scalar (subst_scope_expr k by e)) ∙ fold-Scalar Bool total_step (subst_scope_expr k by e)
          ∙ expr_stays_total e ∙ sym (fold-Scalar Bool total_step e);
      cross = λ rs.
          ap is_total (fold-Cross Rel (subst_scope_step k by) (relations rs) ∙ rolls-Cross (map (subst_scope k by) (relations rs))) ∙ fold-Cross Bool total_step (map (subst_scope k by) (relations rs))
          ∙ all_stay_total rs ∙ sym (fold-Cross Bool total_step (relations rs));
      concat = λ rs.
          ap is_total (fold-Concat Rel (subst_scope_step k by) (relations rs) ∙ rolls-Concat (map (subst_scope k by) (relations rs))) ∙ fold-Concat Bool total_step (map (subst_scope k by) (relations rs))
          ∙ all_stay_total rs ∙ sym (fold-Concat Bool total_step (relations rs));
      select = λ es r x.
          ap is_total (fold-Select Rel (subst_scope_step k by) es r ∙ rolls-Select (map (subst_scope_expr k by) es) (subst_scope k by r)) ∙ fold-Select Bool total_step (map (subst_scope_expr k by) es) (subst_scope k by r)
          ∙ (λ i. exprs_stay_total es i && x i) ∙ sym (fold-Select Bool total_step es r);
      filter = λ e r x.
          ap is_total (fold-Filter Rel (subst_scope_step k by) e r ∙ rolls-Filter (subst_scope_expr k by e) (subst_scope k by r)) ∙ fold-Filter Bool total_step (subst_scope_expr k by e) (subst_scope k by r)
          ∙ (λ i. expr_stays_total e i && x i) ∙ sym (fold-Filter Bool total_step e r);
      join = λ e r s x y.
          ap is_total (fold-Join Rel (subst_scope_step k by) e r s ∙ rolls-Join (subst_scope_expr k by e) (subst_scope k by r) (subst_scope k by s)) ∙ fold-Join Bool total_step (subst_scope_expr k by e) (subst_scope k by r) (subst_scope k by s)
          ∙ (λ i. expr_stays_total e i && (x i && y i)) ∙ sym (fold-Join Bool total_step e r s);
      depjoin = λ j r s x y.
          ap is_total (fold-DepJoin Rel (subst_scope_step k by) j r s ∙ rolls-DepJoin j (subst_scope k by r) (subst_scope k by s)) ∙ fold-DepJoin Bool total_step j (subst_scope k by r) (subst_scope k by s)
          ∙ (λ i. x i && y i) ∙ sym (fold-DepJoin Bool total_step j r s);
      group = λ ks aggs r x.
          ap is_total (fold-Group Rel (subst_scope_step k by) ks aggs r ∙ rolls-Group ks aggs (subst_scope k by r)) ∙ fold-Group Bool total_step ks aggs (subst_scope k by r)
          ∙ (λ i. is_total_group ks aggs && x i) ∙ sym (fold-Group Bool total_step ks aggs r);
      order = λ ks r x.
          ap is_total (fold-Order Rel (subst_scope_step k by) ks r ∙ rolls-Order ks (subst_scope k by r)) ∙ fold-Order Bool total_step ks (subst_scope k by r)
          ∙ x ∙ sym (fold-Order Bool total_step ks r);
      dedup = λ r x.
          ap is_total (fold-Dedup Rel (subst_scope_step k by) r ∙ rolls-Dedup (subst_scope k by r)) ∙ fold-Dedup Bool total_step (subst_scope k by r)
          ∙ x ∙ sym (fold-Dedup Bool total_step r);
      list = λ j r s x y.
          ap is_total (fold-List Rel (subst_scope_step k by) j r s ∙ rolls-List j (subst_scope k by r) (subst_scope k by s)) ∙ fold-List Bool total_step j (subst_scope k by r) (subst_scope k by s)
          ∙ (λ i. x i && y i) ∙ sym (fold-List Bool total_step j r s);
      hash = λ j r s es x y.
          ap is_total (fold-Hash Rel (subst_scope_step k by) j r s es ∙ rolls-Hash j (subst_scope k by r) (subst_scope k by s) (map (subst_scope_expr k by) es)) ∙ fold-Hash Bool total_step j (subst_scope k by r) (subst_scope k by s) (map (subst_scope_expr k by) es)
          ∙ (λ i. exprs_stay_total es i && (x i && y i)) ∙ sym (fold-Hash Bool total_step j r s es);
      ordered = λ j r s lo hi x y.
          ap is_total (fold-Ord Rel (subst_scope_step k by) j r s lo hi ∙ rolls-Ord j (subst_scope k by r) (subst_scope k by s) (subst_scope_bound k by lo) (subst_scope_bound k by hi)) ∙ fold-Ord Bool total_step j (subst_scope k by r) (subst_scope k by s) (subst_scope_bound k by lo) (subst_scope_bound k by hi)
          ∙ (λ i. (bound_stays_total lo i && bound_stays_total hi i) && (x i && y i)) ∙ sym (fold-Ord Bool total_step j r s lo hi);
    }

  pub scope_stays_total : (q : Rel) → ScopeStaysTotal k by q
  scope_stays_total q total = stays_total total q

  module _ (j : ℕ) (fresh : list_any (reads j) by ≡ false) where
    -- of another scope than the replaced one
    abbrev Unless : Bool → Type 0
    Unless b = (k == j) ≡ false → b ≡ false

    other_scope : (m i : ℕ) → (k == m) ≡ false → Unless (reads j (E.Scope m i)) → (b : Bool) → (k == j) ≡ b → (c : Bool) → (m == j) ≡ c → reads j (E.Scope m i) ≡ false
    other_scope m i other unread false isnt c is = unread isnt
    other_scope m i other unread true same false is = fold-Scope Bool (reads_step j) m i ∙ is
    other_scope m i other unread true same true is = clash (k == m) other (subst (λ (n : ℕ). (k == n) ≡ true) (sym (eqb-true m j is)) same)

    unread_at : (m i : ℕ) → Unless (reads j (E.Scope m i)) → (b : Bool) → (k == m) ≡ b → reads j (cond b (replacing by i) (E.Scope m i)) ≡ false
    unread_at m i unread true same = replacing_unread j by fresh i
    unread_at m i unread false other = other_scope m i other unread (k == j) refl (m == j) refl

    expr_reads_no_more : (e : Expr) → Unless (reads j e) → reads j (subst_scope_expr k by e) ≡ false
    expr_reads_no_more =
        change_reads_no_more (subst_scope_expr k by) (scope_changes k by) j (k == j)
        (λ i. ap (reads j) (fold-Col Expr (subst_scope_expr_step k by) i ∙ rolls-Col i) ∙ fold-Col Bool (reads_step j) i)
        (λ m i unread. ap (reads j) (fold-Scope Expr (subst_scope_expr_step k by) m i) ∙ unread_at m i unread (k == m) refl)

    exprs_read_no_more : (es : List Expr) → Unless (list_any (reads j) es) → list_any (reads j) (map (subst_scope_expr k by) es) ≡ false
    exprs_read_no_more [] unread = refl
    exprs_read_no_more (e ∷ es) unread =
        or_from (reads j (subst_scope_expr k by e)) (list_any (reads j) (map (subst_scope_expr k by) es))
        (expr_reads_no_more e (λ other. (or_parts (reads j e) (list_any (reads j) es) (unread other)).0))
        (exprs_read_no_more es (λ other. (or_parts (reads j e) (list_any (reads j) es) (unread other)).1))

    bound_reads_no_more : (b : Bound) → Unless (bound_reads j b) → bound_reads j (subst_scope_bound k by b) ≡ false
    bound_reads_no_more Any unread = refl
    bound_reads_no_more (Incl e) unread = expr_reads_no_more e unread
    bound_reads_no_more (Excl e) unread = expr_reads_no_more e unread

    abbrev FreesNoMore : Rel → Type 0
    FreesNoMore q = Unless (is_free j q) → is_free j (subst_scope k by q) ≡ false

    all_free_no_more : (rs : List (With FreesNoMore)) → Unless (list_any (λ r. r) (map (is_free j) (relations rs))) → list_any (λ r. r) (map (is_free j) (map (subst_scope k by) (relations rs))) ≡ false
    all_free_no_more [] unfree = refl
    all_free_no_more (r ∷ rs) unfree =
        or_from (is_free j (subst_scope k by r.0)) (list_any (λ r. r) (map (is_free j) (map (subst_scope k by) (relations rs))))
        (r.1 (λ other. (or_parts (is_free j r.0) (list_any (λ r. r) (map (is_free j) (relations rs))) (unfree other)).0))
        (all_free_no_more rs (λ other. (or_parts (is_free j r.0) (list_any (λ r. r) (map (is_free j) (relations rs))) (unfree other)).1))

    body_frees_no_more : (b s t : Bool) → (Unless s → t ≡ false) → Unless (not b && s) → (not b && t) ≡ false
    body_frees_no_more true s t holds unfree = refl
    body_frees_no_more false s t holds unfree = holds unfree

    -- of two parts, the second under a binder
    source_and_body : (m : ℕ) (r s : Rel) → FreesNoMore r → FreesNoMore s → Unless (is_free j r || passes j m (is_free j s)) → (is_free j (subst_scope k by r) || passes j m (is_free j (subst_scope k by s))) ≡ false
    source_and_body m r s x y unfree =
        or_from (is_free j (subst_scope k by r)) (passes j m (is_free j (subst_scope k by s)))
        (x (λ other. (or_parts (is_free j r) (passes j m (is_free j s)) (unfree other)).0))
        (body_frees_no_more (m == j) (is_free j s) (is_free j (subst_scope k by s)) y (λ other. (or_parts (is_free j r) (passes j m (is_free j s)) (unfree other)).1))

    frees_no_more : (q : Rel) → FreesNoMore q
    frees_no_more = rel_induction FreesNoMore record {
      table = λ n unfree. ap (is_free j) (fold-Table Rel (subst_scope_step k by) n ∙ rolls-Table n) ∙ fold-Table Bool (free_step j) n;
      scalar = λ e unfree.
          ap (is_free j) (fold-Scalar Rel (subst_scope_step k by) e ∙ rolls-Scalar (subst_scope_expr k by e)) ∙ fold-Scalar Bool (free_step j) (subst_scope_expr k by e)
          ∙ expr_reads_no_more e (λ other. sym (fold-Scalar Bool (free_step j) e) ∙ unfree other);
      cross = λ rs unfree.
          ap (is_free j) (fold-Cross Rel (subst_scope_step k by) (relations rs) ∙ rolls-Cross (map (subst_scope k by) (relations rs))) ∙ fold-Cross Bool (free_step j) (map (subst_scope k by) (relations rs))
          ∙ all_free_no_more rs (λ other. sym (fold-Cross Bool (free_step j) (relations rs)) ∙ unfree other);
      concat = λ rs unfree.
          ap (is_free j) (fold-Concat Rel (subst_scope_step k by) (relations rs) ∙ rolls-Concat (map (subst_scope k by) (relations rs))) ∙ fold-Concat Bool (free_step j) (map (subst_scope k by) (relations rs))
          ∙ all_free_no_more rs (λ other. sym (fold-Concat Bool (free_step j) (relations rs)) ∙ unfree other);
      select = λ es r x unfree.
          let parts = λ (other : (k == j) ≡ false). or_parts (list_any (reads j) es) (is_free j r) (sym (fold-Select Bool (free_step j) es r) ∙ unfree other) in
          ap (is_free j) (fold-Select Rel (subst_scope_step k by) es r ∙ rolls-Select (map (subst_scope_expr k by) es) (subst_scope k by r)) ∙ fold-Select Bool (free_step j) (map (subst_scope_expr k by) es) (subst_scope k by r)
          ∙ or_from (list_any (reads j) (map (subst_scope_expr k by) es)) (is_free j (subst_scope k by r)) (exprs_read_no_more es (λ other. (parts other).0)) (x (λ other. (parts other).1));
      filter = λ e r x unfree.
          let parts = λ (other : (k == j) ≡ false). or_parts (reads j e) (is_free j r) (sym (fold-Filter Bool (free_step j) e r) ∙ unfree other) in
          ap (is_free j) (fold-Filter Rel (subst_scope_step k by) e r ∙ rolls-Filter (subst_scope_expr k by e) (subst_scope k by r)) ∙ fold-Filter Bool (free_step j) (subst_scope_expr k by e) (subst_scope k by r)
          ∙ or_from (reads j (subst_scope_expr k by e)) (is_free j (subst_scope k by r)) (expr_reads_no_more e (λ other. (parts other).0)) (x (λ other. (parts other).1));
      join = λ e r s x y unfree.
          let parts = λ (other : (k == j) ≡ false). or_parts (reads j e) (is_free j r || is_free j s) (sym (fold-Join Bool (free_step j) e r s) ∙ unfree other) in
          let sides = λ (other : (k == j) ≡ false). or_parts (is_free j r) (is_free j s) (parts other).1 in
          ap (is_free j) (fold-Join Rel (subst_scope_step k by) e r s ∙ rolls-Join (subst_scope_expr k by e) (subst_scope k by r) (subst_scope k by s)) ∙ fold-Join Bool (free_step j) (subst_scope_expr k by e) (subst_scope k by r) (subst_scope k by s)
          ∙ or_from (reads j (subst_scope_expr k by e)) (is_free j (subst_scope k by r) || is_free j (subst_scope k by s)) (expr_reads_no_more e (λ other. (parts other).0))
          (or_from (is_free j (subst_scope k by r)) (is_free j (subst_scope k by s)) (x (λ other. (sides other).0)) (y (λ other. (sides other).1)));
      depjoin = λ m r s x y unfree.
          ap (is_free j) (fold-DepJoin Rel (subst_scope_step k by) m r s ∙ rolls-DepJoin m (subst_scope k by r) (subst_scope k by s)) ∙ fold-DepJoin Bool (free_step j) m (subst_scope k by r) (subst_scope k by s)
          ∙ source_and_body m r s x y (λ other. sym (fold-DepJoin Bool (free_step j) m r s) ∙ unfree other);
      group = λ ks aggs r x unfree.
          ap (is_free j) (fold-Group Rel (subst_scope_step k by) ks aggs r ∙ rolls-Group ks aggs (subst_scope k by r)) ∙ fold-Group Bool (free_step j) ks aggs (subst_scope k by r)
          ∙ x (λ other. sym (fold-Group Bool (free_step j) ks aggs r) ∙ unfree other);
      order = λ ks r x unfree.
          ap (is_free j) (fold-Order Rel (subst_scope_step k by) ks r ∙ rolls-Order ks (subst_scope k by r)) ∙ fold-Order Bool (free_step j) ks (subst_scope k by r)
          ∙ x (λ other. sym (fold-Order Bool (free_step j) ks r) ∙ unfree other);
      dedup = λ r x unfree.
          ap (is_free j) (fold-Dedup Rel (subst_scope_step k by) r ∙ rolls-Dedup (subst_scope k by r)) ∙ fold-Dedup Bool (free_step j) (subst_scope k by r)
          ∙ x (λ other. sym (fold-Dedup Bool (free_step j) r) ∙ unfree other);
      list = λ m r s x y unfree.
          ap (is_free j) (fold-List Rel (subst_scope_step k by) m r s ∙ rolls-List m (subst_scope k by r) (subst_scope k by s)) ∙ fold-List Bool (free_step j) m (subst_scope k by r) (subst_scope k by s)
          ∙ source_and_body m r s x y (λ other. sym (fold-List Bool (free_step j) m r s) ∙ unfree other);
      hash = λ m r s es x y unfree.
          let parts = λ (other : (k == j) ≡ false). or_parts (list_any (reads j) es) (is_free j r || passes j m (is_free j s)) (sym (fold-Hash Bool (free_step j) m r s es) ∙ unfree other) in
          ap (is_free j) (fold-Hash Rel (subst_scope_step k by) m r s es ∙ rolls-Hash m (subst_scope k by r) (subst_scope k by s) (map (subst_scope_expr k by) es)) ∙ fold-Hash Bool (free_step j) m (subst_scope k by r) (subst_scope k by s) (map (subst_scope_expr k by) es)
          ∙ or_from (list_any (reads j) (map (subst_scope_expr k by) es)) (is_free j (subst_scope k by r) || passes j m (is_free j (subst_scope k by s))) (exprs_read_no_more es (λ other. (parts other).0)) (source_and_body m r s x y (λ other. (parts other).1));
      ordered = λ m r s lo hi x y unfree.
          let parts = λ (other : (k == j) ≡ false). or_parts (bound_reads j lo || bound_reads j hi) (is_free j r || passes j m (is_free j s)) (sym (fold-Ord Bool (free_step j) m r s lo hi) ∙ unfree other) in
          let ends = λ (other : (k == j) ≡ false). or_parts (bound_reads j lo) (bound_reads j hi) (parts other).0 in
          ap (is_free j) (fold-Ord Rel (subst_scope_step k by) m r s lo hi ∙ rolls-Ord m (subst_scope k by r) (subst_scope k by s) (subst_scope_bound k by lo) (subst_scope_bound k by hi)) ∙ fold-Ord Bool (free_step j) m (subst_scope k by r) (subst_scope k by s) (subst_scope_bound k by lo) (subst_scope_bound k by hi)
          ∙ or_from (bound_reads j (subst_scope_bound k by lo) || bound_reads j (subst_scope_bound k by hi)) (is_free j (subst_scope k by r) || passes j m (is_free j (subst_scope k by s)))
          (or_from (bound_reads j (subst_scope_bound k by lo)) (bound_reads j (subst_scope_bound k by hi)) (bound_reads_no_more lo (λ other. (ends other).0)) (bound_reads_no_more hi (λ other. (ends other).1)))
          (source_and_body m r s x y (λ other. (parts other).1));
    }

  pub scope_frees_known : (q : Rel) → ScopeFreesKnown k by q
  scope_frees_known q j = by_other (k == j) (is_free j q) (list_any (reads j) by) (is_free j (subst_scope k by q)) (λ unfree fresh. frees_no_more j fresh q unfree)
