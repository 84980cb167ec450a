-- The meaning of a relation in which a scope is replaced.
use Rattle.std.proofs.Common.{◌≡◌, ◌∙◌, ℕ, List, [], ◌∷◌, map, refl, sym, ap, subst, Bool, true, false, ◌||◌, ◌==◌, cond, Ok}
use Rattle.std.specs.List.{list_any}
use Rattle.std.specs.Ordering.{is_lt, is_le, is_gt, is_ge}
use Rattle.std.proofs.lemmas.Bool.{eqb-true}
use Rattle.castor_val.specs.declared.row.Row.{Row}
use Rattle.castor_val.specs.declared.table.Table.{Table}
use Rattle.castor_val.specs.Values.{column, value_cmp}
use Rattle.castor_alg.specs.declared.expr.Expr.{Expr}
use Rattle.castor_alg.specs.declared.expr.Expr as E
use Rattle.castor_alg.specs.declared.expr.Expr.TheVariants.{rolls-Col, rolls-Param, rolls-Lit, rolls-Bin, rolls-Not, rolls-If}
use Rattle.castor_alg.specs.declared.out.Out.{Out}
use Rattle.castor_alg.specs.declared.rel.Bound.{Bound}
use Rattle.castor_alg.specs.declared.rel.Bound.TheVariants.{Any, Incl, Excl}
use Rattle.castor_alg.specs.declared.rel.Rel.{Rel}
use Rattle.castor_alg.specs.declared.rel.Rel.TheVariants.{rolls-Table, rolls-Scalar, rolls-Cross, rolls-Concat, rolls-Select, rolls-Filter, rolls-Join, rolls-DepJoin, rolls-Group, rolls-Order, rolls-Dedup, rolls-List, rolls-Hash, rolls-Ord}
use Rattle.castor_alg.specs.Distinct.{deduped}
use Rattle.castor_alg.specs.Expression.{expr_value, expr_values, put_front}
use Rattle.castor_alg.specs.FreeScopes.{reads}
use Rattle.castor_alg.specs.Groups.{grouped}
use Rattle.castor_alg.specs.Indexes.{compares, hashed, lower, ranged, upper}
use Rattle.castor_alg.specs.Meaning.{meaning}
use Rattle.castor_alg.specs.Rows.{concatenated, crossed, depjoined, filtered, selected, single}
use Rattle.castor_alg.specs.Scopes.{Scopes, bind}
use Rattle.castor_alg.specs.Sorting.{sorted_by}
use Rattle.castor_alg.specs.Substitution.{captured_by, captures, captures_step, replacing, subst_scope, subst_scope_bound, subst_scope_expr, subst_scope_expr_step, subst_scope_step}
use Rattle.castor_alg.proofs.ExprInduction.{expr_induction, fold-Col, fold-Scope, fold-Param, fold-Lit, fold-Bin, fold-Not, fold-If}
use Rattle.castor_alg.proofs.RelInduction.{With, relations, rel_induction, fold-Table, fold-Scalar, fold-Cross, fold-Concat, fold-Select, fold-Filter, fold-Join, fold-DepJoin, fold-Group, fold-Order, fold-Dedup, fold-List, fold-Hash, fold-Ord}
use Rattle.castor_laws.specs.Substitution.{HaveValues, ScopeHasValues}
use Rattle.castor_laws.proofs.ColumnSubstitutionLaws.{replacing_value}
use Rattle.castor_laws.proofs.ExprClauseLaws.{expr_value-Col, expr_value-Scope, expr_value-Param, expr_value-Lit, expr_value-Bin, expr_value-Not, expr_value-If}
use Rattle.castor_laws.proofs.FreeScopeLaws.{exprs_rest}
use Rattle.castor_laws.proofs.RelClauseLaws.{meaning-Table, meaning-Scalar, meaning-Cross, meaning-Concat, meaning-Select, meaning-Filter, meaning-Join, meaning-DepJoin, meaning-Group, meaning-Order, meaning-Dedup, meaning-List, meaning-Hash, meaning-Ord}

neither_first : (a b : Bool) → (a || b) ≡ false → a ≡ false
neither_first true b is = is
neither_first false b is = refl

neither_second : (a b : Bool) → (a || b) ≡ false → b ≡ false
neither_second true b is = cc
neither_second false b is = is

clash : (b : Bool) → b ≡ false → b ≡ true → ⊥
clash b isnt is = cc

-- at each scope it makes no difference which of two others is bound first
pub exchanged_at : {X : Type 0} (k j m : ℕ) (a b c : X) → (j == k) ≡ false → (x : Bool) → (k == m) ≡ x → (y : Bool) → (j == m) ≡ y → cond y a (cond x b c) ≡ cond x b (cond y a c)
exchanged_at k j m a b c other true is true also = absurd (clash (j == k) other (subst (λ (n : ℕ). (j == n) ≡ true) (sym (eqb-true k m is)) also))
exchanged_at k j m a b c other true is false also = refl
exchanged_at k j m a b c other false is true also = refl
exchanged_at k j m a b c other false is false also = refl

module _ (k : ℕ) (by : List Expr) where
  abbrev Replaces : Expr → Type 0
  Replaces e = (row : Row) (env : Scopes) (p values : Row) → HaveValues by env p values → expr_value (subst_scope_expr k by e) row env p ≡ expr_value e row (bind env k values) p

  at_scope : (j i : ℕ) (b : Bool) → (k == j) ≡ b → (row : Row) (env : Scopes) (p values : Row) → HaveValues by env p values → expr_value (cond b (replacing by i) (E.Scope j i)) row env p ≡ Ok (column (cond b values (env j)) i)
  at_scope j i true is row env p values known = replacing_value by row env p values (known row) i
  at_scope j i false is row env p values known = expr_value-Scope row env p j i

  expr_replaces : (e : Expr) → Replaces e
  expr_replaces = expr_induction Replaces record {
    col = λ i row env p values known. rw (fold-Col Expr (subst_scope_expr_step k by) i, rolls-Col i, expr_value-Col row env p i, expr_value-Col row (bind env k values) p i);
    scope = λ j i row env p values known. rw (fold-Scope Expr (subst_scope_expr_step k by) j i, expr_value-Scope row (bind env k values) p j i) (at_scope j i (k == j) refl row env p values known);
    param = λ i row env p values known. rw (fold-Param Expr (subst_scope_expr_step k by) i, rolls-Param i, expr_value-Param row env p i, expr_value-Param row (bind env k values) p i);
    lit = λ v row env p values known. rw (fold-Lit Expr (subst_scope_expr_step k by) v, rolls-Lit v, expr_value-Lit row env p v, expr_value-Lit row (bind env k values) p v);
    bin = λ op a b x y row env p values known.
        rw (fold-Bin Expr (subst_scope_expr_step k by) op a b, rolls-Bin op (subst_scope_expr k by a) (subst_scope_expr k by b), expr_value-Bin row env p op (subst_scope_expr k by a) (subst_scope_expr k by b), expr_value-Bin row (bind env k values) p op a b, x row env p values known, y row env p values known);
    not = λ a x row env p values known.
        rw (fold-Not Expr (subst_scope_expr_step k by) a, rolls-Not (subst_scope_expr k by a), expr_value-Not row env p (subst_scope_expr k by a), expr_value-Not row (bind env k values) p a, x row env p values known);
    cond = λ c a b w x y row env p values known.
        rw (fold-If Expr (subst_scope_expr_step k by) c a b, rolls-If (subst_scope_expr k by c) (subst_scope_expr k by a) (subst_scope_expr k by b), expr_value-If row env p (subst_scope_expr k by c) (subst_scope_expr k by a) (subst_scope_expr k by b), expr_value-If row (bind env k values) p c a b, w row env p values known, x row env p values known, y row env p values known);
  }

  exprs_replace : (es : List Expr) (row : Row) (env : Scopes) (p values : Row) → HaveValues by env p values → expr_values (map (subst_scope_expr k by) es) row env p ≡ expr_values es row (bind env k values) p
  exprs_replace [] row env p values known = refl
  exprs_replace (e ∷ es) row env p values known = λ i. put_front (expr_replaces e row env p values known i) (exprs_replace es row env p values known i)

  lower_replaces : (lo : Bound) (env : Scopes) (p values : Row) → HaveValues by env p values → lower (subst_scope_bound k by lo) env p ≡ lower lo (bind env k values) p
  lower_replaces Any env p values known = refl
  lower_replaces (Incl e) env p values known = ap (compares (λ v limit. is_ge (value_cmp v limit))) (expr_replaces e [] env p values known)
  lower_replaces (Excl e) env p values known = ap (compares (λ v limit. is_gt (value_cmp v limit))) (expr_replaces e [] env p values known)

  upper_replaces : (hi : Bound) (env : Scopes) (p values : Row) → HaveValues by env p values → upper (subst_scope_bound k by hi) env p ≡ upper hi (bind env k values) p
  upper_replaces Any env p values known = refl
  upper_replaces (Incl e) env p values known = ap (compares (λ v limit. is_le (value_cmp v limit))) (expr_replaces e [] env p values known)
  upper_replaces (Excl e) env p values known = ap (compares (λ v limit. is_lt (value_cmp v limit))) (expr_replaces e [] env p values known)

  unread : (j : ℕ) (a : Row) (env : Scopes) → list_any (reads j) by ≡ false → (m : ℕ) (b : Bool) → (j == m) ≡ b → list_any (reads m) by ≡ true → cond b a (env m) ≡ env m
  unread j a env fresh m true is read = absurd (clash (list_any (reads j) by) fresh (subst (λ (n : ℕ). list_any (reads n) by ≡ true) (sym (eqb-true j m is)) read))
  unread j a env fresh m false is read = refl

  -- a binder of another number changes nothing that the expressions read
  still_known : (j : ℕ) (a : Row) (env : Scopes) (p values : Row) → list_any (reads j) by ≡ false → HaveValues by env p values → HaveValues by (bind env j a) p values
  still_known j a env p values fresh known row = exprs_rest by row (bind env j a) env p (λ m read. unread j a env fresh m (j == m) refl read) ∙ known row

  -- two bindings of different scopes exchange
  swapped : (j : ℕ) (a values : Row) (env : Scopes) → (j == k) ≡ false → bind (bind env j a) k values ≡ bind (bind env k values) j a
  swapped j a values env other = λ i m. sym (exchanged_at k j m a values (env m) other (k == m) refl (j == m) refl) i

  abbrev Holds : Rel → Type 0
  Holds q = ScopeHasValues k by q

  all_replace : (rs : List (With Holds)) → list_any (λ r. r) (map (captures k by) (relations rs)) ≡ false → (ts : List Table) (env : Scopes) (p values : Row) → HaveValues by env p values → map (λ (r : Rel). meaning r ts env p) (map (subst_scope k by) (relations rs)) ≡ map (λ (r : Rel). meaning r ts (bind env k values) p) (relations rs)
  all_replace [] none ts env p values known = refl
  all_replace (r ∷ rs) none ts env p values known =
      let first = r.1 (neither_first _ _ none) ts env p values known in
      let rest = all_replace rs (neither_second _ _ none) ts env p values known in
      λ i. first i ∷ rest i

  -- the body of a binder that doesn't capture
  body_replaces : (j : ℕ) (s : Rel) → Holds s → captured_by k by j ≡ false → captures k by s ≡ false → (ts : List Table) (env : Scopes) (p values : Row) → HaveValues by env p values → (a : Row) → meaning (subst_scope k by s) ts (bind env j a) p ≡ meaning s ts (bind (bind env k values) j a) p
  body_replaces j s holds free none ts env p values known a =
      holds none ts (bind env j a) p values (still_known j a env p values (neither_second _ _ free) known)
      ∙ ap (λ (e : Scopes). meaning s ts e p) (swapped j a values env (neither_first _ _ free))

  abbrev mean : List Table → Scopes → Row → Rel → Out
  mean ts env p q = meaning q ts env p

  pub scope_has_values : (q : Rel) → ScopeHasValues k by q
  scope_has_values = rel_induction Holds record {
    table = λ n c ts env p values known.
        ap (mean ts env p) (fold-Table Rel (subst_scope_step k by) n ∙ rolls-Table n) ∙ meaning-Table ts env p n ∙ sym (meaning-Table ts (bind env k values) p n);
    scalar = λ e c ts env p values known.
        ap (mean ts env p) (fold-Scalar Rel (subst_scope_step k by) e ∙ rolls-Scalar (subst_scope_expr k by e)) ∙ meaning-Scalar ts env p (subst_scope_expr k by e) ∙ ap single (exprs_replace (e ∷ []) [] env p values known) ∙ sym (meaning-Scalar ts (bind env k values) p e);
    cross = λ rs c ts env p values known.
        let all = all_replace rs (sym (fold-Cross Bool (captures_step k by) (relations rs)) ∙ c) ts env p values known in
        ap (mean ts env p) (fold-Cross Rel (subst_scope_step k by) (relations rs) ∙ rolls-Cross (map (subst_scope k by) (relations rs))) ∙ meaning-Cross ts env p (map (subst_scope k by) (relations rs)) ∙ ap crossed all ∙ sym (meaning-Cross ts (bind env k values) p (relations rs));
    concat = λ rs c ts env p values known.
        let all = all_replace rs (sym (fold-Concat Bool (captures_step k by) (relations rs)) ∙ c) ts env p values known in
        ap (mean ts env p) (fold-Concat Rel (subst_scope_step k by) (relations rs) ∙ rolls-Concat (map (subst_scope k by) (relations rs))) ∙ meaning-Concat ts env p (map (subst_scope k by) (relations rs)) ∙ ap concatenated all ∙ sym (meaning-Concat ts (bind env k values) p (relations rs));
    select = λ es r x c ts env p values known.
        let from = x (sym (fold-Select Bool (captures_step k by) es r) ∙ c) ts env p values known in
        let each = λ (row : Row). exprs_replace es row env p values known in
        ap (mean ts env p) (fold-Select Rel (subst_scope_step k by) es r ∙ rolls-Select (map (subst_scope_expr k by) es) (subst_scope k by r)) ∙ meaning-Select ts env p (map (subst_scope_expr k by) es) (subst_scope k by r) ∙ (λ i. selected (λ row. each row i) (from i)) ∙ sym (meaning-Select ts (bind env k values) p es r);
    filter = λ e r x c ts env p values known.
        let from = x (sym (fold-Filter Bool (captures_step k by) e r) ∙ c) ts env p values known in
        let each = λ (row : Row). expr_replaces e row env p values known in
        ap (mean ts env p) (fold-Filter Rel (subst_scope_step k by) e r ∙ rolls-Filter (subst_scope_expr k by e) (subst_scope k by r)) ∙ meaning-Filter ts env p (subst_scope_expr k by e) (subst_scope k by r) ∙ (λ i. filtered (λ row. each row i) (from i)) ∙ sym (meaning-Filter ts (bind env k values) p e r);
    join = λ e r s x y c ts env p values known.
        let none = sym (fold-Join Bool (captures_step k by) e r s) ∙ c in
        let left = x (neither_first _ _ none) ts env p values known in
        let right = y (neither_second _ _ none) ts env p values known in
        let each = λ (row : Row). expr_replaces e row env p values known in
        ap (mean ts env p) (fold-Join Rel (subst_scope_step k by) e r s ∙ rolls-Join (subst_scope_expr k by e) (subst_scope k by r) (subst_scope k by s)) ∙ meaning-Join ts env p (subst_scope_expr k by e) (subst_scope k by r) (subst_scope k by s) ∙ (λ i. filtered (λ row. each row i) (crossed (left i ∷ right i ∷ []))) ∙ sym (meaning-Join ts (bind env k values) p e r s);
    depjoin = λ j r s x y c ts env p values known.
        let none = sym (fold-DepJoin Bool (captures_step k by) j r s) ∙ c in
        let from = x (neither_first _ _ (neither_second _ _ none)) ts env p values known in
        let body = body_replaces j s y (neither_first _ _ none) (neither_second _ _ (neither_second _ _ none)) ts env p values known in
        ap (mean ts env p) (fold-DepJoin Rel (subst_scope_step k by) j r s ∙ rolls-DepJoin j (subst_scope k by r) (subst_scope k by s)) ∙ meaning-DepJoin ts env p j (subst_scope k by r) (subst_scope k by s) ∙ (λ i. depjoined (λ a. body a i) (from i)) ∙ sym (meaning-DepJoin ts (bind env k values) p j r s);
    group = λ ks aggs r x c ts env p values known.
        let from = x (sym (fold-Group Bool (captures_step k by) ks aggs r) ∙ c) ts env p values known in
        ap (mean ts env p) (fold-Group Rel (subst_scope_step k by) ks aggs r ∙ rolls-Group ks aggs (subst_scope k by r)) ∙ meaning-Group ts env p ks aggs (subst_scope k by r) ∙ ap (grouped ks aggs) from ∙ sym (meaning-Group ts (bind env k values) p ks aggs r);
    order = λ ks r x c ts env p values known.
        let from = x (sym (fold-Order Bool (captures_step k by) ks r) ∙ c) ts env p values known in
        ap (mean ts env p) (fold-Order Rel (subst_scope_step k by) ks r ∙ rolls-Order ks (subst_scope k by r)) ∙ meaning-Order ts env p ks (subst_scope k by r) ∙ ap (sorted_by ks) from ∙ sym (meaning-Order ts (bind env k values) p ks r);
    dedup = λ r x c ts env p values known.
        let from = x (sym (fold-Dedup Bool (captures_step k by) r) ∙ c) ts env p values known in
        ap (mean ts env p) (fold-Dedup Rel (subst_scope_step k by) r ∙ rolls-Dedup (subst_scope k by r)) ∙ meaning-Dedup ts env p (subst_scope k by r) ∙ ap deduped from ∙ sym (meaning-Dedup ts (bind env k values) p r);
    list = λ j r s x y c ts env p values known.
        let none = sym (fold-List Bool (captures_step k by) j r s) ∙ c in
        let from = x (neither_first _ _ (neither_second _ _ none)) ts env p values known in
        let body = body_replaces j s y (neither_first _ _ none) (neither_second _ _ (neither_second _ _ none)) ts env p values known in
        ap (mean ts env p) (fold-List Rel (subst_scope_step k by) j r s ∙ rolls-List j (subst_scope k by r) (subst_scope k by s)) ∙ meaning-List ts env p j (subst_scope k by r) (subst_scope k by s) ∙ (λ i. depjoined (λ a. body a i) (from i)) ∙ sym (meaning-List ts (bind env k values) p j r s);
    hash = λ j r s es x y c ts env p values known.
        let none = sym (fold-Hash Bool (captures_step k by) j r s es) ∙ c in
        let from = x (neither_first _ _ (neither_second _ _ none)) ts env p values known in
        let body = body_replaces j s y (neither_first _ _ none) (neither_second _ _ (neither_second _ _ none)) ts env p values known in
        let keys = exprs_replace es [] env p values known in
        ap (mean ts env p) (fold-Hash Rel (subst_scope_step k by) j r s es ∙ rolls-Hash j (subst_scope k by r) (subst_scope k by s) (map (subst_scope_expr k by) es)) ∙ meaning-Hash ts env p j (subst_scope k by r) (subst_scope k by s) (map (subst_scope_expr k by) es) ∙ (λ i. hashed (λ a. body a i) (from i) (keys i)) ∙ sym (meaning-Hash ts (bind env k values) p j r s es);
    ordered = λ j r s lo hi x y c ts env p values known.
        let none = sym (fold-Ord Bool (captures_step k by) j r s lo hi) ∙ c in
        let from = x (neither_first _ _ (neither_second _ _ none)) ts env p values known in
        let body = body_replaces j s y (neither_first _ _ none) (neither_second _ _ (neither_second _ _ none)) ts env p values known in
        let least = lower_replaces lo env p values known in
        let most = upper_replaces hi env p values known in
        ap (mean ts env p) (fold-Ord Rel (subst_scope_step k by) j r s lo hi ∙ rolls-Ord j (subst_scope k by r) (subst_scope k by s) (subst_scope_bound k by lo) (subst_scope_bound k by hi)) ∙ meaning-Ord ts env p j (subst_scope k by r) (subst_scope k by s) (subst_scope_bound k by lo) (subst_scope_bound k by hi) ∙ (λ i. ranged (λ a. body a i) (from i) (least i) (most i)) ∙ sym (meaning-Ord ts (bind env k values) p j r s lo hi);
  }
