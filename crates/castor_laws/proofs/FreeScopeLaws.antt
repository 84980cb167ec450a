-- Values and meanings depend on the scopes that are read alone.
use Rattle.std.proofs.Common.{◌≡◌, ◌∙◌, ℕ, List, [], ◌∷◌, map, cond, refl, sym, ap, Bool, true, false, not, ◌&&◌, ◌==◌}
use Rattle.std.specs.List.{list_any}
use Rattle.std.proofs.lemmas.Bool.{eq-eqb, eqb-true, or_left, or_right}
use Rattle.castor_val.specs.declared.row.Row.{Row}
use Rattle.castor_val.specs.declared.table.Table.{Table}
use Rattle.castor_val.specs.Values.{value_cmp}
use Rattle.std.specs.Ordering.{is_lt, is_le, is_gt, is_ge}
use Rattle.castor_alg.specs.declared.expr.Expr.{Expr}
use Rattle.castor_alg.specs.declared.rel.Bound.{Bound}
use Rattle.castor_alg.specs.declared.rel.Bound.TheVariants.{Any, Incl, Excl}
use Rattle.castor_alg.specs.declared.rel.Rel.{Rel}
use Rattle.castor_alg.specs.Distinct.{deduped}
use Rattle.castor_alg.specs.Expression.{expr_values, put_front}
use Rattle.castor_alg.specs.FreeScopes.{bound_reads, free_step, is_free, passes, reads, reads_step}
use Rattle.castor_alg.specs.Groups.{grouped}
use Rattle.castor_alg.specs.Indexes.{compares, hashed, lower, ranged, upper}
use Rattle.castor_alg.specs.Meaning.{meaning}
use Rattle.castor_alg.specs.Rows.{concatenated, crossed, depjoined, filtered, selected, single}
use Rattle.castor_alg.specs.Scopes.{Scopes, bind}
use Rattle.castor_alg.specs.Sorting.{sorted_by}
use Rattle.castor_alg.proofs.ExprInduction.{expr_induction, fold-Scope, fold-Bin, fold-Not, fold-If}
use Rattle.castor_alg.proofs.RelInduction.{With, relations, rel_induction, fold-Scalar, fold-Cross, fold-Concat, fold-Select, fold-Filter, fold-Join, fold-DepJoin, fold-Group, fold-Order, fold-Dedup, fold-List, fold-Hash, fold-Ord}
use Rattle.castor_laws.specs.Independence.{MeaningIgnores, RestsOnFree, RestsOnReads, ValueIgnores}
use Rattle.castor_laws.proofs.ExprClauseLaws.{expr_value-Col, expr_value-Scope, expr_value-Param, expr_value-Lit, expr_value-Bin, expr_value-Not, expr_value-If}
use Rattle.castor_laws.proofs.RelClauseLaws.{meaning-Table, meaning-Scalar, meaning-Cross, meaning-Concat, meaning-Select, meaning-Filter, meaning-Join, meaning-DepJoin, meaning-Group, meaning-Order, meaning-Dedup, meaning-List, meaning-Hash, meaning-Ord}

pub expr_rests : (e : Expr) → RestsOnReads e
expr_rests = expr_induction RestsOnReads record {
  col = λ i row env other p agree. rw (expr_value-Col row env p i, expr_value-Col row other p i);
  scope = λ k i row env other p agree.
      let here : env k ≡ other k = agree k (fold-Scope Bool (reads_step k) k i ∙ eq-eqb k k refl) in
      rw (expr_value-Scope row env p k i, expr_value-Scope row other p k i, here);
  param = λ i row env other p agree. rw (expr_value-Param row env p i, expr_value-Param row other p i);
  lit = λ v row env other p agree. rw (expr_value-Lit row env p v, expr_value-Lit row other p v);
  bin = λ op a b x y row env other p agree.
      let left = x row env other p (λ j is. agree j (fold-Bin Bool (reads_step j) op a b ∙ or_left _ _ is)) in
      let right = y row env other p (λ j is. agree j (fold-Bin Bool (reads_step j) op a b ∙ or_right _ _ is)) in
      rw (expr_value-Bin row env p op a b, expr_value-Bin row other p op a b, left, right);
  not = λ a x row env other p agree.
      let part = x row env other p (λ j is. agree j (fold-Not Bool (reads_step j) a ∙ is)) in
      rw (expr_value-Not row env p a, expr_value-Not row other p a, part);
  cond = λ c a b w x y row env other p agree.
      let test = w row env other p (λ j is. agree j (fold-If Bool (reads_step j) c a b ∙ or_left _ _ is)) in
      let left = x row env other p (λ j is. agree j (fold-If Bool (reads_step j) c a b ∙ or_right _ _ (or_left _ _ is))) in
      let right = y row env other p (λ j is. agree j (fold-If Bool (reads_step j) c a b ∙ or_right _ _ (or_right _ _ is))) in
      rw (expr_value-If row env p c a b, expr_value-If row other p c a b, test, left, right);
}

-- and so do the values of several expressions
pub exprs_rest : (es : List Expr) (row : Row) (env other : Scopes) (p : Row) → ((j : ℕ) → list_any (reads j) es ≡ true → env j ≡ other j) → expr_values es row env p ≡ expr_values es row other p
exprs_rest [] row env other p agree = refl
exprs_rest (e ∷ es) row env other p agree =
    let first = expr_rests e row env other p (λ j is. agree j (or_left _ _ is)) in
    let rest = exprs_rest es row env other p (λ j is. agree j (or_right _ _ is)) in
    λ i. put_front (first i) (rest i)

-- and so do the tests of bounds
pub lower_rests : (lo : Bound) (env other : Scopes) (p : Row) → ((j : ℕ) → bound_reads j lo ≡ true → env j ≡ other j) → lower lo env p ≡ lower lo other p
lower_rests Any env other p agree = refl
lower_rests (Incl e) env other p agree = ap (compares (λ v limit. is_ge (value_cmp v limit))) (expr_rests e [] env other p agree)
lower_rests (Excl e) env other p agree = ap (compares (λ v limit. is_gt (value_cmp v limit))) (expr_rests e [] env other p agree)

pub upper_rests : (hi : Bound) (env other : Scopes) (p : Row) → ((j : ℕ) → bound_reads j hi ≡ true → env j ≡ other j) → upper hi env p ≡ upper hi other p
upper_rests Any env other p agree = refl
upper_rests (Incl e) env other p agree = ap (compares (λ v limit. is_le (value_cmp v limit))) (expr_rests e [] env other p agree)
upper_rests (Excl e) env other p agree = ap (compares (λ v limit. is_lt (value_cmp v limit))) (expr_rests e [] env other p agree)

-- environments that bind one row agree where the body reads, if they agree where the body reads another scope
bound_agree : (k : ℕ) (a : Row) (env other : Scopes) (j : ℕ) (b : Bool) → (k == j) ≡ b → (not b ≡ true → env j ≡ other j) → bind env k a j ≡ bind other k a j
bound_agree k a env other j true is agree = rw is refl
bound_agree k a env other j false is agree = rw is (agree refl)

-- the body of a binder has one meaning under each row
body_rests : (k : ℕ) (s : Rel) → RestsOnFree s → (ts : List Table) (env other : Scopes) (p : Row) → ((j : ℕ) → passes j k (is_free j s) ≡ true → env j ≡ other j) → (a : Row) → meaning s ts (bind env k a) p ≡ meaning s ts (bind other k a) p
body_rests k s rests ts env other p agree a =
    rests ts (bind env k a) (bind other k a) p (λ j is. bound_agree k a env other j (k == j) refl (λ passing. agree j (ap (λ b. b && is_free j s) passing ∙ is)))

operands_rest : (rs : List (With RestsOnFree)) (ts : List Table) (env other : Scopes) (p : Row) → ((j : ℕ) → list_any (λ b. b) (map (is_free j) (relations rs)) ≡ true → env j ≡ other j) → map (λ (r : Rel). meaning r ts env p) (relations rs) ≡ map (λ (r : Rel). meaning r ts other p) (relations rs)
operands_rest [] ts env other p agree = refl
operands_rest (r ∷ rs) ts env other p agree =
    let first = r.1 ts env other p (λ j is. agree j (or_left _ _ is)) in
    let rest = operands_rest rs ts env other p (λ j is. agree j (or_right _ _ is)) in
    λ i. first i ∷ rest i

pub rel_rests : (q : Rel) → RestsOnFree q
rel_rests = rel_induction RestsOnFree record {
  table = λ n ts env other p agree. meaning-Table ts env p n ∙ sym (meaning-Table ts other p n);
  scalar = λ e ts env other p agree.
      let value = expr_rests e [] env other p (λ j is. agree j (fold-Scalar Bool (free_step j) e ∙ is)) in
      meaning-Scalar ts env p e ∙ (λ i. single (put_front (value i) (expr_values [] [] env p))) ∙ sym (meaning-Scalar ts other p e);
  cross = λ rs ts env other p agree.
      let all = operands_rest rs ts env other p (λ j is. agree j (fold-Cross Bool (free_step j) (relations rs) ∙ is)) in
      meaning-Cross ts env p (relations rs) ∙ ap crossed all ∙ sym (meaning-Cross ts other p (relations rs));
  concat = λ rs ts env other p agree.
      let all = operands_rest rs ts env other p (λ j is. agree j (fold-Concat Bool (free_step j) (relations rs) ∙ is)) in
      meaning-Concat ts env p (relations rs) ∙ ap concatenated all ∙ sym (meaning-Concat ts other p (relations rs));
  select = λ es r x ts env other p agree.
      let source = x ts env other p (λ j is. agree j (fold-Select Bool (free_step j) es r ∙ or_right _ _ is)) in
      let values = λ (row : Row). exprs_rest es row env other p (λ j is. agree j (fold-Select Bool (free_step j) es r ∙ or_left _ _ is)) in
      meaning-Select ts env p es r ∙ (λ i. selected (λ row. values row i) (source i)) ∙ sym (meaning-Select ts other p es r);
  filter = λ e r x ts env other p agree.
      let source = x ts env other p (λ j is. agree j (fold-Filter Bool (free_step j) e r ∙ or_right _ _ is)) in
      let value = λ (row : Row). expr_rests e row env other p (λ j is. agree j (fold-Filter Bool (free_step j) e r ∙ or_left _ _ is)) in
      meaning-Filter ts env p e r ∙ (λ i. filtered (λ row. value row i) (source i)) ∙ sym (meaning-Filter ts other p e r);
  join = λ e r s x y ts env other p agree.
      let left = x ts env other p (λ j is. agree j (fold-Join Bool (free_step j) e r s ∙ or_right _ _ (or_left _ _ is))) in
      let right = y ts env other p (λ j is. agree j (fold-Join Bool (free_step j) e r s ∙ or_right _ _ (or_right _ _ is))) in
      let value = λ (row : Row). expr_rests e row env other p (λ j is. agree j (fold-Join Bool (free_step j) e r s ∙ or_left _ _ is)) in
      meaning-Join ts env p e r s ∙ (λ i. filtered (λ row. value row i) (crossed (left i ∷ right i ∷ []))) ∙ sym (meaning-Join ts other p e r s);
  depjoin = λ k r s x y ts env other p agree.
      let source = x ts env other p (λ j is. agree j (fold-DepJoin Bool (free_step j) k r s ∙ or_left _ _ is)) in
      let body = body_rests k s y ts env other p (λ j is. agree j (fold-DepJoin Bool (free_step j) k r s ∙ or_right _ _ is)) in
      meaning-DepJoin ts env p k r s ∙ (λ i. depjoined (λ a. body a i) (source i)) ∙ sym (meaning-DepJoin ts other p k r s);
  group = λ ks aggs r x ts env other p agree.
      let source = x ts env other p (λ j is. agree j (fold-Group Bool (free_step j) ks aggs r ∙ is)) in
      meaning-Group ts env p ks aggs r ∙ ap (grouped ks aggs) source ∙ sym (meaning-Group ts other p ks aggs r);
  order = λ ks r x ts env other p agree.
      let source = x ts env other p (λ j is. agree j (fold-Order Bool (free_step j) ks r ∙ is)) in
      meaning-Order ts env p ks r ∙ ap (sorted_by ks) source ∙ sym (meaning-Order ts other p ks r);
  dedup = λ r x ts env other p agree.
      let source = x ts env other p (λ j is. agree j (fold-Dedup Bool (free_step j) r ∙ is)) in
      meaning-Dedup ts env p r ∙ ap deduped source ∙ sym (meaning-Dedup ts other p r);
  list = λ k r s x y ts env other p agree.
      let source = x ts env other p (λ j is. agree j (fold-List Bool (free_step j) k r s ∙ or_left _ _ is)) in
      let body = body_rests k s y ts env other p (λ j is. agree j (fold-List Bool (free_step j) k r s ∙ or_right _ _ is)) in
      meaning-List ts env p k r s ∙ (λ i. depjoined (λ a. body a i) (source i)) ∙ sym (meaning-List ts other p k r s);
  hash = λ k r s es x y ts env other p agree.
      let source = x ts env other p (λ j is. agree j (fold-Hash Bool (free_step j) k r s es ∙ or_right _ _ (or_left _ _ is))) in
      let body = body_rests k s y ts env other p (λ j is. agree j (fold-Hash Bool (free_step j) k r s es ∙ or_right _ _ (or_right _ _ is))) in
      let keys = exprs_rest es [] env other p (λ j is. agree j (fold-Hash Bool (free_step j) k r s es ∙ or_left _ _ is)) in
      meaning-Hash ts env p k r s es ∙ (λ i. hashed (λ a. body a i) (source i) (keys i)) ∙ sym (meaning-Hash ts other p k r s es);
  ordered = λ k r s lo hi x y ts env other p agree.
      let source = x ts env other p (λ j is. agree j (fold-Ord Bool (free_step j) k r s lo hi ∙ or_right _ _ (or_left _ _ is))) in
      let body = body_rests k s y ts env other p (λ j is. agree j (fold-Ord Bool (free_step j) k r s lo hi ∙ or_right _ _ (or_right _ _ is))) in
      let from = lower_rests lo env other p (λ j is. agree j (fold-Ord Bool (free_step j) k r s lo hi ∙ or_left _ _ (or_left _ _ is))) in
      let to = upper_rests hi env other p (λ j is. agree j (fold-Ord Bool (free_step j) k r s lo hi ∙ or_left _ _ (or_right _ _ is))) in
      meaning-Ord ts env p k r s lo hi ∙ (λ i. ranged (λ a. body a i) (source i) (from i) (to i)) ∙ sym (meaning-Ord ts other p k r s lo hi);
}

-- another scope than the one that is bound
clash : {P : Type 0} (b : Bool) → b ≡ true → b ≡ false → P
clash b is isnt = cc

other_scope : (k j : ℕ) (bound : Row) (env : Scopes) (reads_it : ℕ → Bool) → reads_it k ≡ false → reads_it j ≡ true → (b : Bool) → (k == j) ≡ b → cond b bound (env j) ≡ env j
other_scope k j bound env reads_it unread read true is = clash (reads_it k) (ap reads_it (eqb-true k j is) ∙ read) unread
other_scope k j bound env reads_it unread read false is = refl

pub value_ignores : (e : Expr) (k : ℕ) → ValueIgnores e k
value_ignores e k unread row env bound p = expr_rests e row (bind env k bound) env p (λ j read. other_scope k j bound env (λ m. reads m e) unread read (k == j) refl)

pub values_ignore : (es : List Expr) (k : ℕ) → list_any (reads k) es ≡ false → (row : Row) (env : Scopes) (bound p : Row) → expr_values es row (bind env k bound) p ≡ expr_values es row env p
values_ignore es k unread row env bound p = exprs_rest es row (bind env k bound) env p (λ j read. other_scope k j bound env (λ m. list_any (reads m) es) unread read (k == j) refl)

pub meaning_ignores : (q : Rel) (k : ℕ) → MeaningIgnores q k
meaning_ignores q k unfree ts env bound p = rel_rests q ts (bind env k bound) env p (λ j free. other_scope k j bound env (λ m. is_free m q) unfree free (k == j) refl)

-- also under another binder
pub body_ignores : (q : Rel) (k j : ℕ) → is_free k q ≡ false → (ts : List Table) (env : Scopes) (bound row p : Row) → meaning q ts (bind (bind env k bound) j row) p ≡ meaning q ts (bind env j row) p
body_ignores q k j unfree ts env bound row p = body_rests j q (rel_rests q) ts (bind env k bound) env p (λ m passing. other_scope k m bound env (λ m. passes m j (is_free m q)) (unpassed (j == k) (is_free k q) unfree) passing (k == m) refl) row
  where
    unpassed : (same free : Bool) → free ≡ false → (not same && free) ≡ false
    unpassed true free is = refl
    unpassed false free is = is
