-- What is computed in a phase rests on the scopes of that phase alone, and at build on no parameter.
use Rattle.std.proofs.Common.{◌≡◌, ◌∙◌, ℕ, List, [], ◌∷◌, map, refl, sym, ap, Bool, true, false, ◌==◌, if◌then◌else◌, Option, Some, None, Ok}
use Rattle.std.specs.Prelude.{⊤}
use Rattle.std.specs.Ordering.{is_lt, is_le, is_gt, is_ge}
use Rattle.castor_val.specs.declared.row.Row.{Row}
use Rattle.castor_val.specs.declared.table.Table.{Table}
use Rattle.castor_val.specs.Values.{column, value_cmp}
use Rattle.castor_alg.specs.declared.expr.Expr.{Expr}
use Rattle.castor_alg.specs.declared.rel.Bound.{Bound}
use Rattle.castor_alg.specs.declared.rel.Bound.TheVariants.{Any, Incl, Excl}
use Rattle.castor_alg.specs.declared.rel.Rel.{Rel}
use Rattle.castor_alg.specs.Distinct.{deduped}
use Rattle.castor_alg.specs.Expression.{apply, both_sides, choice, expr_value, expr_values, negation, put_front}
use Rattle.castor_alg.specs.Groups.{grouped}
use Rattle.castor_alg.specs.Indexes.{compares, hashed, lower, ranged, upper}
use Rattle.castor_alg.specs.Meaning.{meaning}
use Rattle.castor_alg.specs.Rows.{concatenated, crossed, depjoined, filtered, selected, single}
use Rattle.castor_alg.specs.Scopes.{Scopes, bind}
use Rattle.castor_alg.specs.Sorting.{sorted_by}
use Rattle.castor_alg.proofs.ExprInduction.{expr_induction, fold-Scope, fold-Param, fold-Bin, fold-Not, fold-If}
use Rattle.castor_alg.proofs.RelInduction.{With, relations, rel_induction, fold-Scalar, fold-Cross, fold-Concat, fold-Select, fold-Filter, fold-Join, fold-DepJoin, fold-Group, fold-Order, fold-Dedup, fold-List, fold-Hash, fold-Ord}
use Rattle.castor_laws.proofs.ExprClauseLaws.{expr_value-Col, expr_value-Scope, expr_value-Param, expr_value-Lit, expr_value-Bin, expr_value-Not, expr_value-If}
use Rattle.castor_laws.proofs.RelClauseLaws.{meaning-Table, meaning-Scalar, meaning-Cross, meaning-Concat, meaning-Select, meaning-Filter, meaning-Join, meaning-DepJoin, meaning-Group, meaning-Order, meaning-Dedup, meaning-List, meaning-Hash, meaning-Ord}
use Rattle.castor_alg.specs.declared.phase.Phase.{Phase}
use Rattle.castor_alg.specs.declared.phase.Phase.TheVariants.{Build, Run}
use Rattle.castor_alg.specs.Stages.{Phases, Staged, Staging, bind_phase, bound_stage, expr_stage, expr_stage_step, exprs_stage, in_turn, param_in, scope_in, stage_step, stage_under}
use Rattle.castor_stage.proofs.WalkLaws.{both_left, both_right}

-- two environments have one row at each scope of a phase
abbrev pub AgreeAt : Phase → Phases → Scopes → Scopes → Type 0
AgreeAt phase scopes env other = (k : ℕ) → scopes k ≡ Some phase → env k ≡ other k

-- the parameters are the same where they are read
abbrev pub SameParams : Phase → Row → Row → Type 0
SameParams Build p v = ⊤
SameParams Run p v = p ≡ v

pub known_scope : (phase : Phase) (o : Option Phase) → scope_in phase o ≡ Ok tt → o ≡ Some phase
known_scope Build None h = cc
known_scope Build (Some Build) h = refl
known_scope Build (Some Run) h = cc
known_scope Run None h = cc
known_scope Run (Some Build) h = cc
known_scope Run (Some Run) h = refl

known_param : (phase : Phase) (p v : Row) → param_in phase ≡ Ok tt → SameParams phase p v → p ≡ v
known_param Build p v h same = cc
known_param Run p v h same = same

both_at : (b : Bool) (phase : Phase) (x : Option Phase) (a c d : Row) → (if b then Some phase else x) ≡ Some phase → (x ≡ Some phase → c ≡ d) → (if b then a else c) ≡ (if b then a else d)
both_at true phase x a c d is agree = refl
both_at false phase x a c d is agree = agree is

other_at : (b : Bool) (x : Option Phase) (a e c d : Row) → (if b then Some Run else x) ≡ Some Build → (x ≡ Some Build → c ≡ d) → (if b then a else c) ≡ (if b then e else d)
other_at true x a e c d is agree = cc
other_at false x a e c d is agree = agree is

one_at : (b : Bool) (x : Option Phase) (e c d : Row) → (if b then Some Build else x) ≡ Some Run → (x ≡ Some Run → c ≡ d) → c ≡ (if b then e else d)
one_at true x e c d is agree = cc
one_at false x e c d is agree = agree is

-- in the body of a binder, where both bind its scope to one row
pub agree_both : (phase : Phase) (scopes : Phases) (env other : Scopes) → AgreeAt phase scopes env other → (k : ℕ) (a : Row) → AgreeAt phase (bind_phase scopes k phase) (bind env k a) (bind other k a)
agree_both phase scopes env other agree k a j is = both_at (k == j) phase (scopes j) a (env j) (other j) is (agree j)

-- at build, in the body of a binder whose row is known at run
pub agree_other : (scopes : Phases) (env other : Scopes) → AgreeAt Build scopes env other → (k : ℕ) (a b : Row) → AgreeAt Build (bind_phase scopes k Run) (bind env k a) (bind other k b)
agree_other scopes env other agree k a b j is = other_at (k == j) (scopes j) a b (env j) (other j) is (agree j)

-- at run, in the body of a binder whose row is known at build: one environment needn't bind it
pub agree_one : (scopes : Phases) (env other : Scopes) → AgreeAt Run scopes env other → (k : ℕ) (b : Row) → AgreeAt Run (bind_phase scopes k Build) env (bind other k b)
agree_one scopes env other agree k b j is = one_at (k == j) (scopes j) b (env j) (other j) is (agree j)

module _ (phase : Phase) (scopes : Phases) where
  abbrev pub here : Staging → Staged
  here m = m phase scopes

-- an expression of a phase has one value
abbrev ExprRests : Expr → Type 0
ExprRests e = (phase : Phase) (scopes : Phases) (env other : Scopes) (row p v : Row) → expr_stage e phase scopes ≡ Ok tt → AgreeAt phase scopes env other → SameParams phase p v → expr_value e row env p ≡ expr_value e row other v

pub expr_rests : (e : Expr) → ExprRests e
expr_rests = expr_induction ExprRests record {
  col = λ i phase scopes env other row p v staged agree same. expr_value-Col row env p i ∙ sym (expr_value-Col row other v i);
  scope = λ k i phase scopes env other row p v staged agree same.
      let known = known_scope phase (scopes k) (sym (ap (here phase scopes) (fold-Scope Staging expr_stage_step k i)) ∙ staged) in
      expr_value-Scope row env p k i ∙ ap (λ (a : Row). Ok (column a i)) (agree k known) ∙ sym (expr_value-Scope row other v k i);
  param = λ i phase scopes env other row p v staged agree same.
      let known = known_param phase p v (sym (ap (here phase scopes) (fold-Param Staging expr_stage_step i)) ∙ staged) same in
      expr_value-Param row env p i ∙ ap (λ (a : Row). Ok (column a i)) known ∙ sym (expr_value-Param row other v i);
  lit = λ w phase scopes env other row p v staged agree same. expr_value-Lit row env p w ∙ sym (expr_value-Lit row other v w);
  bin = λ op a b x y phase scopes env other row p v staged agree same.
      let parts = sym (ap (here phase scopes) (fold-Bin Staging expr_stage_step op a b)) ∙ staged in
      let left = x phase scopes env other row p v (both_left _ _ parts) agree same in
      let right = y phase scopes env other row p v (both_right _ _ parts) agree same in
      expr_value-Bin row env p op a b ∙ (λ i. both_sides (apply op) (left i) (right i)) ∙ sym (expr_value-Bin row other v op a b);
  not = λ a x phase scopes env other row p v staged agree same.
      let part = sym (ap (here phase scopes) (fold-Not Staging expr_stage_step a)) ∙ staged in
      expr_value-Not row env p a ∙ ap negation (x phase scopes env other row p v part agree same) ∙ sym (expr_value-Not row other v a);
  cond = λ c a b w x y phase scopes env other row p v staged agree same.
      let parts = sym (ap (here phase scopes) (fold-If Staging expr_stage_step c a b)) ∙ staged in
      let test = w phase scopes env other row p v (both_left _ _ parts) agree same in
      let left = x phase scopes env other row p v (both_left _ _ (both_right _ _ parts)) agree same in
      let right = y phase scopes env other row p v (both_right _ _ (both_right _ _ parts)) agree same in
      expr_value-If row env p c a b ∙ (λ i. choice (test i) (left i) (right i)) ∙ sym (expr_value-If row other v c a b);
}

module _ (phase : Phase) (scopes : Phases) (env other : Scopes) (p v : Row) (agree : AgreeAt phase scopes env other) (same : SameParams phase p v) where
  pub exprs_rest : (es : List Expr) (row : Row) → exprs_stage es phase scopes ≡ Ok tt → expr_values es row env p ≡ expr_values es row other v
  exprs_rest [] row staged = refl
  exprs_rest (e ∷ es) row staged =
      let first = expr_rests e phase scopes env other row p v (both_left _ _ staged) agree same in
      let rest = exprs_rest es row (both_right _ _ staged) in
      λ i. put_front (first i) (rest i)

  pub lower_rests : (lo : Bound) → bound_stage lo phase scopes ≡ Ok tt → lower lo env p ≡ lower lo other v
  lower_rests Any staged = refl
  lower_rests (Incl e) staged = ap (compares (λ v limit. is_ge (value_cmp v limit))) (expr_rests e phase scopes env other [] p v staged agree same)
  lower_rests (Excl e) staged = ap (compares (λ v limit. is_gt (value_cmp v limit))) (expr_rests e phase scopes env other [] p v staged agree same)

  pub upper_rests : (hi : Bound) → bound_stage hi phase scopes ≡ Ok tt → upper hi env p ≡ upper hi other v
  upper_rests Any staged = refl
  upper_rests (Incl e) staged = ap (compares (λ v limit. is_le (value_cmp v limit))) (expr_rests e phase scopes env other [] p v staged agree same)
  upper_rests (Excl e) staged = ap (compares (λ v limit. is_lt (value_cmp v limit))) (expr_rests e phase scopes env other [] p v staged agree same)

-- a relation in build position has one meaning
abbrev RelRests : Rel → Type 0
RelRests q = (scopes : Phases) (env other : Scopes) (ts : List Table) (p v : Row) → stage_under q Build scopes ≡ Ok tt → AgreeAt Build scopes env other → meaning q ts env p ≡ meaning q ts other v

operands_rest : (rs : List (With RelRests)) (scopes : Phases) (env other : Scopes) (ts : List Table) (p v : Row) → in_turn (map (λ (r : Staging). r Build scopes) (map stage_under (relations rs))) ≡ Ok tt → AgreeAt Build scopes env other
    → map (λ (r : Rel). meaning r ts env p) (relations rs) ≡ map (λ (r : Rel). meaning r ts other v) (relations rs)
operands_rest [] scopes env other ts p v staged agree = refl
operands_rest (r ∷ rs) scopes env other ts p v staged agree =
    let first = r.1 scopes env other ts p v (both_left _ _ staged) agree in
    let rest = operands_rest rs scopes env other ts p v (both_right _ _ staged) agree in
    λ i. first i ∷ rest i

pub rel_rests : (q : Rel) → RelRests q
rel_rests = rel_induction RelRests record {
  table = λ n scopes env other ts p v staged agree. meaning-Table ts env p n ∙ sym (meaning-Table ts other v n);
  scalar = λ e scopes env other ts p v staged agree.
      let part = sym (ap (here Build scopes) (fold-Scalar Staging stage_step e)) ∙ staged in
      let value = expr_rests e Build scopes env other [] p v part agree tt in
      meaning-Scalar ts env p e ∙ (λ i. single (put_front (value i) (Ok []))) ∙ sym (meaning-Scalar ts other v e);
  cross = λ rs scopes env other ts p v staged agree.
      let parts = sym (ap (here Build scopes) (fold-Cross Staging stage_step (relations rs))) ∙ staged in
      meaning-Cross ts env p (relations rs) ∙ ap crossed (operands_rest rs scopes env other ts p v parts agree) ∙ sym (meaning-Cross ts other v (relations rs));
  concat = λ rs scopes env other ts p v staged agree.
      let parts = sym (ap (here Build scopes) (fold-Concat Staging stage_step (relations rs))) ∙ staged in
      meaning-Concat ts env p (relations rs) ∙ ap concatenated (operands_rest rs scopes env other ts p v parts agree) ∙ sym (meaning-Concat ts other v (relations rs));
  select = λ es r x scopes env other ts p v staged agree.
      let parts = sym (ap (here Build scopes) (fold-Select Staging stage_step es r)) ∙ staged in
      let source = x scopes env other ts p v (both_right _ _ parts) agree in
      let values = λ (row : Row). exprs_rest Build scopes env other p v agree tt es row (both_left _ _ parts) in
      meaning-Select ts env p es r ∙ (λ i. selected (λ row. values row i) (source i)) ∙ sym (meaning-Select ts other v es r);
  filter = λ e r x scopes env other ts p v staged agree.
      let parts = sym (ap (here Build scopes) (fold-Filter Staging stage_step e r)) ∙ staged in
      let source = x scopes env other ts p v (both_right _ _ parts) agree in
      let value = λ (row : Row). expr_rests e Build scopes env other row p v (both_left _ _ parts) agree tt in
      meaning-Filter ts env p e r ∙ (λ i. filtered (λ row. value row i) (source i)) ∙ sym (meaning-Filter ts other v e r);
  join = λ e r s x y scopes env other ts p v staged agree.
      let parts = sym (ap (here Build scopes) (fold-Join Staging stage_step e r s)) ∙ staged in
      let left = x scopes env other ts p v (both_left _ _ (both_right _ _ parts)) agree in
      let right = y scopes env other ts p v (both_right _ _ (both_right _ _ parts)) agree in
      let value = λ (row : Row). expr_rests e Build scopes env other row p v (both_left _ _ parts) agree tt in
      meaning-Join ts env p e r s ∙ (λ i. filtered (λ row. value row i) (crossed (left i ∷ right i ∷ []))) ∙ sym (meaning-Join ts other v e r s);
  depjoin = λ k r s x y scopes env other ts p v staged agree.
      let parts = sym (ap (here Build scopes) (fold-DepJoin Staging stage_step k r s)) ∙ staged in
      let source = x scopes env other ts p v (both_left _ _ parts) agree in
      let body = λ (a : Row). y (bind_phase scopes k Build) (bind env k a) (bind other k a) ts p v (both_right _ _ parts) (agree_both Build scopes env other agree k a) in
      meaning-DepJoin ts env p k r s ∙ (λ i. depjoined (λ a. body a i) (source i)) ∙ sym (meaning-DepJoin ts other v k r s);
  group = λ ks aggs r x scopes env other ts p v staged agree.
      let part = sym (ap (here Build scopes) (fold-Group Staging stage_step ks aggs r)) ∙ staged in
      meaning-Group ts env p ks aggs r ∙ ap (grouped ks aggs) (x scopes env other ts p v part agree) ∙ sym (meaning-Group ts other v ks aggs r);
  order = λ ks r x scopes env other ts p v staged agree.
      let part = sym (ap (here Build scopes) (fold-Order Staging stage_step ks r)) ∙ staged in
      meaning-Order ts env p ks r ∙ ap (sorted_by ks) (x scopes env other ts p v part agree) ∙ sym (meaning-Order ts other v ks r);
  dedup = λ r x scopes env other ts p v staged agree.
      let part = sym (ap (here Build scopes) (fold-Dedup Staging stage_step r)) ∙ staged in
      meaning-Dedup ts env p r ∙ ap deduped (x scopes env other ts p v part agree) ∙ sym (meaning-Dedup ts other v r);
  list = λ k r s x y scopes env other ts p v staged agree.
      let parts = sym (ap (here Build scopes) (fold-List Staging stage_step k r s)) ∙ staged in
      let source = x scopes env other ts p v (both_left _ _ parts) agree in
      let body = λ (a : Row). y (bind_phase scopes k Build) (bind env k a) (bind other k a) ts p v (both_right _ _ parts) (agree_both Build scopes env other agree k a) in
      meaning-List ts env p k r s ∙ (λ i. depjoined (λ a. body a i) (source i)) ∙ sym (meaning-List ts other v k r s);
  hash = λ k r s es x y scopes env other ts p v staged agree.
      let parts = sym (ap (here Build scopes) (fold-Hash Staging stage_step k r s es)) ∙ staged in
      let keys = exprs_rest Build scopes env other p v agree tt es [] (both_left _ _ parts) in
      let source = x scopes env other ts p v (both_left _ _ (both_right _ _ parts)) agree in
      let body = λ (a : Row). y (bind_phase scopes k Build) (bind env k a) (bind other k a) ts p v (both_right _ _ (both_right _ _ parts)) (agree_both Build scopes env other agree k a) in
      meaning-Hash ts env p k r s es ∙ (λ i. hashed (λ a. body a i) (source i) (keys i)) ∙ sym (meaning-Hash ts other v k r s es);
  ordered = λ k r s lo hi x y scopes env other ts p v staged agree.
      let parts = sym (ap (here Build scopes) (fold-Ord Staging stage_step k r s lo hi)) ∙ staged in
      let from = lower_rests Build scopes env other p v agree tt lo (both_left _ _ parts) in
      let to = upper_rests Build scopes env other p v agree tt hi (both_left _ _ (both_right _ _ parts)) in
      let source = x scopes env other ts p v (both_left _ _ (both_right _ _ (both_right _ _ parts))) agree in
      let behind : stage_under s Build (bind_phase scopes k Build) ≡ Ok tt = both_right (stage_under r Build scopes) _ (both_right (bound_stage hi Build scopes) _ (both_right (bound_stage lo Build scopes) _ parts)) in
      let body = λ (a : Row). y (bind_phase scopes k Build) (bind env k a) (bind other k a) ts p v behind (agree_both Build scopes env other agree k a) in
      meaning-Ord ts env p k r s lo hi ∙ (λ i. ranged (λ a. body a i) (source i) (from i) (to i)) ∙ sym (meaning-Ord ts other v k r s lo hi);
}
