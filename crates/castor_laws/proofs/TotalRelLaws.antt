-- Total relations have no faults.
use Rattle.std.proofs.Common.{◌≡◌, ◌∙◌, refl, sym, ap, List, [], ◌∷◌, map, filter, Bool, true, false, ◌&&◌, Result}
use Rattle.std.specs.List.{list_all, list_any}
use Rattle.std.proofs.lemmas.Bool.{and_from, and_parts}
use Rattle.castor_val.specs.declared.fault.Faults.{Faults}
use Rattle.castor_val.specs.declared.row.Row.{Row}
use Rattle.castor_val.specs.declared.table.Table.{Table}
use Rattle.castor_val.specs.declared.value.Value.{Value}
use Rattle.castor_val.specs.Values.{column, no_faults, same_row, union}
use Rattle.castor_alg.specs.declared.out.Out.{Out}
use Rattle.castor_alg.specs.declared.rel.Rel.{Rel}
use Rattle.castor_alg.specs.Distinct.{distinct}
use Rattle.castor_alg.specs.Expression.{Answer, expr_value, expr_values}
use Rattle.castor_alg.specs.Groups.{group_keys, group_row}
use Rattle.castor_alg.specs.Indexes.{found, hashed, lower, ranged, upper}
use Rattle.castor_alg.specs.Meaning.{meaning}
use Rattle.castor_alg.specs.Rows.{crossed, depjoined, faults_in, filtered, selected, union_over}
use Rattle.castor_alg.specs.Scopes.{Scopes, bind}
use Rattle.castor_alg.specs.Sorting.{row_lt, sorted}
use Rattle.castor_alg.specs.Totality.{is_total, is_total_bound, is_total_expr, is_total_group, total_step}
use Rattle.castor_alg.proofs.RelInduction.{With, relations, rel_induction, fold-Scalar, fold-Cross, fold-Concat, fold-Select, fold-Filter, fold-Join, fold-DepJoin, fold-Group, fold-Order, fold-Dedup, fold-List, fold-Hash, fold-Ord}
use Rattle.castor_laws.specs.Faultless.{GivesNoFaults, HasValue}
use Rattle.castor_laws.proofs.EachLaws.{Each, none, one, each_all, each_weaker}
use Rattle.castor_laws.proofs.RelClauseLaws.{meaning-Table, meaning-Scalar, meaning-Cross, meaning-Concat, meaning-Select, meaning-Filter, meaning-Join, meaning-DepJoin, meaning-Group, meaning-Order, meaning-Dedup, meaning-List, meaning-Hash, meaning-Ord}
use Rattle.castor_laws.proofs.TotalExprLaws.{total_gives_value, totals_give_values, lower_gives_test, upper_gives_test}
use Rattle.castor_laws.proofs.TotalGroupLaws.{groups_have_rows}

no_union : (f g : Faults) → f ≡ no_faults → g ≡ no_faults → union f g ≡ no_faults
no_union f g left right = λ i. union (left i) (right i)

-- nothing has a fault, so neither has all
pub no_union_over : {X : Type 0} (f : X → Faults) {xs : List X} → Each (λ x. f x ≡ no_faults) xs → union_over f xs ≡ no_faults
no_union_over f none = refl
no_union_over f (one {x} {xs} first rest) = no_union (f x) (union_over f xs) first (no_union_over f rest)

value_faults : {X : Type 0} (r : Result X Faults) → HasValue r → faults_in r ≡ no_faults
value_faults r (x, is) = ap faults_in is

selected_none : (f : Row → Result Row Faults) (r : Out) → r.faults ≡ no_faults → Each (λ a. HasValue (f a)) r.rows → (selected f r).faults ≡ no_faults
selected_none f r source values = no_union r.faults _ source (no_union_over (λ a. faults_in (f a)) (each_weaker _ _ (λ a has. value_faults (f a) has) values))

filtered_none : (f : Row → Answer) (r : Out) → r.faults ≡ no_faults → ((a : Row) → HasValue (f a)) → (filtered f r).faults ≡ no_faults
filtered_none f r source values = no_union r.faults _ source (no_union_over (λ a. faults_in (f a)) (each_all _ (λ a. value_faults (f a) (values a)) r.rows))

depjoined_none : (body : Row → Out) (r : Out) → r.faults ≡ no_faults → ((a : Row) → (body a).faults ≡ no_faults) → (depjoined body r).faults ≡ no_faults
depjoined_none body r source bodies = no_union r.faults _ source (no_union_over (λ a. (body a).faults) (each_all _ bodies r.rows))

found_none : (body : Row → Out) (r : Out) (key : Row) (b : Bool) → r.faults ≡ no_faults → ((a : Row) → (body a).faults ≡ no_faults) → (found body r key b).faults ≡ no_faults
found_none body r key true source bodies = no_union r.faults _ source (bodies key)
found_none body r key false source bodies = source

hashed_none : (body : Row → Out) (r : Out) (key : Result Row Faults) → HasValue key → r.faults ≡ no_faults → ((a : Row) → (body a).faults ≡ no_faults) → (hashed body r key).faults ≡ no_faults
hashed_none body r key (row, is) source bodies = rw is (found_none body r row (list_any (same_row row) r.rows) source bodies)

ranged_none : (body : Row → Out) (r : Out) (from to : Result (Value → Bool) Faults) → HasValue from → HasValue to → r.faults ≡ no_faults → ((a : Row) → (body a).faults ≡ no_faults) → (ranged body r from to).faults ≡ no_faults
ranged_none body r from to (f, is) (g, other) source bodies =
    rw (is, other) (depjoined_none body (record { rows = sorted row_lt (filter (λ a. f (column a 0) && g (column a 0)) (distinct same_row r.rows)); faults = r.faults }) source bodies)

operands_none : (rs : List (With GivesNoFaults)) → list_all (λ b. b) (map is_total (relations rs)) ≡ true → (ts : List Table) (env : Scopes) (p : Row) → Each (λ (o : Out). o.faults ≡ no_faults) (map (λ (r : Rel). meaning r ts env p) (relations rs))
operands_none [] total ts env p = none
operands_none (r ∷ rs) total ts env p =
    let parts = and_parts (is_total r.0) (list_all (λ b. b) (map is_total (relations rs))) total in
    one (r.1 parts.0 ts env p) (operands_none rs parts.1 ts env p)

abbrev faults : Out → Faults
faults o = o.faults

pub total_gives_no_faults : (q : Rel) → GivesNoFaults q
total_gives_no_faults = rel_induction GivesNoFaults record {
  table = λ n total ts env p. ap faults (meaning-Table ts env p n);
  scalar = λ e total ts env p.
      let is = and_from (is_total_expr e) true (sym (fold-Scalar Bool total_step e) ∙ total) refl in
      ap faults (meaning-Scalar ts env p e) ∙ value_faults (expr_values (e ∷ []) [] env p) (totals_give_values (e ∷ []) is [] env p);
  cross = λ rs total ts env p.
      ap faults (meaning-Cross ts env p (relations rs)) ∙ no_union_over faults (operands_none rs (sym (fold-Cross Bool total_step (relations rs)) ∙ total) ts env p);
  concat = λ rs total ts env p.
      ap faults (meaning-Concat ts env p (relations rs)) ∙ no_union_over faults (operands_none rs (sym (fold-Concat Bool total_step (relations rs)) ∙ total) ts env p);
  select = λ es r x total ts env p.
      let parts = and_parts (list_all is_total_expr es) (is_total r) (sym (fold-Select Bool total_step es r) ∙ total) in
      ap faults (meaning-Select ts env p es r)
      ∙ selected_none (λ row. expr_values es row env p) (meaning r ts env p) (x parts.1 ts env p) (each_all _ (λ row. totals_give_values es parts.0 row env p) (meaning r ts env p).rows);
  filter = λ e r x total ts env p.
      let parts = and_parts (is_total_expr e) (is_total r) (sym (fold-Filter Bool total_step e r) ∙ total) in
      ap faults (meaning-Filter ts env p e r) ∙ filtered_none (λ row. expr_value e row env p) (meaning r ts env p) (x parts.1 ts env p) (λ row. total_gives_value e parts.0 row env p);
  join = λ e r s x y total ts env p.
      let parts = and_parts (is_total_expr e) (is_total r && is_total s) (sym (fold-Join Bool total_step e r s) ∙ total) in
      let sides = and_parts (is_total r) (is_total s) parts.1 in
      let pairs = no_union_over faults {xs = meaning r ts env p ∷ meaning s ts env p ∷ []} (one (x sides.0 ts env p) (one (y sides.1 ts env p) none)) in
      ap faults (meaning-Join ts env p e r s) ∙ filtered_none (λ row. expr_value e row env p) (crossed (meaning r ts env p ∷ meaning s ts env p ∷ [])) pairs (λ row. total_gives_value e parts.0 row env p);
  depjoin = λ k r s x y total ts env p.
      let parts = and_parts (is_total r) (is_total s) (sym (fold-DepJoin Bool total_step k r s) ∙ total) in
      ap faults (meaning-DepJoin ts env p k r s) ∙ depjoined_none (λ row. meaning s ts (bind env k row) p) (meaning r ts env p) (x parts.0 ts env p) (λ a. y parts.1 ts (bind env k a) p);
  group = λ ks aggs r x total ts env p.
      let parts = and_parts (is_total_group ks aggs) (is_total r) (sym (fold-Group Bool total_step ks aggs r) ∙ total) in
      let rows = (meaning r ts env p).rows in
      ap faults (meaning-Group ts env p ks aggs r)
      ∙ selected_none (group_row ks aggs rows) (record { rows = group_keys ks rows; faults = (meaning r ts env p).faults }) (x parts.1 ts env p) (groups_have_rows ks aggs rows parts.0);
  order = λ ks r x total ts env p. ap faults (meaning-Order ts env p ks r) ∙ x (sym (fold-Order Bool total_step ks r) ∙ total) ts env p;
  dedup = λ r x total ts env p. ap faults (meaning-Dedup ts env p r) ∙ x (sym (fold-Dedup Bool total_step r) ∙ total) ts env p;
  list = λ k r s x y total ts env p.
      let parts = and_parts (is_total r) (is_total s) (sym (fold-List Bool total_step k r s) ∙ total) in
      ap faults (meaning-List ts env p k r s) ∙ depjoined_none (λ row. meaning s ts (bind env k row) p) (meaning r ts env p) (x parts.0 ts env p) (λ a. y parts.1 ts (bind env k a) p);
  hash = λ k r s es x y total ts env p.
      let parts = and_parts (list_all is_total_expr es) (is_total r && is_total s) (sym (fold-Hash Bool total_step k r s es) ∙ total) in
      let sides = and_parts (is_total r) (is_total s) parts.1 in
      ap faults (meaning-Hash ts env p k r s es)
      ∙ hashed_none (λ row. meaning s ts (bind env k row) p) (meaning r ts env p) (expr_values es [] env p) (totals_give_values es parts.0 [] env p) (x sides.0 ts env p) (λ a. y sides.1 ts (bind env k a) p);
  ordered = λ k r s lo hi x y total ts env p.
      let parts = and_parts (is_total_bound lo && is_total_bound hi) (is_total r && is_total s) (sym (fold-Ord Bool total_step k r s lo hi) ∙ total) in
      let bounds = and_parts (is_total_bound lo) (is_total_bound hi) parts.0 in
      let sides = and_parts (is_total r) (is_total s) parts.1 in
      ap faults (meaning-Ord ts env p k r s lo hi)
      ∙ ranged_none (λ row. meaning s ts (bind env k row) p) (meaning r ts env p) (lower lo env p) (upper hi env p) (lower_gives_test lo bounds.0 env p) (upper_gives_test hi bounds.1 env p) (x sides.0 ts env p) (λ a. y sides.1 ts (bind env k a) p);
}
