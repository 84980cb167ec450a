-- What is held for a query, read under the code for it, means what the query means.
use Rattle.std.proofs.Common.{◌≡◌, ◌∙◌, ℕ, List, [], ◌∷◌, map, refl, sym, ap, Bool, true, false, ◌+◌, if◌then◌else◌, Ok, Err}
use Rattle.castor_val.specs.declared.row.Row.{Row}
use Rattle.castor_val.specs.declared.table.Table.{Table}
use Rattle.castor_val.specs.Values.{has_faults, no_faults, union}
use Rattle.castor_alg.specs.declared.context.Context.{Context}
use Rattle.castor_alg.specs.declared.expr.Expr.{Expr}
use Rattle.castor_alg.specs.declared.held.Held.{Held, Leaf}
use Rattle.castor_alg.specs.declared.out.Out.{Out}
use Rattle.castor_alg.specs.declared.rel.Rel.{Rel}
use Rattle.castor_alg.specs.Distinct.{deduped}
use Rattle.castor_alg.specs.Expression.{Answer, expr_value, expr_values, put_front}
use Rattle.castor_alg.specs.Groups.{grouped}
use Rattle.castor_alg.specs.Indexes.{hashed, lower, ranged, upper}
use Rattle.castor_alg.specs.Meaning.{meaning}
use Rattle.castor_alg.specs.Rows.{concatenated, crossed, depjoined, faults_in, filtered, selected, single, union_over}
use Rattle.castor_alg.specs.Scopes.{Scopes, bind, unbound}
use Rattle.castor_alg.specs.Sorting.{sorted_by}
use Rattle.castor_alg.specs.Typing.{type_under}
use Rattle.castor_alg.proofs.RelInduction.{With, relations, rel_induction, fold-Table, fold-Scalar, fold-Cross, fold-Concat, fold-Select, fold-Filter, fold-Join, fold-DepJoin, fold-Group, fold-Order, fold-Dedup, fold-List, fold-Hash, fold-Ord}
use Rattle.castor_laws.proofs.RelClauseLaws.{meaning-Scalar, meaning-Cross, meaning-Concat, meaning-Select, meaning-Filter, meaning-DepJoin, meaning-Group, meaning-Order, meaning-Dedup, meaning-List, meaning-Hash, meaning-Ord}
use Rattle.castor_alg.specs.declared.held_out.HeldOut.{HeldOut}
use Rattle.castor_alg.specs.declared.phase.Phase.TheVariants.{Build, Run}
use Rattle.castor_alg.specs.HeldData.{held_data, held_under, leaf}
use Rattle.castor_alg.specs.Stages.{Phases, Staging, bind_phase, bound_stage, in_turn, no_phases, stage_step, stage_under}
use Rattle.castor_stage.proofs.HoldingLaws.{holding-Scalar, holding-Cross, holding-Concat, holding-Select, holding-Filter, holding-DepJoin, holding-Group, holding-Order, holding-Dedup, holding-List, holding-Hash, holding-Ord}
use Rattle.castor_stage.proofs.WalkLaws.{both_left, both_right}
use Rattle.castor_code.specs.declared.code.Code.{Code}
use Rattle.castor_code.specs.LayoutMeaning.{layout_meaning, over_parts, value_row}
use Rattle.castor_code.specs.Shapes.{leaf_of}
use Rattle.castor_code.proofs.ShapeLaws.{leaf_of-Leaf}
use Rattle.castor_ltype.specs.Generation.{code_over}
use Rattle.castor_ltype.specs.Layouts.{MeansQuery}
use Rattle.castor_ltype.specs.Places.{part}
use Rattle.castor_ltype.proofs.BinderLaws.{hash_means, list_means, ord_means}
use Rattle.castor_ltype.proofs.FaultLaws.{has_value, none_by_test, none_left, none_right}
use Rattle.castor_ltype.proofs.GeneratorLaws.{code-Scalar, code-Cross, code-Concat, code-Select, code-Filter, code-DepJoin, code-Group, code-Order, code-Dedup, code-List, code-Hash, code-Ord, codes_of_parts}
use Rattle.castor_ltype.proofs.LayoutLaws.{layout-scalar, layout-Cross, layout-Concat, layout-Select, layout-Filter, layout-Dep, layout-Group, layout-Order, layout-Dedup, layout-List, layout-Hash, layout-Ord}
use Rattle.castor_stage.proofs.PhaseLaws.{AgreeAt, agree_both, agree_one, agree_other, expr_rests, exprs_rest, here, lower_rests, rel_rests, upper_rests}

-- what is held in a place: under rows of the scopes that are known at build, which are those that are meant. The layout is read under
-- the rows that are meant of the scopes that are known at run
pub record Place (scopes : Phases) (env known asked : Scopes) : Type 0 where
  pub at_build : AgreeAt Build scopes known env
  pub at_run : AgreeAt Run scopes asked env

abbrev pub MeansIt : Rel → Type 0
MeansIt q = (scopes : Phases) (env known asked run : Scopes) (ts : List Table) (p v : Row) (context : Context) (hs : List Held)
    → stage_under q Run scopes ≡ Ok tt → Place scopes env known asked → (held_under q ts known run v).faults ≡ no_faults
    → layout_meaning (code_over q context hs) (held_under q ts known run v).held asked p ≡ meaning q ts env p

-- the steps from a code and what is held to a meaning
meant_by : (code code' : Code) (held held' : HeldOut) (asked : Scopes) (p : Row) (out : Out) → code ≡ code' → held ≡ held' → layout_meaning code' held'.held asked p ≡ out → layout_meaning code held.held asked p ≡ out
meant_by code code' held held' asked p out c h m = (λ i. layout_meaning (c i) (h i).held asked p) ∙ m

clean_by : (held held' : HeldOut) → held ≡ held' → held.faults ≡ no_faults → held'.faults ≡ no_faults
clean_by held held' h none = sym (ap (λ (x : HeldOut). x.faults) h) ∙ none

leaf_clean : (answer : Answer) → (leaf answer).faults ≡ no_faults → faults_in answer ≡ no_faults
leaf_clean (Ok v) none = none
leaf_clean (Err f) none = none

scalar_means : (e : Expr) (known : Scopes) (v : Row) (asked : Scopes) (p : Row) (code : Code) → ((h : Held) → layout_meaning code h asked p ≡ value_row (leaf_of h)) → (leaf (expr_value e [] known v)).faults ≡ no_faults
    → layout_meaning code (leaf (expr_value e [] known v)).held asked p ≡ single (put_front (expr_value e [] known v) (Ok []))
scalar_means e known v asked p code reads none =
    let found = has_value e [] known v (leaf_clean (expr_value e [] known v) none) in
    ap (λ (answer : Answer). layout_meaning code (leaf answer).held asked p) found.1
    ∙ reads (Leaf found.0)
    ∙ ap value_row (leaf_of-Leaf found.0)
    ∙ ap (λ (answer : Answer). single (put_front answer (Ok []))) (sym found.1)

operands_mean : (rs : List (With MeansIt)) (i : ℕ) (scopes : Phases) (env known asked run : Scopes) (ts : List Table) (p v : Row) (context : Context) (hs : List Held)
    → in_turn (map (λ (r : Staging). r Run scopes) (map stage_under (relations rs))) ≡ Ok tt → Place scopes env known asked → union_over (λ (h : HeldOut). h.faults) (map (λ (r : Rel). held_under r ts known run v) (relations rs)) ≡ no_faults
    → over_parts (map layout_meaning (codes_of_parts i (relations rs) context hs)) (map (λ (h : HeldOut). h.held) (map (λ (r : Rel). held_under r ts known run v) (relations rs))) asked p ≡ map (λ (r : Rel). meaning r ts env p) (relations rs)
operands_mean [] i scopes env known asked run ts p v context hs staged place none = refl
operands_mean (r ∷ rs) i scopes env known asked run ts p v context hs staged place none =
    let others = union_over (λ (h : HeldOut). h.faults) (map (λ (r : Rel). held_under r ts known run v) (relations rs)) in
    let first = r.1 scopes env known asked run ts p v context (map (part i) hs) (both_left _ _ staged) place (none_left (held_under r.0 ts known run v).faults others none) in
    let rest = operands_mean rs (i + 1) scopes env known asked run ts p v context hs (both_right _ _ staged) place (none_right (held_under r.0 ts known run v).faults others none) in
    λ j. first j ∷ rest j

in_built : (scopes : Phases) (env known asked : Scopes) → Place scopes env known asked → (k : ℕ) (a : Row) → Place (bind_phase scopes k Build) (bind env k a) (bind known k a) asked
in_built scopes env known asked place k a = record {
  at_build = agree_both Build scopes known env place.at_build k a;
  at_run = agree_one scopes asked env place.at_run k a;
}

in_run : (scopes : Phases) (env known asked : Scopes) → Place scopes env known asked → (k : ℕ) (a b : Row) → Place (bind_phase scopes k Run) (bind env k a) (bind known k b) (bind asked k a)
in_run scopes env known asked place k a b = record {
  at_build = agree_other scopes known env place.at_build k b a;
  at_run = agree_both Run scopes asked env place.at_run k a;
}

-- the body of a list or an index, under a row that is known at build
body_means : (s : Rel) → MeansIt s → (scopes : Phases) (env known asked run : Scopes) (ts : List Table) (p v : Row) (k : ℕ) (context : Context) (hs : List Held)
    → stage_under s Run (bind_phase scopes k Build) ≡ Ok tt → Place scopes env known asked → (a : Row) → (held_under s ts (bind known k a) run v).faults ≡ no_faults
    → layout_meaning (code_over s context hs) (held_under s ts (bind known k a) run v).held asked p ≡ meaning s ts (bind env k a) p
body_means s means scopes env known asked run ts p v k context hs staged place a none =
    means (bind_phase scopes k Build) (bind env k a) (bind known k a) asked run ts p v context hs staged (in_built scopes env known asked place k a) none

pub query_means : (q : Rel) → MeansIt q
query_means = rel_induction MeansIt record {
  table = λ n scopes env known asked run ts p v context hs staged place none.
      let refused = sym (ap (here Run scopes) (fold-Table Staging stage_step n)) ∙ staged in
      cc;
  scalar = λ e scopes env known asked run ts p v context hs staged place none.
      let part = sym (ap (here Run scopes) (fold-Scalar Staging stage_step e)) ∙ staged in
      let held = holding-Scalar ts known run v e in
      let same = expr_rests e Build scopes known env [] v p part place.at_build tt in
      meant_by _ _ _ _ asked p _ (code-Scalar context hs e) held
      (scalar_means e known v asked p _ (λ h. layout-scalar asked p h (type_under e [] context) (map leaf_of hs)) (clean_by _ _ held none)
      ∙ ap (λ (answer : Answer). single (put_front answer (Ok []))) same ∙ sym (meaning-Scalar ts env p e));
  cross = λ rs scopes env known asked run ts p v context hs staged place none.
      let parts = sym (ap (here Run scopes) (fold-Cross Staging stage_step (relations rs))) ∙ staged in
      let held = holding-Cross ts known run v (relations rs) in
      meant_by _ _ _ _ asked p _ (code-Cross context hs (relations rs)) held
      (layout-Cross asked p _ _ ∙ ap crossed (operands_mean rs 0 scopes env known asked run ts p v context hs parts place (clean_by _ _ held none)) ∙ sym (meaning-Cross ts env p (relations rs)));
  concat = λ rs scopes env known asked run ts p v context hs staged place none.
      let parts = sym (ap (here Run scopes) (fold-Concat Staging stage_step (relations rs))) ∙ staged in
      let held = holding-Concat ts known run v (relations rs) in
      meant_by _ _ _ _ asked p _ (code-Concat context hs (relations rs)) held
      (layout-Concat asked p _ _ ∙ ap concatenated (operands_mean rs 0 scopes env known asked run ts p v context hs parts place (clean_by _ _ held none)) ∙ sym (meaning-Concat ts env p (relations rs)));
  select = λ es r x scopes env known asked run ts p v context hs staged place none.
      let parts = sym (ap (here Run scopes) (fold-Select Staging stage_step es r)) ∙ staged in
      let held = holding-Select ts known run v es r in
      let source = x scopes env known asked run ts p v context _ (both_right _ _ parts) place (clean_by _ _ held none) in
      let values = λ (row : Row). exprs_rest Run scopes asked env p p place.at_run refl es row (both_left _ _ parts) in
      meant_by _ _ _ _ asked p _ (code-Select context hs es r) held
      (layout-Select asked p es _ _ ∙ (λ i. selected (λ row. values row i) (source i)) ∙ sym (meaning-Select ts env p es r));
  filter = λ e r x scopes env known asked run ts p v context hs staged place none.
      let parts = sym (ap (here Run scopes) (fold-Filter Staging stage_step e r)) ∙ staged in
      let held = holding-Filter ts known run v e r in
      let source = x scopes env known asked run ts p v context _ (both_right _ _ parts) place (clean_by _ _ held none) in
      let value = λ (row : Row). expr_rests e Run scopes asked env row p p (both_left _ _ parts) place.at_run refl in
      meant_by _ _ _ _ asked p _ (code-Filter context hs e r) held
      (layout-Filter asked p e _ _ ∙ (λ i. filtered (λ row. value row i) (source i)) ∙ sym (meaning-Filter ts env p e r));
  join = λ e r s x y scopes env known asked run ts p v context hs staged place none.
      let refused = sym (ap (here Run scopes) (fold-Join Staging stage_step e r s)) ∙ staged in
      cc;
  depjoin = λ k r s x y scopes env known asked run ts p v context hs staged place none.
      let parts = sym (ap (here Run scopes) (fold-DepJoin Staging stage_step k r s)) ∙ staged in
      let held = holding-DepJoin ts known run v k r s in
      let clean = clean_by _ _ held none in
      let second = held_under s ts (bind known k (run k)) run v in
      let behind = none_right (held_under r ts known run v).faults (union second.faults no_faults) clean in
      let source = x scopes env known asked run ts p v context _ (both_left _ _ parts) place (none_left (held_under r ts known run v).faults (union second.faults no_faults) clean) in
      let body = λ (a : Row). y (bind_phase scopes k Run) (bind env k a) (bind known k (run k)) (bind asked k a) run ts p v _ _ (both_right _ _ parts) (in_run scopes env known asked place k a (run k)) (none_left second.faults no_faults behind) in
      meant_by _ _ _ _ asked p _ (code-DepJoin context hs k r s) held
      (layout-Dep asked p k _ _ _ _ ∙ (λ i. depjoined (λ a. body a i) (source i)) ∙ sym (meaning-DepJoin ts env p k r s));
  group = λ ks aggs r x scopes env known asked run ts p v context hs staged place none.
      let part = sym (ap (here Run scopes) (fold-Group Staging stage_step ks aggs r)) ∙ staged in
      let held = holding-Group ts known run v ks aggs r in
      meant_by _ _ _ _ asked p _ (code-Group context hs ks aggs r) held
      (layout-Group asked p ks aggs _ _ ∙ ap (grouped ks aggs) (x scopes env known asked run ts p v context _ part place (clean_by _ _ held none)) ∙ sym (meaning-Group ts env p ks aggs r));
  order = λ ks r x scopes env known asked run ts p v context hs staged place none.
      let part = sym (ap (here Run scopes) (fold-Order Staging stage_step ks r)) ∙ staged in
      let held = holding-Order ts known run v ks r in
      meant_by _ _ _ _ asked p _ (code-Order context hs ks r) held
      (layout-Order asked p ks _ _ ∙ ap (sorted_by ks) (x scopes env known asked run ts p v context _ part place (clean_by _ _ held none)) ∙ sym (meaning-Order ts env p ks r));
  dedup = λ r x scopes env known asked run ts p v context hs staged place none.
      let part = sym (ap (here Run scopes) (fold-Dedup Staging stage_step r)) ∙ staged in
      let held = holding-Dedup ts known run v r in
      meant_by _ _ _ _ asked p _ (code-Dedup context hs r) held
      (layout-Dedup asked p _ _ ∙ ap deduped (x scopes env known asked run ts p v context _ part place (clean_by _ _ held none)) ∙ sym (meaning-Dedup ts env p r));
  list = λ k r s x y scopes env known asked run ts p v context hs staged place none.
      let parts = sym (ap (here Run scopes) (fold-List Staging stage_step k r s)) ∙ staged in
      let held = holding-List ts known run v k r s in
      let source = rel_rests r scopes known env ts v p (both_left _ _ parts) place.at_build in
      meant_by _ _ _ _ asked p _ (code-List context hs k r s) held
      (layout-List asked p _ _ _ _
      ∙ list_means (λ a. held_under s ts (bind known k a) run v) (λ h. layout_meaning _ h asked p) (λ a. meaning s ts (bind env k a) p)
      (body_means s y scopes env known asked run ts p v k _ _ (both_right _ _ parts) place) (meaning r ts known v) (clean_by _ _ held none)
      ∙ ap (depjoined (λ a. meaning s ts (bind env k a) p)) source ∙ sym (meaning-List ts env p k r s));
  hash = λ k r s es x y scopes env known asked run ts p v context hs staged place none.
      let parts = sym (ap (here Run scopes) (fold-Hash Staging stage_step k r s es)) ∙ staged in
      let held = holding-Hash ts known run v k r s es in
      let source = rel_rests r scopes known env ts v p (both_left _ _ (both_right _ _ parts)) place.at_build in
      let keys = exprs_rest Run scopes asked env p p place.at_run refl es [] (both_left _ _ parts) in
      meant_by _ _ _ _ asked p _ (code-Hash context hs k r s es) held
      (layout-Hash asked p _ _ _ _ es _
      ∙ hash_means (λ a. held_under s ts (bind known k a) run v) (layout_meaning _) asked p (λ a. meaning s ts (bind env k a) p)
      (body_means s y scopes env known asked run ts p v k _ _ (both_right _ _ (both_right _ _ parts)) place) (meaning r ts known v) (expr_values es [] asked p) (clean_by _ _ held none)
      ∙ (λ i. hashed (λ a. meaning s ts (bind env k a) p) (source i) (keys i)) ∙ sym (meaning-Hash ts env p k r s es));
  ordered = λ k r s lo hi x y scopes env known asked run ts p v context hs staged place none.
      let parts = sym (ap (here Run scopes) (fold-Ord Staging stage_step k r s lo hi)) ∙ staged in
      let held = holding-Ord ts known run v k r s lo hi in
      let source = rel_rests r scopes known env ts v p (both_left _ _ (both_right _ _ (both_right _ _ parts))) place.at_build in
      let from = lower_rests Run scopes asked env p p place.at_run refl lo (both_left _ _ parts) in
      let to = upper_rests Run scopes asked env p p place.at_run refl hi (both_left _ _ (both_right _ _ parts)) in
      let behind : stage_under s Run (bind_phase scopes k Build) ≡ Ok tt = both_right (stage_under r Build scopes) _ (both_right (bound_stage hi Run scopes) _ (both_right (bound_stage lo Run scopes) _ parts)) in
      meant_by _ _ _ _ asked p _ (code-Ord context hs k r s lo hi) held
      (layout-Ord asked p _ _ _ _ lo hi _
      ∙ ord_means (λ a. held_under s ts (bind known k a) run v) (layout_meaning _) asked p (λ a. meaning s ts (bind env k a) p)
      (body_means s y scopes env known asked run ts p v k _ _ behind place) (meaning r ts known v) (lower lo asked p) (upper hi asked p) (clean_by _ _ held none)
      ∙ (λ i. ranged (λ a. meaning s ts (bind env k a) p) (source i) (from i) (to i)) ∙ sym (meaning-Ord ts env p k r s lo hi));
}

-- the tree that is held, where nothing faults
tree_is : (out : HeldOut) (held : Held) (t : Bool) → has_faults out.faults ≡ t → (if t then Err out.faults else Ok out.held) ≡ Ok held → (out.faults ≡ no_faults) × (out.held ≡ held)
tree_is out held true is tree = cc
tree_is out held false is tree = (none_by_test out.faults is, cc)

pub held_is : (q : Rel) (tables : List Table) (held : Held) → held_data q tables ≡ Ok held → ((held_under q tables unbound unbound []).faults ≡ no_faults) × ((held_under q tables unbound unbound []).held ≡ held)
held_is q tables held is = let out = held_under q tables unbound unbound [] in tree_is out held (has_faults out.faults) refl is

pub code_means : (q : Rel) (types : Context) (held : Held) → MeansQuery q held (code_over q types (held ∷ []))
code_means q types held staged tables is params =
    let tree = held_is q tables held is in
    let place : Place no_phases unbound unbound unbound = record { at_build = λ k same. refl; at_run = λ k same. refl } in
    ap (λ (h : Held). layout_meaning (code_over q types (held ∷ [])) h unbound params) (sym tree.1)
    ∙ query_means q no_phases unbound unbound unbound unbound tables params [] types (held ∷ []) staged place tree.0
