-- `finish` keeps exactly what a query means.
use Rattle.std.proofs.Common.{◌≡◌, ◌∙◌, ℕ, ◌+◌, List, [], ◌∷◌, map, refl, sym, ap, subst, Bool, true, false, Option, Some, None, if◌then◌else◌, Result, Ok, Err}
use Rattle.std.specs.Prelude.{IfOk, is_some}
use Rattle.std.specs.List.{AllZip, flat_map}
use Rattle.castor_val.specs.declared.value.Ty.{Ty}
use Rattle.castor_val.specs.declared.value.Ty.TheVariants.{Bool as Truth}
use Rattle.castor_val.specs.Gives.{Gives}
use Rattle.castor_alg.specs.declared.context.Context.{Context}
use Rattle.castor_alg.specs.declared.rel.Rel.{Rel}
use Rattle.castor_alg.specs.declared.rel.Rel as R
use Rattle.castor_alg.specs.FreshScope.{fresh_scope}
use Rattle.castor_alg.specs.Typing.{Typed, allowed, are_hash_keys, are_sorting_keys, column_types, common_types, cross_types, each, extended, group_types, is_context, is_of, is_range, type_under, types_of_each, types_under, within_limits}
use Rattle.castor_alg.proofs.RelInduction.{With, relations, rel_induction}
use Rattle.castor_laws.proofs.ColumnCountLaws.{extended-is_context, has_columns}
use Rattle.castor_laws.proofs.TypeClauseLaws.{types_under-Cross, types_under-Concat, types_under-Select, types_under-Filter, types_under-Join, types_under-DepJoin, types_under-Group, types_under-Order, types_under-Dedup, types_under-List, types_under-Hash, types_under-Ord}
use Rattle.castor_laws.proofs.TypePartLaws.{and_then_parts, both_parts, if_parts, limited_parts, map_parts}
use Rattle.castor_nest.specs.Store.{stored}
use Rattle.castor_nest.proofs.StoreLaws.{stored_means, stored_typed}
use Rattle.castor_script.specs.declared.step_error.StepError.{StepError}
use Rattle.castor_script.specs.declared.step_error.StepError.TheVariants.{Memory, TooLarge}
use Rattle.castor_script.specs.Finish.{finish_of, finished, finished_from, is_within_limits, over_all, placed}
use Rattle.castor_script.specs.Kept.{MeansTheSame}
use Rattle.castor_script.specs.Settled.{RunScopes, no_run_scopes, waits, with_scope}
use Rattle.castor_script.proofs.FinishClauses.{finished-Table, finished-Scalar, finished-Cross, finished-Concat, finished-Select, finished-Filter, finished-Join, finished-DepJoin, finished-Group, finished-Order, finished-Dedup, finished-List, finished-Hash, finished-Ord}
use Rattle.castor_laws.proofs.SameLaws.{Same, same_refl, cross_same, concat_same, select_same, filter_same, join_same, depjoin_same, group_same, order_same, dedup_same, list_same, hash_same, ordered_same}

abbrev Keeps : Rel → Type 0
Keeps q = (context : Context) (types : List Ty) → is_context context ≡ true → types_under q context ≡ Some types → (runs : RunScopes) (next : ℕ) → Same context q (finished context.tables q runs next).0

module _ (context : Context) where
  -- what stays keeps the meaning, and so does what is stored
  module _ (q : Rel) (types : List Ty) (within : is_context context ≡ true) (typed : types_under q context ≡ Some types) (next : ℕ) where
    stored_same : Same context q (stored context.tables next q)
    stored_same = record {
      types = stored_typed q next context types within typed ∙ sym typed;
      means = stored_means q next context types typed;
    }

    either_same : (b : Bool) (kept : Rel × ℕ) → Same context q kept.0 → Same context q (if b then kept else (stored context.tables next q, next + 1)).0
    either_same true kept same = same
    either_same false kept same = stored_same

    placed_same : (runs : RunScopes) (kept : Rel × ℕ) → finished context.tables q runs next ≡ placed context.tables q runs next kept → Same context q kept.0 → Same context q (finished context.tables q runs next).0
    placed_same runs kept is same = subst (λ (d : Rel × ℕ). Same context q d.0) (sym is) (either_same (waits q runs) kept same)

  layout_same : (q : Rel) (due kept : Rel × ℕ) → due ≡ kept → Same context q kept.0 → Same context q due.0
  layout_same q due kept is same = subst (λ (d : Rel × ℕ). Same context q d.0) (sym is) same

  all_same : (rs : List (With Keeps)) (all : List (List Ty)) → is_context context ≡ true → each (map (λ (r : Rel). types_under r context) (relations rs)) ≡ Some all → (runs : RunScopes) (next : ℕ) → AllZip (Same context) (relations rs) (over_all (map (finished context.tables) (relations rs)) runs next).0
  all_same [] all within typed runs next = tt
  all_same (r ∷ rs) all within typed runs next =
      let parts = both_parts (λ t ts. t ∷ ts) (types_under r.0 context) (each (map (λ (r : Rel). types_under r context) (relations rs))) all typed in
      (r.1 context parts.0 within parts.2 runs next, all_same rs parts.1 within parts.3 runs (finished context.tables r.0 runs next).1)

inner_context : (r : Rel) (context : Context) (k : ℕ) (columns : List Ty) → is_context context ≡ true → types_under r context ≡ Some columns → is_context (extended context k columns) ≡ true
inner_context r context k columns within typed = extended-is_context context k columns within (has_columns r context columns within typed)

pub finish_keeps : (q : Rel) → Keeps q
finish_keeps = rel_induction Keeps record {
  table = λ n context types within typed runs next. placed_same context (R.Table n) types within typed next runs _ (finished-Table context.tables runs next n) (same_refl context (R.Table n));
  scalar = λ e context types within typed runs next. layout_same context (R.Scalar e) _ _ (finished-Scalar context.tables runs next e) (same_refl context (R.Scalar e));
  cross = λ rs context types within typed runs next.
      let part = map_parts (λ all. flat_map (λ ts. ts) all) (each (map (λ (r : Rel). types_under r context) (relations rs))) types (limited_parts _ types (sym (types_under-Cross context (relations rs)) ∙ typed)) in
      layout_same context (R.Cross (relations rs)) _ _ (finished-Cross context.tables runs next (relations rs)) (cross_same context (relations rs) _ (all_same context rs part.0 within part.1 runs next));
  concat = λ rs context types within typed runs next.
      let part = and_then_parts common_types (each (map (λ (r : Rel). types_under r context) (relations rs))) types (sym (types_under-Concat context (relations rs)) ∙ typed) in
      layout_same context (R.Concat (relations rs)) _ _ (finished-Concat context.tables runs next (relations rs)) (concat_same context (relations rs) _ (all_same context rs part.0 within part.1 runs next));
  select = λ es r x context types within typed runs next.
      let part = and_then_parts (λ columns. within_limits (types_of_each es columns context)) (types_under r context) types (sym (types_under-Select context es r) ∙ typed) in
      placed_same context (R.Select es r) types within typed next runs _ (finished-Select context.tables runs next es r) (select_same context es r _ (x context part.0 within part.1 runs next));
  filter = λ e r x context types within typed runs next.
      let part = and_then_parts (λ columns. allowed (is_of Truth (type_under e columns context)) columns) (types_under r context) types (sym (types_under-Filter context e r) ∙ typed) in
      placed_same context (R.Filter e r) types within typed next runs _ (finished-Filter context.tables runs next e r) (filter_same context e r _ (x context part.0 within part.1 runs next));
  join = λ e r s x y context types within typed runs next.
      let operands = types_under r context ∷ types_under s context ∷ [] in
      let part = and_then_parts (λ columns. allowed (is_of Truth (type_under e columns context)) columns) (cross_types operands) types (sym (types_under-Join context e r s) ∙ typed) in
      let both = map_parts (λ all. flat_map (λ ts. ts) all) (each operands) part.0 (limited_parts _ part.0 part.1) in
      let first = both_parts (λ t ts. t ∷ ts) (types_under r context) (each (types_under s context ∷ [])) both.0 both.1 in
      let second = both_parts (λ t ts. t ∷ ts) (types_under s context) (each []) first.1 first.3 in
      placed_same context (R.Join e r s) types within typed next runs _ (finished-Join context.tables runs next e r s)
      (join_same context e r _ s _ (x context first.0 within first.2 runs next) (y context second.0 within second.2 runs (finished context.tables r runs next).1));
  depjoin = λ k r s x y context types within typed runs next.
      let part = and_then_parts (λ columns. types_under s (extended context k columns)) (types_under r context) types (sym (types_under-DepJoin context k r s) ∙ typed) in
      placed_same context (R.DepJoin k r s) types within typed next runs _ (finished-DepJoin context.tables runs next k r s)
      (depjoin_same context k r _ s _ part.0 part.1 (x context part.0 within part.1 runs next)
      (y (extended context k part.0) types (inner_context r context k part.0 within part.1) part.2 (with_scope true runs k) (finished context.tables r runs next).1));
  group = λ ks aggs r x context types within typed runs next.
      let part = and_then_parts (λ columns. group_types ks aggs columns) (types_under r context) types (sym (types_under-Group context ks aggs r) ∙ typed) in
      placed_same context (R.Group ks aggs r) types within typed next runs _ (finished-Group context.tables runs next ks aggs r) (group_same context ks aggs r _ (x context part.0 within part.1 runs next));
  order = λ ks r x context types within typed runs next.
      let part = and_then_parts (λ columns. allowed (are_sorting_keys ks columns) columns) (types_under r context) types (sym (types_under-Order context ks r) ∙ typed) in
      placed_same context (R.Order ks r) types within typed next runs _ (finished-Order context.tables runs next ks r) (order_same context ks r _ (x context part.0 within part.1 runs next));
  dedup = λ r x context types within typed runs next.
      placed_same context (R.Dedup r) types within typed next runs _ (finished-Dedup context.tables runs next r) (dedup_same context r _ (x context types within (sym (types_under-Dedup context r) ∙ typed) runs next));
  list = λ k r s x y context types within typed runs next.
      let part = and_then_parts (λ columns. types_under s (extended context k columns)) (types_under r context) types (sym (types_under-List context k r s) ∙ typed) in
      layout_same context (R.List k r s) _ _ (finished-List context.tables runs next k r s)
      (list_same context k r r s _ part.0 part.1 (same_refl context r)
      (y (extended context k part.0) types (inner_context r context k part.0 within part.1) part.2 (with_scope false runs k) next));
  hash = λ k r s es x y context types within typed runs next.
      let part = and_then_parts (λ columns. if are_hash_keys columns (types_of_each es [] context) then types_under s (extended context k columns) else None) (types_under r context) types (sym (types_under-Hash context k r s es) ∙ typed) in
      let body = if_parts (are_hash_keys part.0 (types_of_each es [] context)) (types_under s (extended context k part.0)) types part.2 in
      layout_same context (R.Hash k r s es) _ _ (finished-Hash context.tables runs next k r s es)
      (hash_same context k r r s _ part.0 part.1 (same_refl context r)
      (y (extended context k part.0) types (inner_context r context k part.0 within part.1) body.1 (with_scope false runs k) next) es);
  ordered = λ k r s lo hi x y context types within typed runs next.
      let part = and_then_parts (λ columns. if is_range columns lo hi context then types_under s (extended context k columns) else None) (types_under r context) types (sym (types_under-Ord context k r s lo hi) ∙ typed) in
      let body = if_parts (is_range part.0 lo hi context) (types_under s (extended context k part.0)) types part.2 in
      layout_same context (R.Ord k r s lo hi) _ _ (finished-Ord context.tables runs next k r s lo hi)
      (ordered_same context k r r s _ part.0 part.1 (same_refl context r)
      (y (extended context k part.0) types (inner_context r context k part.0 within part.1) body.1 (with_scope false runs k) next) lo hi);
}

limited_is : (b : Bool) (made : Rel × ℕ) (r : Rel) (refusal : StepError) → (if b then Ok made.0 else Err refusal) ≡ Ok r → made.0 ≡ r
limited_is true made r refusal is = cc
limited_is false made r refusal is = cc

finished_is : (tables : List (List Ty)) (q r : Rel) (fresh : Option ℕ) → finished_from tables q fresh ≡ Ok r → (next : ℕ) × ((finished tables q no_run_scopes next).0 ≡ r)
finished_is tables q r None is = cc
finished_is tables q r (Some next) is =
    let made = finished tables q no_run_scopes next in
    (next, limited_is (is_within_limits made) made r TooLarge is)

typed_parts : (o : Option (List Ty)) → is_some o ≡ true → (types : List Ty) × (o ≡ Some types)
typed_parts None is = cc
typed_parts (Some types) is = (types, refl)

-- what `finish` gives means the same
pub finish_means : (q r : Rel) (context : Context) → Typed q context → finish_of context.tables q ≡ Ok r → MeansTheSame context q r
finish_means q r context typed is =
    let whole = typed_parts (column_types q context) typed in
    let parts = if_parts (is_context context) (types_under q context) whole.0 whole.1 in
    let made = finished_is context.tables q r (fresh_scope q) is in
    let same : Same context q r = subst (Same context q) made.1 (finish_keeps q context whole.0 parts.0 parts.1 no_run_scopes made.0) in
    let columns : column_types r context ≡ column_types q context = ap (λ (o : Option (List Ty)). if is_context context then o else None) same.types in
    record {
      typed = ap is_some columns ∙ typed;
      same_types = columns;
      same_meaning = same.means;
    }

pub finish_given : (q : Rel) (context : Context) (tables : List (List Ty)) (result : Result Rel StepError) → Typed q context → tables ≡ context.tables → Gives (λ (r : Rel). r) Memory (finish_of tables q) result → IfOk result (λ r. MeansTheSame context q r)
finish_given q context tables (Ok r) typed same gives = finish_means q r context typed (ap (λ (ts : List (List Ty)). finish_of ts q) (sym same) ∙ gives)
finish_given q context tables (Err why) typed same gives = tt
