-- `finish`: whatever of a query doesn't wait for a question is stored.
use Rattle.std.specs.Prelude.{ℕ, ◌+◌, ◌^◌, nat_le, List, [], ◌∷◌, map, Bool, true, false, ◌&&◌, if◌then◌else◌, Option, Some, None, Result, Ok, Err}
use Rattle.castor_val.specs.Limits.{most_depth, most_query_nodes}
use Rattle.castor_val.specs.declared.value.Ty.{Ty}
use Rattle.castor_alg.specs.declared.rel.Rel.{Rel, fold-Rel}
use Rattle.castor_alg.specs.declared.rel.Rel as R
use Rattle.castor_alg.specs.declared.rel.Rel.TheOpen.{Rel-F}
use Rattle.castor_alg.specs.declared.rel.Rel.TheOpen as rel
use Rattle.castor_alg.specs.FreshScope.{fresh_scope}
use Rattle.castor_alg.specs.Sizes.{depth, nodes}
use Rattle.castor_nest.specs.Store.{stored}
use Rattle.castor_script.specs.declared.step_error.StepError.{StepError}
use Rattle.castor_script.specs.declared.step_error.StepError.TheVariants.{TooLarge}
use Rattle.castor_script.specs.Settled.{RunScopes, no_run_scopes, waits, with_scope}

-- What becomes of a relation in run position, under the run scopes around it, and the scope number that is next after it. It takes the one that is next before it.
abbrev pub Finishing : Type 0
Finishing = RunScopes → ℕ → Rel × ℕ

-- a relation, and what becomes of it
abbrev pub Part : Type 0
Part = Rel × Finishing

-- an operator over what becomes of its one operand
abbrev pub over_one : (Rel → Rel) → Rel × ℕ → Rel × ℕ
over_one operator r = (operator r.0, r.1)

-- an operator over what becomes of its two operands, the first numbered first
abbrev pub over_two : (Rel → Rel → Rel) → Rel × ℕ → (ℕ → Rel × ℕ) → Rel × ℕ
over_two operator r s = (operator r.0 (s r.1).0, (s r.1).1)

-- what becomes of operands, one after the other
abbrev pub over_all : List Finishing → RunScopes → ℕ → List Rel × ℕ
over_all [] runs next = ([], next)
over_all (r ∷ rs) runs next = ((r runs next).0 ∷ (over_all rs runs (r runs next).1).0, (over_all rs runs (r runs next).1).1)

-- a layout stays
abbrev pub layout : Rel → Finishing → Part
layout q kept = (q, kept)

-- what is no layout stays only where it waits for a question, and else is stored under the next number
abbrev pub placed : List (List Ty) → Rel → RunScopes → ℕ → Rel × ℕ → Rel × ℕ
placed tables q runs next kept = if waits q runs then kept else (stored tables next q, next + 1)

abbrev pub stored_unless_waiting : List (List Ty) → Rel → Finishing → Part
stored_unless_waiting tables q kept = (q, λ runs next. placed tables q runs next (kept runs next))

-- One operator over what becomes of its operands. The source of an index or a list isn't in run position, so it stays as it is; the scope of a dependent join is a run scope, and those of indexes and lists aren't.
abbrev pub finish_step : List (List Ty) → Rel-F Part → Part
finish_step tables (rel.Table n) = stored_unless_waiting tables (R.Table n) (λ runs next. (R.Table n, next))
finish_step tables (rel.Scalar e) = layout (R.Scalar e) (λ runs next. (R.Scalar e, next))
finish_step tables (rel.Cross rs) = layout (R.Cross (map (λ (r : Part). r.0) rs)) (λ runs next. (R.Cross (over_all (map (λ (r : Part). r.1) rs) runs next).0, (over_all (map (λ (r : Part). r.1) rs) runs next).1))
finish_step tables (rel.Concat rs) = layout (R.Concat (map (λ (r : Part). r.0) rs)) (λ runs next. (R.Concat (over_all (map (λ (r : Part). r.1) rs) runs next).0, (over_all (map (λ (r : Part). r.1) rs) runs next).1))
finish_step tables (rel.Select es r) = stored_unless_waiting tables (R.Select es r.0) (λ runs next. over_one (R.Select es) (r.1 runs next))
finish_step tables (rel.Filter e r) = stored_unless_waiting tables (R.Filter e r.0) (λ runs next. over_one (R.Filter e) (r.1 runs next))
finish_step tables (rel.Join e r s) = stored_unless_waiting tables (R.Join e r.0 s.0) (λ runs next. over_two (R.Join e) (r.1 runs next) (s.1 runs))
finish_step tables (rel.DepJoin k r s) = stored_unless_waiting tables (R.DepJoin k r.0 s.0) (λ runs next. over_two (R.DepJoin k) (r.1 runs next) (s.1 (with_scope true runs k)))
finish_step tables (rel.Group ks aggs r) = stored_unless_waiting tables (R.Group ks aggs r.0) (λ runs next. over_one (R.Group ks aggs) (r.1 runs next))
finish_step tables (rel.Order ks r) = stored_unless_waiting tables (R.Order ks r.0) (λ runs next. over_one (R.Order ks) (r.1 runs next))
finish_step tables (rel.Dedup r) = stored_unless_waiting tables (R.Dedup r.0) (λ runs next. over_one R.Dedup (r.1 runs next))
finish_step tables (rel.List k r s) = layout (R.List k r.0 s.0) (λ runs next. over_one (R.List k r.0) (s.1 (with_scope false runs k) next))
finish_step tables (rel.Hash k r s es) = layout (R.Hash k r.0 s.0 es) (λ runs next. over_one (λ body. R.Hash k r.0 body es) (s.1 (with_scope false runs k) next))
finish_step tables (rel.Ord k r s lo hi) = layout (R.Ord k r.0 s.0 lo hi) (λ runs next. over_one (λ body. R.Ord k r.0 body lo hi) (s.1 (with_scope false runs k) next))

-- a relation in run position, and what becomes of it over tables of these column types
abbrev pub part_of : List (List Ty) → Rel → Part
part_of tables q = fold-Rel Part (finish_step tables) q

abbrev pub finished : List (List Ty) → Rel → Finishing
finished tables q = (part_of tables q).1

-- what becomes of two operands
abbrev pub two_finished : Rel × ℕ → (ℕ → Rel × ℕ) → (Rel × Rel) × ℕ
two_finished r s = ((r.0, (s r.1).0), (s r.1).1)

-- all scope numbers are of 32 bits, and the query has at most 4,096 nodes and a depth of at most 64
abbrev pub is_within_limits : Rel × ℕ → Bool
is_within_limits made = nat_le made.1 (2 ^ 32) && (nat_le (nodes made.0) most_query_nodes && nat_le (depth made.0) most_depth)

abbrev pub limited : Rel × ℕ → Result Rel StepError
limited made = if is_within_limits made then Ok made.0 else Err TooLarge

-- numbered upwards from the fresh scope of the query, where it has one
abbrev pub finished_from : List (List Ty) → Rel → Option ℕ → Result Rel StepError
finished_from tables q None = Err TooLarge
finished_from tables q (Some fresh) = limited (finished tables q no_run_scopes fresh)

-- the whole query finished, or refused
abbrev pub finish_of : List (List Ty) → Rel → Result Rel StepError
finish_of tables q = finished_from tables q (fresh_scope q)
