-- What is computed when the data is built and what when a question comes, and the first part that is computed too early or too late.
use Rattle.std.specs.Prelude.{ℕ, ◌==◌, List, [], ◌∷◌, map, if◌then◌else◌, Option, Some, None, Result, Ok, Err}
use Rattle.castor_alg.specs.declared.expr.Expr.{Expr, fold-Expr}
use Rattle.castor_alg.specs.declared.expr.Expr.TheOpen.{Expr-F, Col, Scope, Param, Lit, Bin, Not, If}
use Rattle.castor_alg.specs.declared.rel.Bound.{Bound}
use Rattle.castor_alg.specs.declared.rel.Bound.TheVariants.{Any, Incl, Excl}
use Rattle.castor_alg.specs.declared.rel.Rel.{Rel, fold-Rel}
use Rattle.castor_alg.specs.declared.rel.Rel.TheOpen.{Rel-F}
use Rattle.castor_alg.specs.declared.rel.Rel.TheOpen as rel
use Rattle.castor_alg.specs.declared.phase.Phase.{Phase}
use Rattle.castor_alg.specs.declared.phase.Phase.TheVariants.{Build, Run}
use Rattle.castor_alg.specs.declared.stage_error.StageError.{StageError}
use Rattle.castor_alg.specs.declared.stage_error.StageError.TheVariants.{TableAtRun, JoinAtRun, ParamAtBuild, RunScopeAtBuild, BuildScopeAtRun}

-- nothing is out of its phase, or what comes first
abbrev pub Staged : Type 0
Staged = Result (Unit {0}) StageError

-- the phase in which the row of each scope in force is known, and none for a scope that isn't bound
abbrev pub Phases : Type 0
Phases = ℕ → Option Phase

-- no scope is bound
abbrev pub no_phases : Phases
no_phases k = None

-- the scope k is of this phase: the innermost binder of a number counts
abbrev pub bind_phase : Phases → ℕ → Phase → Phases
bind_phase scopes k phase j = if k == j then Some phase else scopes j

-- one part and another behind it: what comes first counts
abbrev pub both : Staged → Staged → Staged
both (Ok fine) rest = rest
both (Err why) rest = Err why

-- the parts from left to right
abbrev pub in_turn : List Staged → Staged
in_turn [] = Ok tt
in_turn (part ∷ parts) = both part (in_turn parts)

-- a parameter is known at run alone
abbrev pub param_in : Phase → Staged
param_in Build = Err ParamAtBuild
param_in Run = Ok tt

-- an expression reads scopes of its own phase alone, and a scope that isn't bound is of the other one
abbrev pub scope_in : Phase → Option Phase → Staged
scope_in Build None = Err RunScopeAtBuild
scope_in Build (Some Build) = Ok tt
scope_in Build (Some Run) = Err RunScopeAtBuild
scope_in Run None = Err BuildScopeAtRun
scope_in Run (Some Build) = Err BuildScopeAtRun
scope_in Run (Some Run) = Ok tt

-- the tables are there at build alone
abbrev pub table_in : Phase → Staged
table_in Build = Ok tt
table_in Run = Err TableAtRun

-- a join stands in build position alone, and what is within it comes after it
abbrev pub join_in : Phase → Staged → Staged
join_in Build parts = parts
join_in Run parts = Err JoinAtRun

-- how a part is staged takes the phase in which it is computed and the phases of the scopes in force
abbrev pub Staging : Type 0
Staging = Phase → Phases → Staged

-- the leftmost counts
abbrev pub expr_stage_step : Expr-F Staging → Staging
expr_stage_step (Col i) phase scopes = Ok tt
expr_stage_step (Scope k i) phase scopes = scope_in phase (scopes k)
expr_stage_step (Param i) phase scopes = param_in phase
expr_stage_step (Lit v) phase scopes = Ok tt
expr_stage_step (Bin op a b) phase scopes = both (a phase scopes) (b phase scopes)
expr_stage_step (Not a) phase scopes = a phase scopes
expr_stage_step (If c a b) phase scopes = both (c phase scopes) (both (a phase scopes) (b phase scopes))

-- an expression of a phase
abbrev pub expr_stage : Expr → Staging
expr_stage e = fold-Expr Staging expr_stage_step e

abbrev pub exprs_stage : List Expr → Staging
exprs_stage es phase scopes = in_turn (map (λ e. expr_stage e phase scopes) es)

abbrev pub bound_stage : Bound → Staging
bound_stage Any phase scopes = Ok tt
bound_stage (Incl e) phase scopes = expr_stage e phase scopes
bound_stage (Excl e) phase scopes = expr_stage e phase scopes

-- the relation itself, then its expressions, then its operands. The source of a list or of an index is computed at build, and so is the
-- expression of a scalar; all else is of the relation's own phase. The scope of a dependent join is of its phase, every other one is known at build
abbrev pub stage_step : Rel-F Staging → Staging
stage_step (rel.Table n) phase scopes = table_in phase
stage_step (rel.Scalar e) phase scopes = expr_stage e Build scopes
stage_step (rel.Cross rs) phase scopes = in_turn (map (λ (r : Staging). r phase scopes) rs)
stage_step (rel.Concat rs) phase scopes = in_turn (map (λ (r : Staging). r phase scopes) rs)
stage_step (rel.Select es r) phase scopes = both (exprs_stage es phase scopes) (r phase scopes)
stage_step (rel.Filter e r) phase scopes = both (expr_stage e phase scopes) (r phase scopes)
stage_step (rel.Join e r s) phase scopes = join_in phase (both (expr_stage e phase scopes) (both (r phase scopes) (s phase scopes)))
stage_step (rel.DepJoin k r s) phase scopes = both (r phase scopes) (s phase (bind_phase scopes k phase))
stage_step (rel.Group ks aggs r) phase scopes = r phase scopes
stage_step (rel.Order ks r) phase scopes = r phase scopes
stage_step (rel.Dedup r) phase scopes = r phase scopes
stage_step (rel.List k r s) phase scopes = both (r Build scopes) (s phase (bind_phase scopes k Build))
stage_step (rel.Hash k r s es) phase scopes = both (exprs_stage es phase scopes) (both (r Build scopes) (s phase (bind_phase scopes k Build)))
stage_step (rel.Ord k r s lo hi) phase scopes = both (bound_stage lo phase scopes) (both (bound_stage hi phase scopes) (both (r Build scopes) (s phase (bind_phase scopes k Build))))

-- a relation in a position
abbrev pub stage_under : Rel → Staging
stage_under q = fold-Rel Staging stage_step q

-- a whole query: its root is in run position, and no scope is bound around it
abbrev pub stage : Rel → Staged
stage q = stage_under q Run no_phases
