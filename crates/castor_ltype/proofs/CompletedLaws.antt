-- What is computed at build is of its type, whatever rows the scopes have that are known at run.
use Rattle.std.proofs.Common.{◌≡◌, ◌∙◌, ℕ, ◌^◌, ◌<◌, arith, pos, List, [], ◌∷◌, map, refl, sym, ap, subst, Bool, true, false, ◌==◌, if◌then◌else◌, Option, Some, None, Ok}
use Rattle.std.proofs.lemmas.Bool.{and_from, le-leb, lt-ltb}
use Rattle.std.proofs.lemmas.Str.{IsUtf8-nil, is_utf8-from_IsUtf8}
use Rattle.castor_val.specs.declared.row.Row.{Row}
use Rattle.castor_val.specs.declared.table.Table.{Table}
use Rattle.castor_val.specs.declared.value.Ty.{Ty}
use Rattle.castor_val.specs.declared.value.Ty.TheVariants as ty
use Rattle.castor_val.specs.declared.value.Value.{Value}
use Rattle.castor_val.specs.declared.value.Value.TheVariants.{Int, Bool as Truth, Text}
use Rattle.castor_val.specs.Values.{row_fits, value_fits}
use Rattle.castor_alg.specs.declared.context.Context.{Context}
use Rattle.castor_alg.specs.declared.expr.Expr.{Expr}
use Rattle.castor_alg.specs.declared.out.Out.{Out}
use Rattle.castor_alg.specs.declared.rel.Rel.{Rel}
use Rattle.castor_alg.specs.Expression.{Answer, expr_value}
use Rattle.castor_alg.specs.Fits.{Fits, ScopesFit, tables_fit}
use Rattle.castor_alg.specs.Meaning.{meaning}
use Rattle.castor_alg.specs.Scopes.{Scopes, bind}
use Rattle.castor_alg.specs.Typing.{extended, scope_types, type_under, types_under}
use Rattle.castor_alg.proofs.TypingLaws.{scope_types-extended}
use Rattle.castor_laws.specs.Fitting.{answer_fits}
use Rattle.castor_laws.proofs.RowFitLaws.{rows_fit_types}
use Rattle.castor_laws.proofs.ValueFitLaws.{AllFit, values_fit_types}
use Rattle.castor_alg.specs.declared.phase.Phase.{Phase}
use Rattle.castor_alg.specs.declared.phase.Phase.TheVariants.{Build, Run}
use Rattle.castor_alg.specs.Stages.{Phases, bind_phase, expr_stage, stage_under}
use Rattle.castor_stage.proofs.PhaseLaws.{AgreeAt, expr_rests, rel_rests}

abbrev default_value : Ty → Value
default_value ty.Int = Int (pos 0)
default_value ty.Bool = Truth true
default_value ty.Text = Text []

small_int : (n : ℕ) → n < 2 ^ 63 → value_fits (Int (pos n)) ty.Int ≡ true
small_int n small = lt-ltb n (2 ^ 63) small

default_fits : (t : Ty) → value_fits (default_value t) t ≡ true
default_fits ty.Int = small_int 0 (omega arith)
default_fits ty.Bool = refl
default_fits ty.Text = and_from _ _ (is_utf8-from_IsUtf8 [] IsUtf8-nil) (le-leb 0 65535 (omega arith))

abbrev default_row : List Ty → Row
default_row types = map default_value types

default_row_fits : (types : List Ty) → row_fits (default_row types) types ≡ true
default_row_fits [] = refl
default_row_fits (t ∷ types) = and_from _ _ (default_fits t) (default_row_fits types)

abbrev default_of : Option (List Ty) → Row
default_of (Some types) = default_row types
default_of None = []

abbrev completed_at : Option Phase → Row → Option (List Ty) → Row
completed_at (Some Build) row types = row
completed_at (Some Run) row types = default_of types
completed_at None row types = default_of types

-- the environment, with rows of their types for the scopes that aren't known at build
abbrev completed : Phases → Context → Scopes → Scopes
completed scopes context env k = completed_at (scopes k) (env k) (scope_types context.scopes k)

-- each scope that is known at build has a row of its types
abbrev pub BuildFits : Phases → Context → Scopes → Type 0
BuildFits scopes context env = (k : ℕ) (types : List Ty) → scopes k ≡ Some Build → scope_types context.scopes k ≡ Some types → row_fits (env k) types ≡ true

default_of_fits : (found : Option (List Ty)) (types : List Ty) → found ≡ Some types → row_fits (default_of found) types ≡ true
default_of_fits (Some ts) types is = let same : ts ≡ types = cc in subst (λ us. row_fits (default_row ts) us ≡ true) same (default_row_fits ts)
default_of_fits None types is = cc

completed_at_fits : (o : Option Phase) (row : Row) (found : Option (List Ty)) (types : List Ty) → (o ≡ Some Build → row_fits row types ≡ true) → found ≡ Some types → row_fits (completed_at o row found) types ≡ true
completed_at_fits (Some Build) row found types known is = known refl
completed_at_fits (Some Run) row found types known is = default_of_fits found types is
completed_at_fits None row found types known is = default_of_fits found types is

completed_at_is : (o : Option Phase) (row : Row) (found : Option (List Ty)) → o ≡ Some Build → row ≡ completed_at o row found
completed_at_is (Some Build) row found is = refl
completed_at_is (Some Run) row found is = cc
completed_at_is None row found is = cc

module _ (scopes : Phases) (context : Context) (env : Scopes) (fit : BuildFits scopes context env) where
  completed_fits : ScopesFit (completed scopes context env) context.scopes
  completed_fits k types is = completed_at_fits (scopes k) (env k) (scope_types context.scopes k) types (λ known. fit k types known is) is

  completed_agrees : AgreeAt Build scopes env (completed scopes context env)
  completed_agrees k is = completed_at_is (scopes k) (env k) (scope_types context.scopes k) is

  -- a value that is computed at build
  pub built_value_fits : (e : Expr) (t : Ty) (params : Row) → expr_stage e Build scopes ≡ Ok tt → type_under e [] context ≡ Some t → answer_fits (expr_value e [] env params) t ≡ true
  built_value_fits e t params staged typed =
      ap (λ (answer : Answer). answer_fits answer t) (expr_rests e Build scopes env (completed scopes context env) [] params (default_row context.params) staged completed_agrees tt)
      ∙ values_fit_types e [] context t typed [] (completed scopes context env) (default_row context.params) refl completed_fits (default_row_fits context.params)

  -- rows that are computed at build
  pub built_rows_fit : (r : Rel) (types : List Ty) (ts : List Table) (params : Row) → stage_under r Build scopes ≡ Ok tt → types_under r context ≡ Some types → tables_fit ts context.tables ≡ true → AllFit types (meaning r ts env params).rows
  built_rows_fit r types ts params staged typed tables =
      let known = rel_rests r scopes env (completed scopes context env) ts params (default_row context.params) staged completed_agrees in
      let fits : Fits context ts (completed scopes context env) (default_row context.params) = record { tables_have_types = tables; scopes_have_types = completed_fits; params_have_types = default_row_fits context.params } in
      subst (λ (out : Out). AllFit types out.rows) (sym known) (rows_fit_types r context types typed ts (completed scopes context env) (default_row context.params) fits)

in_body_at : (b : Bool) (row outer : Row) (columns : List Ty) (found : Option (List Ty)) (o : Option Phase) (types : List Ty) → (if b then Some Build else o) ≡ Some Build → (if b then Some columns else found) ≡ Some types → row_fits row columns ≡ true
    → (o ≡ Some Build → found ≡ Some types → row_fits outer types ≡ true) → row_fits (if b then row else outer) types ≡ true
in_body_at true row outer columns found o types phase is fit rest = let same : columns ≡ types = cc in subst (λ ts. row_fits row ts ≡ true) same fit
in_body_at false row outer columns found o types phase is fit rest = rest phase is

-- in the body of a binder whose row is known at build
pub fits_in_build : (scopes : Phases) (context : Context) (env : Scopes) → BuildFits scopes context env → (k : ℕ) (columns : List Ty) (row : Row) → row_fits row columns ≡ true → BuildFits (bind_phase scopes k Build) (extended context k columns) (bind env k row)
fits_in_build scopes context env fit k columns row good j types phase is =
    in_body_at (k == j) row (env j) columns (scope_types context.scopes j) (scopes j) types phase (sym (scope_types-extended context k columns j) ∙ is) good (fit j types)

in_run_at : (b : Bool) (row outer : Row) (columns : List Ty) (found : Option (List Ty)) (o : Option Phase) (types : List Ty) → (if b then Some Run else o) ≡ Some Build → (if b then Some columns else found) ≡ Some types
    → (o ≡ Some Build → found ≡ Some types → row_fits outer types ≡ true) → row_fits (if b then row else outer) types ≡ true
in_run_at true row outer columns found o types phase is rest = cc
in_run_at false row outer columns found o types phase is rest = rest phase is

-- in the body of a binder whose row is known at run
pub fits_in_run : (scopes : Phases) (context : Context) (env : Scopes) → BuildFits scopes context env → (k : ℕ) (columns : List Ty) (row : Row) → BuildFits (bind_phase scopes k Run) (extended context k columns) (bind env k row)
fits_in_run scopes context env fit k columns row j types phase is =
    in_run_at (k == j) row (env j) columns (scope_types context.scopes j) (scopes j) types phase (sym (scope_types-extended context k columns j) ∙ is) (fit j types)
