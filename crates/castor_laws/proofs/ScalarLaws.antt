-- Scalars side by side give one row of their values, or none where one faults.
use Rattle.std.proofs.Common.{◌≡◌, ◌∙◌, List, [], ◌∷◌, ◌++◌, map, refl, ap, Result, Ok, Err}
use Rattle.std.specs.List.{flat_map}
use Rattle.castor_val.specs.declared.fault.Faults.{Faults}
use Rattle.castor_val.specs.declared.row.Row.{Row}
use Rattle.castor_val.specs.declared.table.Table.{Table}
use Rattle.castor_val.specs.Values.{union}
use Rattle.castor_val.proofs.FaultLaws.{union-no_faults}
use Rattle.castor_alg.specs.declared.expr.Expr.{Expr}
use Rattle.castor_alg.specs.declared.out.Out.{Out}
use Rattle.castor_alg.specs.declared.rel.Rel.{Rel, Scalar, Cross}
use Rattle.castor_alg.specs.Expression.{Answer, expr_value, expr_values, put_front}
use Rattle.castor_alg.specs.Meaning.{meaning}
use Rattle.castor_alg.specs.Rows.{combined, crossed, faults_in, row_in, single, union_over}
use Rattle.castor_alg.specs.Scopes.{Scopes}
use Rattle.castor_laws.proofs.OutcomeLaws.{outcome_by}
use Rattle.castor_laws.proofs.RelClauseLaws.{meaning-Cross, meaning-Scalar}

-- one more value beside others
pub one_row : (a : Answer) (rest : Result Row Faults) → flat_map (λ x. map (λ y. x ++ y) (row_in rest)) (row_in (put_front a (Ok []))) ≡ row_in (put_front a rest)
one_row (Ok v) (Ok row) = refl
one_row (Ok v) (Err f) = refl
one_row (Err f) (Ok row) = refl
one_row (Err f) (Err g) = refl

one_faults : (a : Answer) (rest : Result Row Faults) → union (faults_in (put_front a (Ok []))) (faults_in rest) ≡ faults_in (put_front a rest)
one_faults (Ok v) (Ok row) = refl
one_faults (Ok v) (Err f) = refl
one_faults (Err f) (Ok row) = union-no_faults f
one_faults (Err f) (Err g) = refl

module _ (env : Scopes) (params : Row) where
  abbrev alone : Expr → Out
  alone e = single (expr_values (e ∷ []) [] env params)

  rows_beside : (es : List Expr) → combined (map (λ (r : Out). r.rows) (map alone es)) ≡ row_in (expr_values es [] env params)
  rows_beside [] = refl
  rows_beside (e ∷ es) =
      ap (λ others. flat_map (λ a. map (λ b. a ++ b) others) (alone e).rows) (rows_beside es)
      ∙ one_row (expr_value e [] env params) (expr_values es [] env params)

  faults_beside : (es : List Expr) → union_over (λ (r : Out). r.faults) (map alone es) ≡ faults_in (expr_values es [] env params)
  faults_beside [] = refl
  faults_beside (e ∷ es) =
      ap (union (alone e).faults) (faults_beside es)
      ∙ one_faults (expr_value e [] env params) (expr_values es [] env params)

  beside : (es : List Expr) → crossed (map alone es) ≡ single (expr_values es [] env params)
  beside es = outcome_by _ _ (rows_beside es) (faults_beside es)

  each_alone : (tables : List Table) (es : List Expr) → map (λ (r : Rel). meaning r tables env params) (map Scalar es) ≡ map alone es
  each_alone tables [] = refl
  each_alone tables (e ∷ es) = λ i. meaning-Scalar tables env params e i ∷ each_alone tables es i

  pub scalars_beside : (tables : List Table) (es : List Expr) → meaning (Cross (map Scalar es)) tables env params ≡ single (expr_values es [] env params)
  scalars_beside tables es = meaning-Cross tables env params (map Scalar es) ∙ ap crossed (each_alone tables es) ∙ beside es
