-- Total conditions decide on the rows of well-typed relations.
use Rattle.std.proofs.Common.{◌≡◌, true, refl, ap, Ok, Err, List, Some}
use Rattle.castor_val.specs.declared.row.Row.{Row}
use Rattle.castor_val.specs.declared.table.Table.{Table}
use Rattle.castor_val.specs.declared.value.Ty.{Ty}
use Rattle.castor_val.specs.declared.value.Ty.TheVariants as ty
use Rattle.castor_val.specs.declared.value.Value.{Value}
use Rattle.castor_val.specs.declared.value.Value.TheVariants.{Int, Bool as Truth, Text}
use Rattle.castor_val.specs.Values.{row_fits, value_fits}
use Rattle.castor_alg.specs.declared.context.Context.{Context}
use Rattle.castor_alg.specs.declared.expr.Expr.{Expr}
use Rattle.castor_alg.specs.declared.rel.Rel.{Rel}
use Rattle.castor_alg.specs.Expression.{Answer, expr_value}
use Rattle.castor_alg.specs.Fits.{Fits, ScopesFit}
use Rattle.castor_alg.specs.Meaning.{meaning}
use Rattle.castor_alg.specs.Rows.{is_true}
use Rattle.castor_alg.specs.Scopes.{Scopes}
use Rattle.castor_alg.specs.Totality.{is_total_expr}
use Rattle.castor_alg.specs.Typing.{is_of, type_under, types_under}
use Rattle.castor_laws.specs.Deciding.{DecidesOn}
use Rattle.castor_laws.specs.Faultless.{HasValue}
use Rattle.castor_laws.specs.Fitting.{answer_fits}
use Rattle.castor_laws.proofs.EachLaws.{All_from_each, each_weaker}
use Rattle.castor_laws.proofs.RowFitLaws.{rows_fit_types}
use Rattle.castor_laws.proofs.TotalExprLaws.{total_gives_value}
use Rattle.castor_laws.proofs.TypePartLaws.{is_of-equal}
use Rattle.castor_laws.proofs.ValueFitLaws.{values_fit_types}

truth_at : (v : Value) → value_fits v ty.Bool ≡ true → v ≡ Truth (is_true (Ok v))
truth_at (Int z) fits = cc
truth_at (Truth b) fits = refl
truth_at (Text t) fits = cc

truth_in : (a : Answer) → HasValue a → answer_fits a ty.Bool ≡ true → a ≡ Ok (Truth (is_true a))
truth_in (Ok v) has fits = ap Ok (truth_at v fits)
truth_in (Err f) (v, is) fits = cc

-- a total condition is true or false on a row that fits
pub condition_decides : (e : Expr) (columns : List Ty) (context : Context) → is_total_expr e ≡ true → is_of ty.Bool (type_under e columns context) ≡ true → (row : Row) (env : Scopes) (p : Row) → row_fits row columns ≡ true → ScopesFit env context.scopes → row_fits p context.params ≡ true → expr_value e row env p ≡ Ok (Truth (is_true (expr_value e row env p)))
condition_decides e columns context total bool row env p fits scopes params =
    truth_in (expr_value e row env p) (total_gives_value e total row env p)
    (values_fit_types e columns context ty.Bool (is_of-equal ty.Bool (type_under e columns context) bool) row env p fits scopes params)

-- so it decides on the rows of a well-typed relation
pub condition_decides_on : (e : Expr) (q : Rel) (context : Context) (types : List Ty) → is_total_expr e ≡ true → types_under q context ≡ Some types → is_of ty.Bool (type_under e types context) ≡ true → (ts : List Table) (env : Scopes) (p : Row) → Fits context ts env p → DecidesOn (meaning q ts env p).rows (λ row. expr_value e row env p) (λ row. is_true (expr_value e row env p))
condition_decides_on e q context types total typed bool ts env p fits =
    All_from_each (λ row. expr_value e row env p ≡ Ok (Truth (is_true (expr_value e row env p)))) (meaning q ts env p).rows
    (each_weaker _ _ (λ row fit. condition_decides e types context total bool row env p fit fits.scopes_have_types fits.params_have_types) (rows_fit_types q context types typed ts env p fits))
