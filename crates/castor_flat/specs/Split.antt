-- The rule `split`.
use Rattle.std.specs.Prelude.{List, [], ◌∷◌, Bool, true, false, ◌&&◌, Err, if◌then◌else◌, Option, Some, None}
use Rattle.castor_val.specs.declared.value.Ty.{Ty}
use Rattle.castor_val.specs.declared.value.Ty.TheVariants.{Bool as Truth}
use Rattle.castor_alg.specs.declared.context.Context.{Context}
use Rattle.castor_alg.specs.declared.expr.Expr.{Expr, Not, fold-Expr}
use Rattle.castor_alg.specs.declared.expr.Expr.TheOpen.{Expr-F}
use Rattle.castor_alg.specs.declared.expr.Expr.TheOpen as expr
use Rattle.castor_alg.specs.declared.rel.Rel.{Rel, Concat, Filter}
use Rattle.castor_alg.specs.declared.rule_error.RuleError.TheVariants.{BadArgument}
use Rattle.castor_alg.specs.Totality.{is_total_expr}
use Rattle.castor_alg.specs.Typing.{column_types, expr_type_of, is_of}
use Rattle.castor_flat.specs.Forms.{Rewriting, if_total}

abbrev pub row_alone_step : Expr-F Bool → Bool
row_alone_step (expr.Col i) = true
row_alone_step (expr.Scope k i) = false
row_alone_step (expr.Param i) = false
row_alone_step (expr.Lit v) = true
row_alone_step (expr.Bin op a b) = a && b
row_alone_step (expr.Not a) = a
row_alone_step (expr.If c a b) = c && (a && b)

-- the expression reads neither a scope nor a parameter
abbrev pub is_of_row_alone : Expr → Bool
is_of_row_alone e = fold-Expr Bool row_alone_step e

abbrev pub is_bool_over : Context → Expr → Option (List Ty) → Bool
is_bool_over types p None = false
is_bool_over types p (Some columns) = is_of Truth (expr_type_of p columns types)

-- the expression is a bool over the columns of the relation
unfoldable pub is_condition : Context → Expr → Rel → Bool
is_condition types p q = is_bool_over types p (column_types q types)

-- r becomes concat(filter(p, r), filter(not p, r)), where p is a total condition over the columns of r that reads nothing else
abbrev pub split : Context → Expr → Rel → Rewriting
split types p q = if is_of_row_alone p && is_condition types p q then if_total (is_total_expr p) (Concat (Filter p q ∷ Filter (Not p) q ∷ [])) else Err BadArgument
