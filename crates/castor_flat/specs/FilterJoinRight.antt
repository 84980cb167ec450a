-- The rule `filter-join-right`.
use Rattle.std.specs.Prelude.{ℕ, ◌+◌, List, ◌&&◌}
use Rattle.castor_val.specs.declared.value.Ty.{Ty}
use Rattle.castor_alg.specs.declared.expr.Expr.{Expr}
use Rattle.castor_alg.specs.declared.rel.Rel.{Rel, Filter, Join}
use Rattle.castor_alg.specs.ColumnCount.{column_count}
use Rattle.castor_alg.specs.Substitution.{subst_cols}
use Rattle.castor_alg.specs.Totality.{is_total_expr}
use Rattle.castor_flat.specs.Columns.{has_columns_within, over_second}
use Rattle.castor_flat.specs.Forms.{Rewriting, filter_of, if_fits, if_total, join_of, with_three, with_two}

abbrev pub to_right : ℕ → ℕ → Expr → Expr → Rel → Rel → Rewriting
to_right left right p c r s = if_fits (has_columns_within left (left + right) p) (if_total (is_total_expr p && is_total_expr c) (Join c r (Filter (subst_cols (over_second left right) p) s)))

-- filter(p, join(c, r, s)) becomes join(c, r, filter(p, s)), the columns of p lowered by the number of those of r, where each column of p is one of s, and p and c are total
abbrev pub filter_join_right : List (List Ty) → Rel → Rewriting
filter_join_right tables q = with_two (filter_of q) (λ p inner. with_three (join_of inner) (λ c r s. to_right (column_count tables r) (column_count tables s) p c r s))
