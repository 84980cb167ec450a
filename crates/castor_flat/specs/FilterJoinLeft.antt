-- The rule `filter-join-left`.
use Rattle.std.specs.Prelude.{ℕ, List, ◌&&◌}
use Rattle.castor_val.specs.declared.value.Ty.{Ty}
use Rattle.castor_alg.specs.declared.expr.Expr.{Expr}
use Rattle.castor_alg.specs.declared.rel.Rel.{Rel, Filter, Join}
use Rattle.castor_alg.specs.ColumnCount.{column_count}
use Rattle.castor_alg.specs.Totality.{is_total_expr}
use Rattle.castor_flat.specs.Columns.{has_columns_within}
use Rattle.castor_flat.specs.Forms.{Rewriting, filter_of, if_fits, if_total, join_of, with_three, with_two}

abbrev pub to_left : ℕ → Expr → Expr → Rel → Rel → Rewriting
to_left left p c r s = if_fits (has_columns_within 0 left p) (if_total (is_total_expr p && is_total_expr c) (Join c (Filter p r) s))

-- filter(p, join(c, r, s)) becomes join(c, filter(p, r), s), where each column of p is one of r, and p and c are total
abbrev pub filter_join_left : List (List Ty) → Rel → Rewriting
filter_join_left tables q = with_two (filter_of q) (λ p inner. with_three (join_of inner) (λ c r s. to_left (column_count tables r) p c r s))
