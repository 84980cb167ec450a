-- The rule `filter-group`.
use Rattle.std.specs.Prelude.{ℕ, List, length, map, nat_lt, Bool, not, ◌&&◌}
use Rattle.std.specs.List.{list_all}
use Rattle.castor_alg.specs.declared.expr.Expr.{Expr, Col}
use Rattle.castor_alg.specs.declared.rel.Agg.{Agg}
use Rattle.castor_alg.specs.declared.rel.Rel.{Rel, Filter, Group}
use Rattle.castor_alg.specs.Substitution.{subst_cols}
use Rattle.castor_alg.specs.Totality.{is_sum, is_total_expr}
use Rattle.castor_flat.specs.Columns.{has_columns_within}
use Rattle.castor_flat.specs.Forms.{Rewriting, filter_of, group_of, if_fits, if_total, with_three, with_two}

-- there are keys and no sum, and the condition has columns of keys alone
abbrev pub is_over_keys : List ℕ → List Agg → Expr → Bool
is_over_keys ks aggs p = (nat_lt 0 (length ks) && list_all (λ a. not (is_sum a)) aggs) && has_columns_within 0 (length ks) p

-- filter(p, groupby(ks, as, r)) becomes groupby(ks, as, filter(p, r)), in whose condition each #i is the column of the i-th key, where p is over keys and total
abbrev pub filter_group : Rel → Rewriting
filter_group q = with_two (filter_of q) (λ p inner. with_three (group_of inner) (λ ks aggs r. if_fits (is_over_keys ks aggs p) (if_total (is_total_expr p) (Group ks aggs (Filter (subst_cols (map Col ks) p) r)))))
