-- The rule `filter-swap`.
use Rattle.std.specs.Prelude.{◌&&◌}
use Rattle.castor_alg.specs.declared.rel.Rel.{Rel, Filter}
use Rattle.castor_alg.specs.Totality.{is_total_expr}
use Rattle.castor_flat.specs.Forms.{Rewriting, filter_of, if_total, with_two}

-- filter(a, filter(b, r)) becomes filter(b, filter(a, r)), where a and b are total
abbrev pub filter_swap : Rel → Rewriting
filter_swap q = with_two (filter_of q) (λ a inner. with_two (filter_of inner) (λ b r. if_total (is_total_expr a && is_total_expr b) (Filter b (Filter a r))))
