-- The rule `filter-split`.
use Rattle.castor_alg.specs.declared.rel.Rel.{Rel, Filter}
use Rattle.castor_alg.specs.Totality.{is_total_expr}
use Rattle.castor_flat.specs.Forms.{Rewriting, filter_of, if_total, sides_of, with_two}

-- filter(a and b, r) becomes filter(a, filter(b, r)), where a is total
abbrev pub filter_split : Rel → Rewriting
filter_split q = with_two (filter_of q) (λ p r. with_two (sides_of p) (λ a b. if_total (is_total_expr a) (Filter a (Filter b r))))
