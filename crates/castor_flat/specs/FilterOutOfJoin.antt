-- The rule `filter-out-of-join`.
use Rattle.castor_alg.specs.declared.rel.Rel.{Rel, Filter, Join}
use Rattle.castor_alg.specs.Totality.{is_total_expr}
use Rattle.castor_flat.specs.Forms.{Rewriting, if_total, join_of, sides_of, with_three, with_two}

-- join(c and p, r, s) becomes filter(p, join(c, r, s)), where p is total
abbrev pub filter_out_of_join : Rel → Rewriting
filter_out_of_join q = with_three (join_of q) (λ e r s. with_two (sides_of e) (λ c p. if_total (is_total_expr p) (Filter p (Join c r s))))
