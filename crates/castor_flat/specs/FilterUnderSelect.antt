-- The rule `filter-under-select`.
use Rattle.std.specs.List.{list_all}
use Rattle.castor_alg.specs.declared.rel.Rel.{Rel, Filter, Select}
use Rattle.castor_alg.specs.Substitution.{subst_cols}
use Rattle.castor_alg.specs.Totality.{is_total_expr}
use Rattle.castor_flat.specs.Forms.{Rewriting, filter_of, if_total, select_of, with_two}

-- filter(p, select(es, r)) becomes select(es, filter(p, r)), in whose condition each #i is the i-th of es, where each of es is total
abbrev pub filter_under_select : Rel → Rewriting
filter_under_select q = with_two (filter_of q) (λ p inner. with_two (select_of inner) (λ es r. if_total (list_all is_total_expr es) (Select es (Filter (subst_cols es p) r))))
