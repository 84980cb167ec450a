-- The rule `filter-merge`.
use Rattle.castor_alg.specs.declared.expr.Expr.{Bin}
use Rattle.castor_alg.specs.declared.expr.Op.TheVariants.{And}
use Rattle.castor_alg.specs.declared.rel.Rel.{Rel, Filter}
use Rattle.castor_alg.specs.Totality.{is_total_expr}
use Rattle.castor_flat.specs.Forms.{Rewriting, filter_of, if_total, with_two}

-- filter(a, filter(b, r)) becomes filter(a and b, r), where a is total
abbrev pub filter_merge : Rel → Rewriting
filter_merge q = with_two (filter_of q) (λ a inner. with_two (filter_of inner) (λ b r. if_total (is_total_expr a) (Filter (Bin And a b) r)))
