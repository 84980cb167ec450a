-- The rule `filter-into-join`.
use Rattle.castor_alg.specs.declared.expr.Expr.{Bin}
use Rattle.castor_alg.specs.declared.expr.Op.TheVariants.{And}
use Rattle.castor_alg.specs.declared.rel.Rel.{Rel, Join}
use Rattle.castor_alg.specs.Totality.{is_total_expr}
use Rattle.castor_flat.specs.Forms.{Rewriting, filter_of, if_total, join_of, with_three, with_two}

-- filter(p, join(c, r, s)) becomes join(c and p, r, s), where p is total
abbrev pub filter_into_join : Rel → Rewriting
filter_into_join q = with_two (filter_of q) (λ p inner. with_three (join_of inner) (λ c r s. if_total (is_total_expr p) (Join (Bin And c p) r s)))
