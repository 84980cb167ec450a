-- The rule `order-under-filter`.
use Rattle.std.specs.Prelude.{Ok}
use Rattle.castor_alg.specs.declared.rel.Rel.{Rel, Filter, Order}
use Rattle.castor_flat.specs.Forms.{Rewriting, filter_of, order_of, with_two}

-- orderby(ks, filter(p, r)) becomes filter(p, orderby(ks, r))
abbrev pub order_under_filter : Rel → Rewriting
order_under_filter q = with_two (order_of q) (λ ks inner. with_two (filter_of inner) (λ p r. Ok (Filter p (Order ks r))))
