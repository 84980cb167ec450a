-- The rule `order-drop`.
use Rattle.std.specs.Prelude.{Ok}
use Rattle.castor_alg.specs.declared.rel.Rel.{Rel}
use Rattle.castor_flat.specs.Forms.{Rewriting, order_of, with_two}

-- orderby(ks, r) becomes r
abbrev pub order_drop : Rel → Rewriting
order_drop q = with_two (order_of q) (λ ks r. Ok r)
