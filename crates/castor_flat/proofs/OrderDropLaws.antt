-- What `order-drop` makes is equivalent.
use Rattle.std.proofs.Common.{◌≡◌, List, sym, subst, Ok}
use Rattle.castor_alg.specs.declared.context.Context.{Context}
use Rattle.castor_alg.specs.declared.rel.Key.{Key}
use Rattle.castor_alg.specs.declared.rel.Rel.{Rel, Order}
use Rattle.castor_alg.specs.Equivalence.{Equivalent}
use Rattle.castor_alg.specs.Meaning.{meaning}
use Rattle.castor_alg.specs.Permutation.{SameUpToOrder}
use Rattle.castor_alg.specs.Typing.{Typed}
use Rattle.castor_laws.proofs.OperandTypeLaws.{order_parts}
use Rattle.castor_laws.proofs.OperatorLaws.{sorted_by_same}
use Rattle.castor_laws.proofs.RelClauseLaws.{meaning-Order}
use Rattle.castor_laws.proofs.TypedRelLaws.{equivalent_where}
use Rattle.castor_flat.specs.OrderDrop.{order_drop}
use Rattle.castor_flat.proofs.FormLaws.{by_form, is_made, order_is, two_parts}

drops : (context : Context) (ks : List Key) (r : Rel) → Typed (Order ks r) context → Equivalent context (Order ks r) r
drops context ks r typed =
    equivalent_where context (Order ks r) r typed
    (λ types is. (order_parts context ks r types is).0)
    (λ types is ts env p fits. subst (λ out. SameUpToOrder out (meaning r ts env p)) (sym (meaning-Order ts env p ks r)) (sorted_by_same ks (meaning r ts env p)))

pub order_drop_keeps : (context : Context) (q made : Rel) → order_drop q ≡ Ok made → Typed q context → Equivalent context q made
order_drop_keeps context q made is =
    let (whole, form, last) = two_parts _ _ made is in
    by_form context q (Order whole.0 whole.1) whole.1 made (order_is q whole form) (is_made _ made last) (drops context whole.0 whole.1)
