use Rattle.std.proofs.Common.{◌≡◌, ◌∙◌, map, true, sym, subst}
use Rattle.castor_val.specs.Values.{value_of, same_row}
use Rattle.castor_val.proofs.CellLaws.{cells_eq}
use Rattle.castor_val.proofs.OrderLaws.{equal_from_same_row, same_row-refl}
use Rattle.castor_val.proofs.order.is_same_row.Goals as goal

pub returns : goal.returns
returns c =
    let a = map value_of c.args.a.now in
    let b = map value_of c.args.b.now in
    let same : c.eq.result ≡ same_row a b = c.eq.ensures ∙ cells_eq c.args.a.now c.args.b.now in
    (λ yes. equal_from_same_row a b (sym same ∙ yes), λ e. same ∙ subst (λ r. same_row a r ≡ true) e (same_row-refl a))
