use Rattle.std.proofs.Common.{◌≡◌, ◌∙◌, ap, subst, sym, List, Ok, Result}
use Rattle.castor_val.specs.Gives.{Gives}
use Rattle.castor_alg.specs.declared.rel.Key.{Key}
use Rattle.castor_names.specs.Turns.{and_then}
use Rattle.castor_names.specs.declared.column.NamedColumn.{NamedColumn}
use Rattle.castor_names.specs.declared.error.SchemaError.{SchemaError}
use Rattle.castor_names.specs.declared.error.SchemaError.TheVariants as error
use Rattle.castor_exprs.specs.Groups.{sorting_keys}
use Rattle.castor_operators.specs.Operators.{order_by, order_by_keys}
use Rattle.castor_operators.specs.declared.found.Found.{Found}
use Rattle.castor_operators.proofs.orders.order_by.Goals as goal

pub returns : goal.returns
unfolding order_by
returns c =
    let due : Result (List Key) SchemaError = sorting_keys c.as_slice.result.now c.args.keys.now in
    let same : due ≡ Ok c.in_ok-from.found =
    subst (λ (r : Result (List Key) SchemaError). Gives (λ (ks : List Key). ks) error.Memory due r) c.in_ok-from.ensures.found c.sorting_keys-found.ensures in
    let found : sorting_keys c.args.from.columns c.args.keys.now ≡ Ok c.in_ok-from.found =
    ap (λ (cs : List NamedColumn). sorting_keys cs c.args.keys.now) (sym c.as_slice.ensures) ∙ same in
    let is : order_by c.args.keys.now c.args.from ≡ order_by_keys c.in_ok-from.from c.in_ok-from.found =
    ap (λ (r : Result (List Key) SchemaError). and_then r (λ found. order_by_keys c.args.from found)) found
    ∙ ap (λ (f : Found). order_by_keys f c.in_ok-from.found) (sym c.in_ok-from.ensures.kept) in
    subst (λ (due : Result Found SchemaError). Gives (λ (f : Found). f) error.Memory due c.order_by_keys.result) (sym is) c.order_by_keys.ensures
