use Rattle.std.proofs.Common.{◌≡◌, ◌∙◌, ap, subst, sym, List, Ok, Result}
use Rattle.castor_val.specs.Gives.{Gives}
use Rattle.castor_names.specs.Turns.{and_then}
use Rattle.castor_names.specs.declared.column.NamedColumn.{NamedColumn}
use Rattle.castor_names.specs.declared.error.SchemaError.{SchemaError}
use Rattle.castor_names.specs.declared.error.SchemaError.TheVariants as error
use Rattle.castor_exprs.specs.Groups.{grouping_found}
use Rattle.castor_exprs.specs.declared.groups.Grouping.{Grouping}
use Rattle.castor_operators.specs.Operators.{grouped, grouped_by}
use Rattle.castor_operators.specs.declared.found.Found.{Found}
use Rattle.castor_operators.proofs.groups.grouped.Goals as goal

pub returns : goal.returns
unfolding grouped
returns c =
    let due : Result Grouping SchemaError = grouping_found c.as_slice.result.now c.args.keys.now c.args.aggs.now in
    let same : due ≡ Ok c.in_ok-from.found =
    subst (λ (r : Result Grouping SchemaError). Gives (λ (g : Grouping). g) error.Memory due r) c.in_ok-from.ensures.found c.grouping_found-found.ensures in
    let found : grouping_found c.args.from.columns c.args.keys.now c.args.aggs.now ≡ Ok c.in_ok-from.found =
    ap (λ (cs : List NamedColumn). grouping_found cs c.args.keys.now c.args.aggs.now) (sym c.as_slice.ensures) ∙ same in
    let is : grouped c.args.keys.now c.args.aggs.now c.args.from ≡ grouped_by c.in_ok-from.from c.in_ok-from.found =
    ap (λ (r : Result Grouping SchemaError). and_then r (λ found. grouped_by c.args.from found)) found
    ∙ ap (λ (f : Found). grouped_by f c.in_ok-from.found) (sym c.in_ok-from.ensures.kept) in
    subst (λ (due : Result Found SchemaError). Gives (λ (f : Found). f) error.Memory due c.grouped_by.result) (sym is) c.grouped_by.ensures
