use Rattle.std.proofs.Common.{◌≡◌, ◌∙◌, ap, subst, sym, Bool, false, Err, Result, if◌then◌else◌}
use Rattle.castor_val.specs.Gives.{Gives}
use Rattle.castor_names.specs.declared.error.SchemaError.{SchemaError}
use Rattle.castor_names.specs.declared.error.SchemaError.TheVariants as error
use Rattle.castor_operators.specs.Operators.{grouped_by, is_no_grouping, summed_by}
use Rattle.castor_operators.specs.declared.found.Found.{Found}
use Rattle.castor_operators.proofs.groups.grouped_by.Goals as goal

pub returns-else-is_no_grouping : goal.returns-else-is_no_grouping
unfolding grouped_by
returns-else-is_no_grouping c =
    let some : is_no_grouping c.args.found.keys c.args.found.aggs ≡ false =
    (λ i. is_no_grouping (sym c.as_slice.ensures i) (sym c.as_slice-2.ensures i)) ∙ sym c.is_no_grouping.ensures ∙ c.if-is_no_grouping.false in
    let is : grouped_by c.args.from c.args.found ≡ summed_by c.args.from c.args.found =
    ap (λ (b : Bool). if b then Err error.WrongCount else summed_by c.args.from c.args.found) some in
    subst (λ (due : Result Found SchemaError). Gives (λ (f : Found). f) error.Memory due c.summed_by.result) (sym is) c.summed_by.ensures
