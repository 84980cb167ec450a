use Rattle.std.proofs.Common.{◌∙◌, ◌++◌, ◌∷◌, [], List, ap, map, subst, take}
use Rattle.castor_val.specs.declared.row.Row.{Row}
use Rattle.castor_val.specs.Values.{value_of}
use Rattle.castor_eval.specs.Grouping.{IsGrouped}
use Rattle.castor_reader.specs.Answers.{values_in}
use Rattle.castor_reader.specs.Grouping.{keys_in, members_in}
use Rattle.castor_reader.proofs.RowLaws.{taken-view}
use Rattle.castor_reader.proofs.group.groups_of.Goals as goal

pub loop-row-preserved : goal.loop-row-preserved
loop-row-preserved c =
    let done = take c.loop-row.row-index (map values_in c.args.rows.now) in
    let next = ap (λ cs. done ++ map value_of cs ∷ []) c.as_slice.ensures.value ∙ taken-view values_in c.args.rows.now c.loop-row.row-index c.row-item.result c.loop-row-test.true c.row-item.is in
    record {
      grouped = subst (λ (rows : List Row). IsGrouped c.args.ks.now (keys_in c.add.new.groups) (members_in c.add.new.groups) rows) next (c.in_ok-add.ensures.grouped done c.loop-row.invariant.grouped);
      beside = c.in_ok-add.ensures.beside;
    }
