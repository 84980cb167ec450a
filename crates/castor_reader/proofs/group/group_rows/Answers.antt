use Rattle.std.proofs.Common.{◌∙◌, map}
use Rattle.castor_eval.specs.Grouping.{answers, gathered}
use Rattle.castor_reader.specs.Answers.{values_in}
use Rattle.castor_reader.specs.Grouping.{rows_behind}
use Rattle.castor_eval.proofs.AggregateLaws.{grouped_whole}
use Rattle.castor_reader.proofs.group.group_rows.Goals as goal

pub returns : goal.returns
returns c =
    let keys = c.as_slice-keys.ensures.keys in
    let members = c.as_slice-members.ensures.value in
    grouped_whole c.args.ks.now c.args.aggs.now _ _ (map values_in c.args.rows.now) c.args.faults _ c.in_ok-groups.ensures.grouped
    (c.in_ok-aggregate_groups.ensures ∙ (λ i. gathered c.args.faults (answers c.args.aggs.now (map values_in (keys i)) (map rows_behind (members i)))))
