use Rattle.std.proofs.Common.{◌≡◌, ◌∙◌, ◌<◌, ◌++◌, length, get_or, map, sym, ap, arith}
use Rattle.std.specs.List.{flat_map}
use Rattle.std.proofs.lemmas.List.{get_or-map, length-map, take_all}
use Rattle.castor_val.specs.Values.{union, value_of}
use Rattle.castor_val.proofs.FaultLaws.{union_assoc}
use Rattle.castor_alg.specs.Groups.{aggregates, behind_key}
use Rattle.castor_alg.specs.Rows.{faults_in, row_in, union_over}
use Rattle.castor_eval.specs.Grouping.{answers}
use Rattle.castor_reader.specs.Answers.{row_behind, row_of, values_in}
use Rattle.castor_reader.specs.Grouping.{rows_behind}
use Rattle.castor_eval.proofs.AggregateLaws.{answers-at, length-answers}
use Rattle.castor_eval.proofs.LoopLaws.{flat_map-more, union_over-more}
use Rattle.castor_reader.proofs.group.aggregate_groups.Goals as goal

pub loop-at-preserved : goal.loop-at-preserved
loop-at-preserved c =
    let at = c.loop-at.at in
    let answer = row_of c.in_ok-row.row in
    let keys = map values_in c.args.keys.now in
    let members = map rows_behind c.args.members.now in
    let all = answers c.args.aggs.now keys members in
    let beside : length members ≡ length keys = length-map c.args.members.now rows_behind ∙ c.requires ∙ sym (length-map c.args.keys.now values_in) in
    let within : at < length keys = omega (arith, c.loop-at-test.true, length-map c.args.keys.now values_in) in
    let key = values_in c.index-keys-at.result in
    let rows = rows_behind c.index-members-at.result in
    let key_is : key ≡ get_or keys at key = ap values_in c.index-keys-at.is ∙ sym (get_or-map values_in c.args.keys.now at c.index-keys-at.result key c.loop-at-test.true) in
    let rows_are : rows ≡ get_or members at rows = ap rows_behind c.index-members-at.is ∙ sym (get_or-map rows_behind c.args.members.now at c.index-members-at.result rows (omega (arith, c.loop-at-test.true, c.requires))) in
    let made = c.in_ok-row.ensures ∙ (λ i. behind_key (map value_of (c.as_slice.ensures.value i)) (aggregates c.args.aggs.now (map row_behind (c.as_slice-in-loop-at.ensures.value i)))) in
    let is : answer ≡ get_or all at answer = made ∙ answers-at c.args.aggs.now keys members at key rows answer within beside key_is rows_are in
    let below : at < length all = omega (arith, within, length-answers c.args.aggs.now keys members beside) in
    record {
      rows = c.in_ok-add_row.ensures.rows ∙ ap (λ xs. xs ++ row_in answer) c.loop-at.invariant.rows ∙ sym (flat_map-more row_in all at answer below is);
      faults = c.in_ok-add_row.ensures.faults ∙ ap (λ f. union f (faults_in answer)) c.loop-at.invariant.faults ∙ union_assoc c.args.faults _ _ ∙ ap (union c.args.faults) (sym (union_over-more faults_in all at answer below is));
    }

pub returns : goal.returns
returns c =
    let keys = map values_in c.args.keys.now in
    let members = map rows_behind c.args.members.now in
    let beside : length members ≡ length keys = length-map c.args.members.now rows_behind ∙ c.requires ∙ sym (length-map c.args.keys.now values_in) in
    let whole = take_all c.loop-at.at (answers c.args.aggs.now keys members) (omega (arith, c.loop-at-test.false, length-map c.args.keys.now values_in, length-answers c.args.aggs.now keys members beside)) in
    let rows = c.loop-at.invariant.rows ∙ ap (flat_map row_in) whole in
    let faults = c.loop-at.invariant.faults ∙ ap (λ xs. union c.args.faults (union_over faults_in xs)) whole in
    (λ i. record { rows = rows i; faults = faults i })
