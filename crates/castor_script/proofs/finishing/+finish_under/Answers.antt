use Rattle.std.proofs.Common.{◌∙◌, sym, true}
use Rattle.castor_script.specs.Binders.{run_scopes_of}
use Rattle.castor_script.specs.Settled.{with_scope}
use Rattle.castor_script.proofs.ArmLaws.{concat_arm, cross_arm, dedup_arm, depjoin_arm, filter_arm, group_arm, hash_arm, join_arm, list_arm, ord_arm, order_arm, select_arm, settled_arm}
use Rattle.castor_script.proofs.OperandLaws.{given_is, made_more, made_refused, two_due}
use Rattle.castor_script.proofs.finishing.+finish_under.Goals as goal

pub finish_all-returns-in-Err : goal.finish_all-returns-in-Err
finish_all-returns-in-Err t c =
    made_refused c.args.tables.now (run_scopes_of c.args.binders.now) c.args.operands.now c.args.next c.loop-operand.operand-index c.loop-operand.made c.loop-operand.number c.operand-item.result _ c.in-Err.why
    c.loop-operand-test.true c.operand-item.is c.in-Err.is c.finish_under.ensures c.loop-operand.invariant.0

pub finish_all-loop-operand-preserved : goal.finish_all-loop-operand-preserved
finish_all-loop-operand-preserved t c =
    let given = given_is _ _ _ _ c.in-Ok.is c.finish_under.ensures in (
      made_more c.args.tables.now (run_scopes_of c.args.binders.now) c.args.operands.now c.args.next c.loop-operand.operand-index c.loop-operand.made _ c.loop-operand.number c.operand-item.result _ _
          c.loop-operand-test.true c.operand-item.is given.0 c.in_ok-push-in-Ok.ensures.ok c.loop-operand.invariant.0,
      given.1,
    )

pub finish_under-returns-then-is_settled : goal.finish_under-returns-then-is_settled
finish_under-returns-then-is_settled t c =
    settled_arm c.args.tables.now (run_scopes_of c.args.binders.now) c.args.next c.args.query.now _ (sym c.is_settled.ensures ∙ c.if-is_settled.true) c.store_next.ensures

pub keep-returns-in-Cross : goal.keep-returns-in-Cross
keep-returns-in-Cross t c =
    cross_arm c.args.tables.now (run_scopes_of c.args.binders.now) c.args.next c.args.query.now _ _ _ _ c.in-Cross.is c.as_slice.ensures c.finish_all.ensures c.cross_over.ensures

pub keep-returns-in-Concat : goal.keep-returns-in-Concat
keep-returns-in-Concat t c =
    concat_arm c.args.tables.now (run_scopes_of c.args.binders.now) c.args.next c.args.query.now _ _ _ _ c.in-Concat.is c.as_slice-in-Concat.ensures c.finish_all-in-Concat.ensures c.concat_over.ensures

pub keep-returns-in-Select : goal.keep-returns-in-Select
keep-returns-in-Select t c =
    select_arm c.args.tables.now (run_scopes_of c.args.binders.now) c.args.next c.args.query.now _ _ _ _ _ _ _ c.in-Select.is c.requires.kept c.as_slice-in-Select.ensures c.get.ensures
    c.copy_exprs.ensures c.finish_operand-operand.ensures c.select_over.ensures

pub keep-returns-in-Filter : goal.keep-returns-in-Filter
keep-returns-in-Filter t c =
    filter_arm c.args.tables.now (run_scopes_of c.args.binders.now) c.args.next c.args.query.now _ _ _ _ _ _ c.in-Filter.is c.requires.kept c.get-in-Filter.ensures
    c.copy_expr-in-Filter.ensures c.finish_operand-operand-in-Filter.ensures c.filter_over.ensures

pub keep-returns-in-Join : goal.keep-returns-in-Join
keep-returns-in-Join t c =
    join_arm c.args.tables.now (run_scopes_of c.args.binders.now) c.args.next c.args.query.now _ _ _ _ _ _ _ _ c.in-Join.is c.requires.kept c.get-in-Join.ensures c.get-in-Join-2.ensures
    c.copy_expr-in-Join.ensures
    (two_due c.args.tables.now (run_scopes_of c.args.binders.now) (run_scopes_of c.args.binders.now) _ _ _ _ _ _ _ c.finish_operand-left.ensures c.next_after.ensures.next c.finish_operand-right.ensures c.two_made.ensures)
    c.join_over.ensures

pub keep-returns-in-DepJoin : goal.keep-returns-in-DepJoin
keep-returns-in-DepJoin t c =
    depjoin_arm c.args.tables.now (run_scopes_of c.args.binders.now) c.args.next c.args.query.now _ _ _ _ _ _ _ c.in-DepJoin.is c.requires.kept c.get-in-DepJoin.ensures c.get-in-DepJoin-2.ensures
    (two_due c.args.tables.now (run_scopes_of c.args.binders.now) (with_scope true (run_scopes_of c.args.binders.now) c.in-DepJoin.scope) _ _ _ _ _ _ _ c.finish_operand-source.ensures c.next_after-number.ensures.next c.finish_run_body-body.ensures c.two_made-in-DepJoin.ensures)
    c.depjoin_over.ensures

pub keep-returns-in-Group : goal.keep-returns-in-Group
keep-returns-in-Group t c =
    group_arm c.args.tables.now (run_scopes_of c.args.binders.now) c.args.next c.args.query.now _ _ _ _ _ _ _ _ _ _ _ c.in-Group.is c.requires.kept c.as_slice-in-Group.ensures c.as_slice-in-Group-2.ensures c.get-in-Group.ensures
    c.copy_items-keys.ensures c.copy_items.ensures c.both.ensures.first c.both.ensures.second c.finish_operand-operand-in-Group.ensures c.group_over.ensures

pub keep-returns-in-Order : goal.keep-returns-in-Order
keep-returns-in-Order t c =
    order_arm c.args.tables.now (run_scopes_of c.args.binders.now) c.args.next c.args.query.now _ _ _ _ _ _ _ c.in-Order.is c.requires.kept c.as_slice-in-Order.ensures c.get-in-Order.ensures
    c.copy_items-in-Order.ensures c.finish_operand-operand-in-Order.ensures c.order_over.ensures

pub keep-returns-in-Dedup : goal.keep-returns-in-Dedup
keep-returns-in-Dedup t c =
    dedup_arm c.args.tables.now (run_scopes_of c.args.binders.now) c.args.next c.args.query.now _ _ _ _ c.in-Dedup.is c.requires.kept c.get-in-Dedup.ensures c.finish_operand.ensures c.dedup_over.ensures

pub keep-returns-in-List : goal.keep-returns-in-List
keep-returns-in-List t c =
    list_arm c.args.tables.now (run_scopes_of c.args.binders.now) c.args.next c.args.query.now _ _ _ _ _ _ _ _ _ c.in-List.is c.get-in-List-2.ensures c.get-in-List.ensures
    c.copy.ensures c.boxed.ensures c.finish_body-body.ensures c.list_over.ensures

pub keep-returns-in-Hash : goal.keep-returns-in-Hash
keep-returns-in-Hash t c =
    hash_arm c.args.tables.now (run_scopes_of c.args.binders.now) c.args.next c.args.query.now _ _ _ _ _ _ _ _ _ _ _ _ _ c.in-Hash.is c.get-in-Hash-2.ensures c.get-in-Hash.ensures c.as_slice-in-Hash.ensures
    c.copy-in-Hash.ensures c.boxed-source.ensures c.copy_exprs-in-Hash.ensures c.both-in-Hash.ensures.first c.both-in-Hash.ensures.second c.finish_body-body-in-Hash.ensures c.hash_over.ensures

pub keep-returns-in-Ord : goal.keep-returns-in-Ord
keep-returns-in-Ord t c =
    ord_arm c.args.tables.now (run_scopes_of c.args.binders.now) c.args.next c.args.query.now _ _ _ _ _ _ _ _ _ _ _ _ _ _ _ c.in-Ord.is c.get-in-Ord-2.ensures c.get-in-Ord.ensures
    c.copy-in-Ord.ensures c.boxed-source-in-Ord.ensures c.copy_bound.ensures c.copy_bound-in-Ord.ensures c.both-bounds.ensures.first c.both-bounds.ensures.second c.both-in-Ord.ensures.first c.both-in-Ord.ensures.second
    c.finish_body-body-in-Ord.ensures c.ord_over.ensures
