use Rattle.std.proofs.Common.{◌∙◌, [], refl, rules, sym}
use Rattle.std.proofs.lemmas.Iterator.Adapters.{YieldsList-from_vec}
use Rattle.std.proofs.lemmas.Iterator.Consumers.{YieldsList-end}
use Rattle.std.proofs.lemmas.List.{map-id}
use Rattle.castor_val.specs.declared.row.Row.{Row}
use Rattle.castor_alg.specs.declared.rel.Rel.{Rel}
use Rattle.castor_alg.specs.Scopes.{bind, scopes_of, unbound}
use Rattle.castor_alg.specs.HeldData.{held_under}
use Rattle.castor_stage.proofs.ArmLaws.{concat_held, cross_held, dedup_held, depjoin_held, filter_held, group_held, hash_held, join_held, list_held, ord_held, order_held, scalar_held, select_held, table_held}
use Rattle.castor_stage.proofs.LoopLaws.{keys_whole, pair_whole, parts_whole, rows_whole}
use Rattle.castor_stage.proofs.holding.+hold.Goals as goal

pub hold_under-returns-in-Table : goal.hold_under-returns-in-Table
hold_under-returns-in-Table t c = table_held _ _ _ _ _ _ c.in-Table.is c.nothing.ensures

pub hold_under-returns-in_ok-hold_scalar-in-Scalar : goal.hold_under-returns-in_ok-hold_scalar-in-Scalar
hold_under-returns-in_ok-hold_scalar-in-Scalar t c = scalar_held _ _ _ _ _ _ c.in-Scalar.is c.in_ok-hold_scalar-in-Scalar.ensures

pub hold_under-returns-in_ok-hold_parts-in-Cross : goal.hold_under-returns-in_ok-hold_parts-in-Cross
hold_under-returns-in_ok-hold_parts-in-Cross t c = cross_held _ _ _ _ _ _ _ c.in-Cross.is c.as_slice.ensures c.in_ok-hold_parts-in-Cross.ensures

pub hold_under-returns-in_ok-hold_parts-in-Concat : goal.hold_under-returns-in_ok-hold_parts-in-Concat
hold_under-returns-in_ok-hold_parts-in-Concat t c = concat_held _ _ _ _ _ _ _ c.in-Concat.is c.as_slice-in-Concat.ensures c.in_ok-hold_parts-in-Concat.ensures

pub hold_under-returns-in_ok-hold_inner-in-Select : goal.hold_under-returns-in_ok-hold_inner-in-Select
hold_under-returns-in_ok-hold_inner-in-Select t c = select_held _ _ _ _ _ _ _ _ c.in-Select.is c.get.ensures c.in_ok-hold_inner-in-Select.ensures

pub hold_under-returns-in_ok-hold_inner-in-Filter : goal.hold_under-returns-in_ok-hold_inner-in-Filter
hold_under-returns-in_ok-hold_inner-in-Filter t c = filter_held _ _ _ _ _ _ _ _ c.in-Filter.is c.get-in-Filter.ensures c.in_ok-hold_inner-in-Filter.ensures

pub hold_under-returns-in_ok-hold_inner-in-Group : goal.hold_under-returns-in_ok-hold_inner-in-Group
hold_under-returns-in_ok-hold_inner-in-Group t c = group_held _ _ _ _ _ _ _ _ _ c.in-Group.is c.get-in-Group.ensures c.in_ok-hold_inner-in-Group.ensures

pub hold_under-returns-in_ok-hold_inner-in-Order : goal.hold_under-returns-in_ok-hold_inner-in-Order
hold_under-returns-in_ok-hold_inner-in-Order t c = order_held _ _ _ _ _ _ _ _ c.in-Order.is c.get-in-Order.ensures c.in_ok-hold_inner-in-Order.ensures

pub hold_under-returns-in_ok-hold_inner-in-Dedup : goal.hold_under-returns-in_ok-hold_inner-in-Dedup
hold_under-returns-in_ok-hold_inner-in-Dedup t c = dedup_held _ _ _ _ _ _ _ c.in-Dedup.is c.get-in-Dedup.ensures c.in_ok-hold_inner-in-Dedup.ensures

pub hold_under-returns-in-Join : goal.hold_under-returns-in-Join
hold_under-returns-in-Join t c = join_held _ _ _ _ _ _ _ _ c.in-Join.is c.nothing-in-Join.ensures

pub hold_under-returns-in_ok-pair-in-DepJoin : goal.hold_under-returns-in_ok-pair-in-DepJoin
hold_under-returns-in_ok-pair-in-DepJoin t c =
    depjoin_held _ _ _ _ _ _ _ _ _ _ c.in-DepJoin.is c.get-in-DepJoin.ensures c.get-in-DepJoin-2.ensures
    (pair_whole _ _ _ _ _ c.hold_under-first.ensures c.hold_unknown-second.ensures c.in_ok-pair-in-DepJoin.ensures)

pub hold_under-returns-in_ok-hold_rows-in-List : goal.hold_under-returns-in_ok-hold_rows-in-List
hold_under-returns-in_ok-hold_rows-in-List t c = list_held _ _ _ _ _ _ _ _ _ _ _ c.in-List.is c.get-in-List.ensures c.get-in-List-2.ensures c.in_ok-source-in-List.ensures c.in_ok-hold_rows-in-List.ensures

pub hold_under-returns-in_ok-hold_keys-in-Hash : goal.hold_under-returns-in_ok-hold_keys-in-Hash
hold_under-returns-in_ok-hold_keys-in-Hash t c = hash_held _ _ _ _ _ _ _ _ _ _ _ _ c.in-Hash.is c.get-in-Hash.ensures c.get-in-Hash-2.ensures c.in_ok-keys-in-Hash.ensures c.in_ok-hold_keys-in-Hash.ensures

pub hold_under-returns-in_ok-hold_keys-in-Ord : goal.hold_under-returns-in_ok-hold_keys-in-Ord
hold_under-returns-in_ok-hold_keys-in-Ord t c = ord_held _ _ _ _ _ _ _ _ _ _ _ _ _ c.in-Ord.is c.get-in-Ord.ensures c.get-in-Ord-2.ensures c.in_ok-keys-in-Ord.ensures c.in_ok-hold_keys-in-Ord.ensures

pub hold_parts-returns : goal.hold_parts-returns
hold_parts-returns t c = parts_whole (λ (r : Rel). held_under r c.args.tables.now (scopes_of c.args.env.now) unbound []) c.args.rs.now c.loop-r.r-index _ _ _ c.loop-r-test.false c.loop-r.invariant.parts c.loop-r.invariant.faults refl

pub hold_rows-returns : goal.hold_rows-returns
hold_rows-returns t c = rows_whole (λ (a : Row). held_under c.args.s.now c.args.tables.now (bind (scopes_of c.args.env.now) c.args.k a) unbound []) c.args.source.now _ c.loop-row.row-index _ _ _ c.as_slice-row-items.ensures c.loop-row-test.false c.loop-row.invariant.kids c.loop-row.invariant.faults refl

pub hold_keys-returns : goal.hold_keys-returns
hold_keys-returns t c =
    let seen = YieldsList-end (YieldsList-from_vec c.into_rows-key-items.result.items (search rules) (search rules)) c.loop-key.yielded c.loop-key.key-iterator c.loop-key.yielded_by c.next.result c.next.new.self c.in-None.is c.next.ensures.steps in
    keys_whole (λ (a : Row). held_under c.args.s.now c.args.tables.now (bind (scopes_of c.args.env.now) c.args.k a) unbound []) c.args.keys c.loop-key.yielded _ _ _ (sym (map-id _) ∙ seen.0 ∙ c.into_rows-key-items.ensures) c.loop-key.invariant.entries c.loop-key.invariant.faults refl
