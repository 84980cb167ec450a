use Rattle.std.proofs.Common.{◌∙◌, List, [], ◌∷◌, map, ℕ, Err, ap, refl, arith}
use Rattle.std.proofs.lemmas.Result.{err_from_is_err_and}
use Rattle.castor_alg.specs.declared.held.Held.{Held}
use Rattle.castor_code.specs.declared.code.Code.{Code}
use Rattle.castor_code.specs.Data.{format, hash_format, ord_format, readers, data_read}
use Rattle.castor_code.specs.Readings.{hash_offsets, in_order, ord_offsets}
use Rattle.castor_code.proofs.LoopLaws.{loop_more}
use Rattle.castor_image.specs.IndexReadings.{keyed_read}
use Rattle.castor_image.proofs.ArmLaws.{concat_node, cross_node, dep_node, hash_node, ord_node, take_node}
use Rattle.castor_image.proofs.IndexReadLaws.{index_lacks, index_there, index_unread}
use Rattle.castor_image.proofs.ReadLaws.{no_first, no_second, second_there, take_second}
use Rattle.castor_image.proofs.TakeLaws.{many_stopped, turn_more, turn_stopped}
use Rattle.castor_image.proofs.reading.Input.+read.Goals as goal

pub data-returns-in-Cross : goal.data-returns-in-Cross
data-returns-in-Cross t c = take_node c.args.code.now (λ (h : Held). h) _ c.args.self.now.rest.now _ c.parts.result (cross_node c.args.code.now _ _ c.in-Cross.is c.as_slice.ensures) c.parts.ensures

pub data-returns-in-Concat : goal.data-returns-in-Concat
data-returns-in-Concat t c = take_node c.args.code.now (λ (h : Held). h) _ c.args.self.now.rest.now _ c.parts-in-Concat.result (concat_node c.args.code.now _ _ c.in-Concat.is c.as_slice-in-Concat.ensures) c.parts-in-Concat.ensures

pub data-returns-in-Hash : goal.data-returns-in-Hash
data-returns-in-Hash t c =
    take_node c.args.code.now (λ (h : Held). h) _ c.args.self.now.rest.now _ c.hash.result
    (hash_node c.args.code.now c.in-Hash.count c.in-Hash.body _ _ _ _ _ c.in-Hash.is c.as_slice-in-Hash.ensures c.get-in-Hash.ensures) c.hash.ensures

pub data-returns-in-Ord : goal.data-returns-in-Ord
data-returns-in-Ord t c =
    take_node c.args.code.now (λ (h : Held). h) _ c.args.self.now.rest.now _ c.ord.result
    (ord_node c.args.code.now c.in-Ord.count c.in-Ord.body _ _ _ _ _ _ c.in-Ord.is (c.from_ref.ensures.value ∙ ap (λ (k : Code). k ∷ []) c.get-in-Ord-2.ensures) c.get-in-Ord.ensures) c.ord.ensures

pub data-returns-in-Ok : goal.data-returns-in-Ok
data-returns-in-Ok t c =
    take_node c.args.code.now (λ (h : Held). h) _ c.args.self.now.rest.now _ c.second.result
    (dep_node c.args.code.now _ _ _ _ _ c.in-Dep.is c.get-in-Dep.ensures c.get-in-Ok.ensures)
    (take_second (data_read c.get-in-Dep.result.now) (data_read c.get-in-Ok.result.now) c.args.self.now.rest.now (λ (h : Held). h) c.in-Ok.part _ _ c.second.result c.in-Ok.ensures c.second.ensures)

pub data-returns-in-Err : goal.data-returns-in-Err
data-returns-in-Err t c =
    take_node c.args.code.now (λ (h : Held). h) _ c.args.self.now.rest.now c.args.self.now.rest.now (Err c.in-Err.why)
    (dep_node c.args.code.now _ _ _ _ c.in-Dep.second c.in-Dep.is c.get-in-Dep.ensures refl)
    (no_first (data_read c.get-in-Dep.result.now) (data_read c.in-Dep.second) c.args.self.now.rest.now c.in-Err.why c.in-Err.ensures)

pub second-returns-in-Ok : goal.second-returns-in-Ok
second-returns-in-Ok t c = second_there c.args.first c.in-Ok.part (data_read c.args.kid.now) c.args.self.now.rest.now _ c.pair.result c.in-Ok.ensures c.pair.ensures

pub second-returns-in-Err : goal.second-returns-in-Err
second-returns-in-Err t c = no_second c.args.first (data_read c.args.kid.now) c.args.self.now.rest.now c.in-Err.why c.in-Err.ensures

-- ---- loops
pub in_order-loop-kid-preserved : goal.in_order-loop-kid-preserved
in_order-loop-kid-preserved t c =
    turn_more (λ (ks : List Code) (s : List ℕ). in_order (readers (map format ks)) s) (λ (k : Code) (s : List ℕ). data_read k s) (λ k ks s. refl)
    _ c.loop-kid.parts _ c.in-Ok.part c.args.kids.now c.loop-kid.kid-index c.kid-item.result c.loop-kid.self.rest.now _
    c.loop-kid.invariant c.loop-kid-test.true c.kid-item.is c.in-Ok.ensures c.in_ok-push.ensures.ok

pub in_order-returns-in-Err : goal.in_order-returns-in-Err
in_order-returns-in-Err t c =
    turn_stopped (λ (ks : List Code) (s : List ℕ). in_order (readers (map format ks)) s) (λ (k : Code) (s : List ℕ). data_read k s) (λ k ks s. refl)
    _ c.loop-kid.parts c.args.kids.now c.loop-kid.kid-index c.kid-item.result c.loop-kid.self.rest.now c.in-Err.why
    c.loop-kid.invariant c.loop-kid-test.true c.kid-item.is c.in-Err.ensures

pub many-loop-preserved : goal.many-loop-preserved
many-loop-preserved t c = loop_more (data_read c.args.kid.now) _ c.loop.rows _ c.in-Ok.row c.args.number c.loop.counter c.loop.self.rest.now _ c.loop.invariant (omega arith) c.in-Ok.ensures c.in_ok-push.ensures.ok

pub many-returns-in-Err : goal.many-returns-in-Err
many-returns-in-Err t c = many_stopped (data_read c.args.kid.now) _ c.loop.rows c.args.number c.loop.counter c.loop.self.rest.now c.in-Err.why c.loop.invariant (omega arith) c.in-Err.ensures

pub many_entries-loop-preserved : goal.many_entries-loop-preserved
many_entries-loop-preserved t c =
    loop_more (keyed_read (readers (map format c.args.key.now)) (data_read c.args.kid.now)) _ c.loop.entries.items _ c.in-Ok.entry c.args.number c.loop.counter c.loop.self.rest.now _ c.loop.invariant (omega arith) c.in-Ok.ensures c.in_ok-push.ensures.items

pub many_entries-returns-in-Err : goal.many_entries-returns-in-Err
many_entries-returns-in-Err t c =
    many_stopped (keyed_read (readers (map format c.args.key.now)) (data_read c.args.kid.now)) _ c.loop.entries.items c.args.number c.loop.counter c.loop.self.rest.now c.in-Err.why c.loop.invariant (omega arith) c.in-Err.ensures

-- ---- indexes
pub hash-returns-in-Ok : goal.hash-returns-in-Ok
hash-returns-in-Ok t c =
    index_there c.args.count c.args.body hash_offsets (readers (map format c.args.key.now)) (data_read c.args.kid.now) (hash_format c.args.count c.args.body (map format c.args.key.now) (format c.args.kid.now)).write c.args.self.now.rest.now
    c.in_ok-held.held _ _ _ c.as_slice.result.now c.put_hash-put.result c.in_ok-held.ensures c.new-bytes.ensures.items c.put_hash-put.ensures c.as_slice.ensures.value (λ x. x.now) c.in-Ok.rest c.in-Ok.ensures

pub hash-returns-in-Err : goal.hash-returns-in-Err
hash-returns-in-Err t c =
    index_lacks c.args.count c.args.body hash_offsets (readers (map format c.args.key.now)) (data_read c.args.kid.now) (hash_format c.args.count c.args.body (map format c.args.key.now) (format c.args.kid.now)).write c.args.self.now.rest.now
    c.in_ok-held.held _ _ _ c.as_slice.result.now c.put_hash-put.result c.in_ok-held.ensures c.new-bytes.ensures.items c.put_hash-put.ensures c.as_slice.ensures.value (λ (xs : List ℕ). xs) c.in-Err.why c.in-Err.ensures

pub ord-returns-in-Ok : goal.ord-returns-in-Ok
ord-returns-in-Ok t c =
    index_there c.args.count c.args.body ord_offsets (readers (map format c.args.key.now)) (data_read c.args.kid.now) (ord_format c.args.count c.args.body (map format c.args.key.now) (format c.args.kid.now)).write c.args.self.now.rest.now
    c.in_ok-held.held _ _ _ c.as_slice.result.now c.put_ord-put.result c.in_ok-held.ensures c.new-bytes.ensures.items c.put_ord-put.ensures c.as_slice.ensures.value (λ x. x.now) c.in-Ok.rest c.in-Ok.ensures

pub ord-returns-in-Err : goal.ord-returns-in-Err
ord-returns-in-Err t c =
    index_lacks c.args.count c.args.body ord_offsets (readers (map format c.args.key.now)) (data_read c.args.kid.now) (ord_format c.args.count c.args.body (map format c.args.key.now) (format c.args.kid.now)).write c.args.self.now.rest.now
    c.in_ok-held.held _ _ _ c.as_slice.result.now c.put_ord-put.result c.in_ok-held.ensures c.new-bytes.ensures.items c.put_ord-put.ensures c.as_slice.ensures.value (λ (xs : List ℕ). xs) c.in-Err.why c.in-Err.ensures

pub hash-returns-in_err-held : goal.hash-returns-in_err-held
hash-returns-in_err-held t c =
    let p = err_from_is_err_and c.from_residual.result c.from_residual.ensures.1 in
    rw (p.1, p.2) (index_unread c.args.count c.args.body hash_offsets (readers (map format c.args.key.now)) (data_read c.args.kid.now) (hash_format c.args.count c.args.body (map format c.args.key.now) (format c.args.kid.now)).write c.args.self.now.rest.now _ c.in_err-held.ensures)

pub ord-returns-in_err-held : goal.ord-returns-in_err-held
ord-returns-in_err-held t c =
    let p = err_from_is_err_and c.from_residual.result c.from_residual.ensures.1 in
    rw (p.1, p.2) (index_unread c.args.count c.args.body ord_offsets (readers (map format c.args.key.now)) (data_read c.args.kid.now) (ord_format c.args.count c.args.body (map format c.args.key.now) (format c.args.kid.now)).write c.args.self.now.rest.now _ c.in_err-held.ensures)
