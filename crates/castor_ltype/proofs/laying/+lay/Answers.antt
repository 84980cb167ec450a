use Rattle.std.proofs.Common.{◌≡◌, ◌∙◌, ◌+◌, Bor, [], ap, map, refl, sym, take}
use Rattle.castor_alg.specs.declared.held.Entry.{Entry}
use Rattle.castor_alg.specs.declared.held.Held.{Held}
use Rattle.castor_alg.specs.declared.rel.Rel.{Rel}
use Rattle.castor_alg.specs.TypeEnvs.{context_of}
use Rattle.castor_alg.specs.Typing.{extended, type_under}
use Rattle.castor_code.specs.Shapes.{leaf_of}
use Rattle.castor_ltype.specs.declared.laid.LaidParts.{LaidParts}
use Rattle.castor_ltype.specs.Generation.{code_over, generator, part_codes, scalar_code}
use Rattle.castor_ltype.specs.Sizes.{IsLaid, parts_size}
use Rattle.castor_ltype.proofs.GeneratorLaws.{source_types}
use Rattle.castor_ltype.proofs.LaidLaws.{concat_laid, cross_laid, dedup_laid, depjoin_laid, filter_laid, group_laid, hash_laid, join_laid, list_laid, ord_laid, order_laid, scalar_laid, select_laid, table_laid}
use Rattle.castor_ltype.proofs.LayingLaws.{both_known, child_sizes, if_laid, more_parts, over_both, over_parts, part_codes_more, part_sizes_more, sizes_under}
use Rattle.castor_ltype.proofs.laying.+lay.Goals as goal

pub lay-returns-in-Table : goal.lay-returns-in-Table
lay-returns-in-Table t c =
    if_laid _ _ _ (λ laid so. table_laid _ _ _ _ laid c.in-Table.is so) c.no_code.ensures

pub lay-returns-in-Join : goal.lay-returns-in-Join
lay-returns-in-Join t c =
    if_laid _ _ _ (λ laid so. join_laid _ _ _ _ _ _ laid c.in-Join.is so) c.no_code-in-Join.ensures

pub lay-returns-in-Scalar : goal.lay-returns-in-Scalar
lay-returns-in-Scalar t c =
    let here = context_of c.args.env.now in
    let hs = map (λ (h : Bor Held). h.now) c.args.held.now in
    if_laid c.scalar_of.result (IsLaid (scalar_code (type_under _ [] here) (map leaf_of hs)) hs) (IsLaid (code_over c.args.q.now here hs) hs) (λ laid so. scalar_laid here hs c.args.q.now _ laid c.in-Scalar.is so) c.scalar_of.ensures

pub lay-returns-in-Cross : goal.lay-returns-in-Cross
lay-returns-in-Cross t c =
    over_parts _ _ _ _ _ _ _ c.lay_parts.ensures.codes c.lay_parts.ensures.sizes c.cross_of.ensures.code c.cross_of.ensures.sizes
    (λ laid p codes sizes one two. cross_laid _ _ _ _ _ p.codes p.sizes.items laid c.in-Cross.is c.as_slice.ensures codes sizes one two)

pub lay-returns-in-Concat : goal.lay-returns-in-Concat
lay-returns-in-Concat t c =
    over_parts _ _ _ _ _ _ _ c.lay_parts-in-Concat.ensures.codes c.lay_parts-in-Concat.ensures.sizes c.concat_of.ensures.code c.concat_of.ensures.sizes
    (λ laid p codes sizes one two. concat_laid _ _ _ _ _ p.codes p.sizes.items laid c.in-Concat.is c.as_slice-in-Concat.ensures codes sizes one two)

pub lay-returns-in-Select : goal.lay-returns-in-Select
lay-returns-in-Select t c =
    over_both _ _ _ _ _ _ c.lay_inner-kid.ensures c.select_of.ensures.code c.select_of.ensures.sizes
    (λ laid k so one two. select_laid _ _ _ _ _ _ _ k laid c.in-Select.is c.as_slice-in-Select.ensures c.get.ensures so one two)

pub lay-returns-in-Filter : goal.lay-returns-in-Filter
lay-returns-in-Filter t c =
    over_both _ _ _ _ _ _ c.lay_inner-kid-in-Filter.ensures c.filter_of.ensures.code c.filter_of.ensures.sizes
    (λ laid k so one two. filter_laid _ _ _ _ _ _ _ k laid c.in-Filter.is refl c.get-in-Filter.ensures so one two)

pub lay-returns-in-Group : goal.lay-returns-in-Group
lay-returns-in-Group t c =
    over_both _ _ _ _ _ _ c.lay_inner-kid-in-Group.ensures c.group_of.ensures.code c.group_of.ensures.sizes
    (λ laid k so one two. group_laid _ _ _ _ _ _ _ _ _ k laid c.in-Group.is c.as_slice-in-Group.ensures c.as_slice-in-Group-2.ensures c.get-in-Group.ensures so one two)

pub lay-returns-in-Order : goal.lay-returns-in-Order
lay-returns-in-Order t c =
    over_both _ _ _ _ _ _ c.lay_inner-kid-in-Order.ensures c.order_of.ensures.code c.order_of.ensures.sizes
    (λ laid k so one two. order_laid _ _ _ _ _ _ _ k laid c.in-Order.is c.as_slice-in-Order.ensures c.get-in-Order.ensures so one two)

pub lay-returns-in-Dedup : goal.lay-returns-in-Dedup
lay-returns-in-Dedup t c =
    over_both _ _ _ _ _ _ c.lay_inner.ensures c.dedup_of.ensures.code c.dedup_of.ensures.sizes
    (λ laid k so one two. dedup_laid _ _ _ _ _ k laid c.in-Dedup.is c.get-in-Dedup.ensures so one two)

pub lay-returns-in_ok-columns-in-DepJoin : goal.lay-returns-in_ok-columns-in-DepJoin
lay-returns-in_ok-columns-in-DepJoin t c =
    both_known _ _ _ _ c.depjoin_of.ensures.code c.depjoin_of.ensures.sizes
    (λ laid one two. depjoin_laid _ _ _ _ _ _ _ _ _ _ _ laid c.in-DepJoin.is c.get-in-DepJoin-2.ensures c.get-in-DepJoin-3.ensures
    (c.as_slice-in-DepJoin.ensures.value ∙ c.in_ok-columns-in-DepJoin.ensures ∙ ap (λ (r : Rel). source_types r (context_of c.args.env.now)) (c.get-in-DepJoin.ensures ∙ sym c.get-in-DepJoin-2.ensures))
    c.lay_part-first.ensures c.lay_second-second.ensures one two)

pub lay-returns-in_ok-columns-in-List : goal.lay-returns-in_ok-columns-in-List
lay-returns-in_ok-columns-in-List t c =
    if_laid _ _ _ (λ laid so. list_laid _ _ _ _ _ _ _ _ _ laid c.in-List.is c.get-in-List.ensures c.get-in-List-2.ensures (c.as_slice-in-List.ensures.value ∙ c.in_ok-columns-in-List.ensures) so) c.lay_list.ensures

pub lay-returns-in_ok-columns-in-Hash : goal.lay-returns-in_ok-columns-in-Hash
lay-returns-in_ok-columns-in-Hash t c =
    if_laid _ _ _ (λ laid so. hash_laid _ _ _ _ _ _ _ _ _ _ _ laid c.in-Hash.is c.get-in-Hash.ensures c.get-in-Hash-2.ensures c.as_slice-in-Hash.ensures (c.as_slice-columns.ensures.value ∙ c.in_ok-columns-in-Hash.ensures) so) c.lay_hash.ensures

pub lay-returns-in_ok-columns-in-Ord : goal.lay-returns-in_ok-columns-in-Ord
lay-returns-in_ok-columns-in-Ord t c =
    if_laid _ _ _ (λ laid so. ord_laid _ _ _ _ _ _ _ _ _ _ _ _ _ laid c.in-Ord.is c.get-in-Ord.ensures c.get-in-Ord-2.ensures refl refl (c.as_slice-columns-in-Ord.ensures.value ∙ c.in_ok-columns-in-Ord.ensures) so) c.lay_ord.ensures

pub lay_list-list_of-requires : goal.lay_list-list_of-requires
lay_list-list_of-requires t c =
    if_laid _ _ _ (λ kid so. child_sizes (code_over c.args.s.now (extended (context_of c.args.env.now) c.args.scope c.args.columns.now)) _ _ kid (ap (map (λ (h : Bor Held). h.now)) c.as_slice.ensures.value ∙ c.in_ok-all.ensures) so) c.lay_body-kid.ensures

pub lay_hash-hash_of-requires-clause-kids : goal.lay_hash-hash_of-requires-clause-kids
lay_hash-hash_of-requires-clause-kids t c =
    if_laid _ _ _ (λ kid so. sizes_under (code_over c.args.s.now (extended (context_of c.args.env.now) c.args.scope c.args.columns.now)) _ _ kid kid (ap (map (λ (e : Bor Entry). e.now)) c.as_slice.ensures.value ∙ c.in_ok-all.ensures) so) c.lay_under_keys-kid.ensures

pub lay_ord-ord_of-requires-clause-kids : goal.lay_ord-ord_of-requires-clause-kids
lay_ord-ord_of-requires-clause-kids t c =
    if_laid _ _ _ (λ kid so. sizes_under (code_over c.args.s.now (extended (context_of c.args.env.now) c.args.scope c.args.columns.now)) _ _ kid kid (ap (map (λ (e : Bor Entry). e.now)) c.as_slice.ensures.value ∙ c.in_ok-all.ensures) so) c.lay_under_keys-kid.ensures

pub lay_parts-loop-r-preserved : goal.lay_parts-loop-r-preserved
lay_parts-loop-r-preserved t c =
    let here = context_of c.args.env.now in
    let hs = map (λ (h : Bor Held). h.now) c.args.held.now in
    let i = c.loop-r.r-index in
    let coded : LaidParts → Type 0 = λ p. p.codes ≡ part_codes 0 (map generator (take i c.args.rs.now)) here hs in
    let sized : LaidParts → Type 0 = λ p. p.sizes.items ≡ map (parts_size 0 p.codes) hs in
    record {
      at = ap (λ n. n + 1) c.loop-r.invariant.at;
      codes = more_parts c.with_part_of-laid.result c.loop-r.laid c.lay_part-part.result coded sized _ _ _ (λ p. p.codes ≡ part_codes 0 (map generator (take (i + 1) c.args.rs.now)) here hs)
          c.loop-r.invariant.codes c.loop-r.invariant.sizes c.lay_part-part.ensures c.with_part_of-laid.ensures.codes c.with_part_of-laid.ensures.sizes
          (λ laid p k known sizes so one two. part_codes_more c.args.rs.now i c.loop-r.at _ here hs p laid k c.loop-r-test.true c.r-item.is c.loop-r.invariant.at known sizes so one two);
      sizes = more_parts c.with_part_of-laid.result c.loop-r.laid c.lay_part-part.result coded sized _ _ _ (λ p. p.sizes.items ≡ map (parts_size 0 p.codes) hs)
          c.loop-r.invariant.codes c.loop-r.invariant.sizes c.lay_part-part.ensures c.with_part_of-laid.ensures.codes c.with_part_of-laid.ensures.sizes
          (λ laid p k known sizes so one two. part_sizes_more c.args.rs.now i c.loop-r.at _ here hs p laid k c.loop-r-test.true c.r-item.is c.loop-r.invariant.at known sizes so one two);
    }
