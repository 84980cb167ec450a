use Rattle.std.proofs.Common.{◌∙◌, ap, arith, map, rules, sym}
use Rattle.std.proofs.lemmas.List.{take_rest}
use Rattle.std.proofs.lemmas.List.Sorted.{IsPartitionPoint-from_clause}
use Rattle.castor_val.specs.Values.{value_of}
use Rattle.castor_reader.specs.Entries.{held_first}
use Rattle.castor_reader.proofs.KeyLaws.{before_parted, found_first, stands_before}
use Rattle.castor_reader.proofs.index.find.Goals as goal

pub returns : goal.returns
returns c =
    let key = map value_of c.args.key.now in
    let es = c.args.entries.now in
    let at = c.partition_point-at.result in
    let point = IsPartitionPoint-from_clause (stands_before key) es at c.partition_point-at.ensures.partitioned (before_parted key es c.requires) (λ a r q k. (search rules, search rules)) in
    c.first_under.ensures
    ∙ ap (λ xs. held_first xs key) (take_rest es at)
    ∙ sym (found_first key es at c.requires (λ k d l m. point.0 k d (omega arith) l) (λ k d l m. point.1 k d l m))
