use Rattle.std.proofs.Common.{◌∙◌, arith, rules}
use Rattle.std.proofs.lemmas.List.Sorted.{IsPartitionPoint-from_clause}
use Rattle.castor_reader.proofs.KeyLaws.{between_within, stands_under, stands_within, under_parted, within_parted}
use Rattle.castor_reader.proofs.index.entries_between.Goals as goal

pub returns : goal.returns
returns c =
    let es = c.args.entries.now in
    let from = c.args.from.now in
    let to = c.args.to.now in
    let low = IsPartitionPoint-from_clause (stands_under from) es c.partition_point-first.result c.partition_point-first.ensures.partitioned (under_parted from es c.requires.single c.requires.rises) (λ a r q k. (search rules, search rules)) in
    let high = IsPartitionPoint-from_clause (stands_within to) es c.partition_point-beyond.result c.partition_point-beyond.ensures.partitioned (within_parted to es c.requires.single c.requires.rises) (λ a r q k. (search rules, search rules)) in
    c.between.ensures
    ∙ between_within from to es c.partition_point-first.result c.partition_point-beyond.result
    (λ k d l m. low.0 k d (omega arith) l) (λ k d l m. low.1 k d l m) (λ k d l m. high.0 k d (omega arith) l) (λ k d l m. high.1 k d l m)
