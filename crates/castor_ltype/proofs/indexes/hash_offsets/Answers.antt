use Rattle.std.proofs.Common.{arith}
use Rattle.castor_ltype.proofs.indexes.hash_offsets.Goals as goal

pub overflow_add-result : goal.overflow_add-result
overflow_add-result c = let small = c.bucket_count-buckets.ensures.least.least 63 (omega arith) in omega (arith, small)
