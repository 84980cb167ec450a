use Rattle.std.proofs.Common.{◌≤◌, ◌^◌, arith}
use Rattle.std.proofs.Math.Facts.{Fits-of_lt}
use Rattle.castor_image.proofs.reading.index.hash_offsets.Goals as goal

pub overflow_add-result : goal.overflow_add-result
overflow_add-result c = let most : c.bucket_count.result ≤ 2 ^ 62 = c.bucket_count.ensures.least.least 62 c.requires in Fits-of_lt (omega arith)
