use Rattle.std.proofs.Common.{subst, sym}
use Rattle.castor_dir.specs.Buckets.{IsLeastPowerOfTwo}
use Rattle.castor_dir.proofs.PowerLaws.{bucket_count-is, bucket_count-least}
use Rattle.castor_dir.proofs.buckets.bucket_count.Goals as goal

pub returns-clause-value : goal.returns-clause-value
returns-clause-value c =
    let next = c.next_power_of_two.ensures in
    bucket_count-is c.args.entries c.next_power_of_two.result next.power next.lower_bound next.upper_bound

pub returns-clause-least : goal.returns-clause-least
returns-clause-least c =
    let next = c.next_power_of_two.ensures in
    subst (IsLeastPowerOfTwo c.args.entries) (sym (bucket_count-is c.args.entries c.next_power_of_two.result next.power next.lower_bound next.upper_bound)) (bucket_count-least c.args.entries)
