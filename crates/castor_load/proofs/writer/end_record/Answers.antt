use Rattle.std.proofs.Common.{◌≡◌, ◌∙◌, ◌++◌, ◌==◌, length, ap}
use Rattle.castor_load.specs.Written.{record_ending}
use Rattle.castor_load.proofs.Written.{record_end}
use Rattle.castor_load.proofs.writer.end_record.Goals as goal

pub returns : goal.returns
returns c = λ before fields at has.
    let size : c.len.result ≡ length c.args.text.now.items = c.len.ensures ∙ c.args.text.now.ok.0 in
    record_end c.args.text.now.items c.extend_from_slice.new.self.items before fields c.args.start at has
    (c.in_ok-extend_from_slice.ensures.items ∙ rw c.record_ending.ensures (ap (λ n. c.args.text.now.items ++ record_ending (n == c.args.start)) size))
