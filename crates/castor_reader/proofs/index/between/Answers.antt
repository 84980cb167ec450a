use Rattle.std.proofs.Common.{◌∙◌, ◌-◌, ap, drop, take}
use Rattle.castor_reader.proofs.HalvingLaws.{between_places}
use Rattle.castor_reader.proofs.index.between.Goals as goal

pub returns : goal.returns
returns c = ap (λ k. take (c.args.beyond - k) (drop k c.args.entries.now)) c.min.ensures ∙ between_places c.args.entries.now c.args.first c.args.beyond
