use Rattle.std.proofs.Common.{◌≡◌, ◌∙◌, ◌-◌, ◌≤◌, slice_get, ap}
use Rattle.castor_code.specs.CodeReadings.{code_tags}
use Rattle.castor_code.proofs.TagLaws.{looked_up, code_tag_at}
use Rattle.castor_code.proofs.tag.code_tag.Goals as goal

pub returns : goal.returns
returns c =
    let place : (1 ≤ c.args.tag) × (c.in_ok-place.place ≡ c.args.tag - 1) = c.in_ok-place.ensures in
    c.copied.ensures ∙ looked_up code_tags c.in_ok-place.place c.get.result c.get.ensures.lookup ∙ ap (slice_get code_tags) place.1 ∙ code_tag_at c.args.tag place.0
