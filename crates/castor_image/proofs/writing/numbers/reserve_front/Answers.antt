use Rattle.std.proofs.Common.{◌≡◌, ◌*◌, ◌-◌, rules}
use Rattle.std.proofs.lemmas.Result.{on_ok_weaker}
use Rattle.castor_fixed.specs.Fields.{width}
use Rattle.castor_image.proofs.PutLaws.{room_put}
use Rattle.castor_image.proofs.writing.numbers.reserve_front.Goals as goal

pub returns-in_ok-reserve-in-Some : goal.returns-in_ok-reserve-in-Some
returns-in_ok-reserve-in-Some c =
    let bytes : c.in-Some.bytes ≡ c.args.offsets * width c.args.body.hi = search (rules, c.in-Some.ensures, c.field_width.ensures.value) in
    on_ok_weaker c.reserve-in-Some.result (room_put c.args.out.now.items _ _ c.ranged_width.result c.in-Some.bytes (width (c.args.body.hi - c.args.body.lo)) (c.args.offsets * width c.args.body.hi) c.ranged_width.ensures.value bytes c.in_ok-reserve-in-Some.ensures) c.reserve-in-Some.ensures
