use Rattle.std.proofs.Common.{◌≡◌, ◌∙◌, ◌-◌, ◌++◌, length, ap, sym, rules, arith}
use Rattle.castor_code.specs.Directories.{offset_fields}
use Rattle.castor_code.specs.Pieces.{ranged_field, within}
use Rattle.castor_image.proofs.PutLaws.{fill_is, front_long, front_put}
use Rattle.castor_image.proofs.writing.numbers.fill_front.Goals as goal

pub fill-requires : goal.fill-requires
fill-requires c =
    let n = length c.args.out.now.items - c.args.first in
    let same : c.len.result ≡ length c.args.out.now.items = search (rules, c.len.ensures) in
    let front : c.as_slice.result.now ≡ ranged_field c.args.body n ++ offset_fields c.args.body c.args.offsets.now = front_put c.args.body (c.len.result - c.args.first) n c.args.offsets.now _ _ _ _ c.new-front.ensures.items c.in_ok-put_ranged.ensures.1 (ap (λ k. k - c.args.first) same) c.in_ok-put_offsets.ensures c.as_slice.ensures.value in
    let long = ap length front ∙ front_long c.args.body n c.args.offsets.now in
    omega (arith, c.requires.room, c.requires.there)

pub returns : goal.returns
returns c =
    let n = length c.args.out.now.items - c.args.first in
    let same : c.len.result ≡ length c.args.out.now.items = search (rules, c.len.ensures) in
    let front : c.as_slice.result.now ≡ ranged_field c.args.body n ++ offset_fields c.args.body c.args.offsets.now = front_put c.args.body (c.len.result - c.args.first) n c.args.offsets.now _ _ _ _ c.new-front.ensures.items c.in_ok-put_ranged.ensures.1 (ap (λ k. k - c.args.first) same) c.in_ok-put_offsets.ensures c.as_slice.ensures.value in
    (ap (λ k. within c.args.body (k - c.args.first)) (sym same) ∙ c.in_ok-put_ranged.ensures.0, fill_is c.args.body n c.args.at c.args.first c.args.offsets.now c.args.out.now.items c.as_slice.result.now _ front c.requires.room c.fill.ensures)
