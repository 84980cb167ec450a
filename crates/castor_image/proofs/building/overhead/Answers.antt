use Rattle.std.proofs.Common.{◌≡◌, length, rules}
use Rattle.castor_code.specs.CodeForms.{code_bytes}
use Rattle.castor_image.specs.Images.{magic}
use Rattle.castor_image.proofs.SectionLaws.{around_is}
use Rattle.castor_image.proofs.building.overhead.Goals as goal

pub returns : goal.returns
returns c =
    let code = code_bytes c.args.code.now in
    let long : c.len.result ≡ length code = search (rules, c.len.ensures, c.in_ok-code.ensures) in
    let same : c.as_slice.result.now ≡ code = search (rules, c.as_slice.ensures.value, c.in_ok-code.ensures) in
    let marked : c.extend_from_slice.new.self.items ≡ magic = search (rules, c.in_ok-extend_from_slice.ensures.items) in
    let size : c.len-2.result ≡ length c.extend_from_slice-2.new.self.items = search (rules, c.len-2.ensures) in
    around_is c.args.head.now code _ _ _ _ _ _ marked c.in_ok-put_head.ensures (rw long at c.in_ok-put_length.ensures) c.in_ok-put_length-2.ensures (rw same at c.in_ok-extend_from_slice-2.ensures.items) size
