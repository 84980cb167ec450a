use Rattle.std.proofs.Common.{◌≡◌, length, rules}
use Rattle.std.proofs.lemmas.Result.{on_ok_weaker}
use Rattle.castor_code.specs.CodeForms.{code_bytes}
use Rattle.castor_code.specs.Data.{data_of}
use Rattle.castor_image.proofs.SectionLaws.{put_so_far, sections_put}
use Rattle.castor_image.proofs.building.put_sections.Goals as goal

pub returns : goal.returns
returns c =
    let old = c.args.image.now.items in
    let code = code_bytes c.args.code.now in
    let data_part = data_of c.args.code.now c.args.held.now in
    let image = c.put_fitting.new.image.items in
    let long : c.len.result ≡ length code = search (rules, c.len.ensures, c.in_ok-code_bytes.ensures) in
    let same : c.as_slice.result.now ≡ code = search (rules, c.as_slice.ensures.value, c.in_ok-code_bytes.ensures) in
    let place : c.len-at.result ≡ length c.put_length.new.image.items = search (rules, c.len-at.ensures) in
    let front : c.len-first.result ≡ length c.extend_from_slice.new.self.items = search (rules, c.len-first.ensures) in
    let whole : c.len-2.result ≡ length image = search (rules, c.len-2.ensures) in
    let so = put_so_far old code data_part _ _ _ image _ 0 c.len.result c.len-at.result c.len-first.result long same c.in_ok-put_length.ensures c.in_ok-put_length-2.ensures c.in_ok-extend_from_slice.ensures.items c.in_ok-put_fitting.ensures place front in
    on_ok_weaker c.fill_length.result (sections_put old code data_part 0 image c.len-at.result c.len-first.result so c.len-2.result c.fill_length.new.image.items whole) c.fill_length.ensures
