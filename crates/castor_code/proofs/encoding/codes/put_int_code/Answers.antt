use Rattle.std.proofs.Common.{◌≡◌, ◌++◌, OnOk, rules}
use Rattle.std.proofs.lemmas.Result.{on_ok_weaker}
use Rattle.castor_fixed.specs.Fields.{field}
use Rattle.castor_code.specs.Forms.{int_form}
use Rattle.castor_code.proofs.PutLaws.{three_put}
use Rattle.castor_code.proofs.encoding.codes.put_int_code.Goals as goal

pub returns : goal.returns
returns c =
    let lo : c.put_int.new.out.items ≡ c.put_tag.new.out.items ++ (int_form c.args.lo).bytes = search (rules, c.in_ok-put_int.ensures) in
    let hi : OnOk c.put_int-2.result (c.put_int-2.new.out.items ≡ c.put_int.new.out.items ++ (int_form c.args.hi).bytes) = search (rules, c.put_int-2.ensures) in
    on_ok_weaker c.put_int-2.result (three_put c.args.out.now.items _ _ _ (field 255 1) (int_form c.args.lo).bytes (int_form c.args.hi).bytes c.in_ok-put_tag.ensures lo) hi
