use Rattle.std.proofs.Common.{◌∙◌, ◌++◌, ap}
use Rattle.std.proofs.lemmas.Bool.{and_from}
use Rattle.std.proofs.lemmas.Str.{is_utf8-from_IsUtf8}
use Rattle.castor_code.proofs.PutLaws.{two_put}
use Rattle.castor_image.proofs.writing.values.put_str.Goals as goal

pub returns : goal.returns
returns c = (
  and_from _ _ c.in_ok-put_ranged.ensures.0 (is_utf8-from_IsUtf8 c.args.text.now c.utf8.text),
  two_put c.args.out.now.items _ _ _ c.args.text.now c.in_ok-put_ranged.ensures.1 (c.in_ok-extend_from_slice.ensures.items ∙ ap (λ xs. c.put_ranged.new.out.items ++ xs) c.as_bytes.ensures.value),
)
