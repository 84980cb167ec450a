use Rattle.std.proofs.Common.{◌∙◌, append_assoc}
use Rattle.csv.specs.Writing.{default_writer, field_text, next_sep}
use Rattle.castor_load.proofs.Written.{one_field}
use Rattle.castor_load.proofs.writer.put_next.Goals as goal

pub returns : goal.returns
returns c = λ before fields at has.
    one_field c.args.text.now.items c.put_field.new.text.items before fields c.args.field.now has
    (c.in_ok-put_field.ensures ∙ rw (c.in_ok-extend_from_slice.ensures.items, c.separator.ensures, at)
    (append_assoc c.args.text.now.items (next_sep default_writer c.args.place) (field_text default_writer c.args.field.now)))
