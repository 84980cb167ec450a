use Rattle.castor_cli.proofs.telling.tell_table.Goals as goal

pub returns-in-BadHeader : goal.returns-in-BadHeader
returns-in-BadHeader g c = rw c.in-BadHeader.is (rw c.as_bytes-table.ensures.value at c.put_three.ensures)

pub returns-in-BadRecord : goal.returns-in-BadRecord
returns-in-BadRecord g c =
    rw c.in-BadRecord.is (rw (c.as_bytes-table.ensures.value, c.as_bytes.ensures.value, c.format.ensures.text) at c.put_record.ensures)

pub returns-in-BadField : goal.returns-in-BadField
returns-in-BadField g c =
    rw c.in-BadField.is (rw (
      c.as_bytes-table.ensures.value,
      c.as_bytes-in-BadField.ensures.value,
      c.format-in-BadField.ensures.text,
      c.as_bytes-in-BadField-2.ensures.value,
      c.format-in-BadField-2.ensures.text,
    ) at c.put_field.ensures)
