use Rattle.castor_cli.proofs.query_line.put_parse_line.Goals as goal

pub returns-in-Syntax : goal.returns-in-Syntax
returns-in-Syntax g c = rw c.in-Syntax.is (rw (c.as_bytes.ensures.value, c.format.ensures.text) at c.put_three.ensures)

pub returns-in-TooLarge : goal.returns-in-TooLarge
returns-in-TooLarge g c = rw c.in-TooLarge.is c.put_line-in-TooLarge.ensures
