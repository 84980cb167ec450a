use Rattle.std.proofs.Common.{◌∙◌, sym, ap, map, option_map}
use Rattle.std.proofs.lemmas.List.{map-append}
use Rattle.castor_val.specs.Values.{value_of}
use Rattle.castor_load.specs.Plain.{fields_left}
use Rattle.castor_load.proofs.LineValues.{refused-at, row_after-end, taken-at}
use Rattle.castor_load.proofs.cells.take_cells.Goals as goal

pub loop-param-preserved : goal.loop-param-preserved
loop-param-preserved c = rw (c.in_ok-push.ensures.items, map-append value_of c.loop-param.into.items)
    (c.loop-param.invariant ∙ taken-at c.args.params.now c.loop-param.param-index c.param-item.result (map value_of c.loop-param.into.items)
    (fields_left c.loop-param.fields) (fields_left c.next.new.self) c.in-Some.field.now (value_of c.in-Some-cell_of_field.cell)
    c.loop-param-test.true c.param-item.is c.in-Some.ensures (sym c.in-Some-cell_of_field.ensures))

pub returns-in_default-cell_of_field : goal.returns-in_default-cell_of_field
returns-in_default-cell_of_field c = c.loop-param.invariant ∙ refused-at c.args.params.now c.loop-param.param-index c.param-item.result (map value_of c.loop-param.into.items)
    (fields_left c.loop-param.fields) (fields_left c.next.new.self) c.in-Some.field.now
    c.loop-param-test.true c.param-item.is c.in-Some.ensures (sym c.cell_of_field.ensures ∙ ap (option_map value_of) c.in_default-cell_of_field.is)

pub returns : goal.returns
returns c = rw c.loop-param.invariant (row_after-end c.args.params.now c.loop-param.param-index (map value_of c.loop-param.into.items)
    (fields_left c.loop-param.fields) (fields_left c.next-2.new.self) c.next-2.result c.is_none.result c.loop-param-test.false c.next-2.ensures c.is_none.ensures)
