use Rattle.std.proofs.Common.{◌∙◌, sym, refl}
use Rattle.std.specs.Str.{bytes_eq}
use Rattle.csv.specs.Records.{fields_of}
use Rattle.castor_load.proofs.Rows.{names-at, no_field, not-false, not-true}
use Rattle.castor_load.proofs.table.is_header.Goals as goal

pub returns-in_default : goal.returns-in_default
returns-in_default c = no_field c.args.columns.now (fields_of c.args.fields.now) c.loop-i.i c.loop-i.invariant.same c.loop-i-test.true (sym c.in_default.ensures.value)

pub returns-then-ne : goal.returns-then-ne
returns-then-ne c =
    let differ = rw (c.as_bytes.ensures.value, c.as_str.ensures) at (not-true (bytes_eq c.in-Some.field.now c.as_bytes.result.now) c.if-ne.ensures) in
    sym (c.loop-i.invariant.rest ∙ names-at c.args.columns.now (fields_of c.args.fields.now) c.loop-i.i c.index-columns-i.result c.in-Some.field.now c.loop-i-test.true c.index-columns-i.is (sym c.in-Some.ensures.value) ∙ rw differ refl)

pub loop-i-preserved : goal.loop-i-preserved
loop-i-preserved c =
    let same = rw (c.as_bytes.ensures.value, c.as_str.ensures) at (not-false (bytes_eq c.in-Some.field.now c.as_bytes.result.now) c.if-ne.ensures) in
    record {
      same = c.loop-i.invariant.same;
      rest = c.loop-i.invariant.rest ∙ names-at c.args.columns.now (fields_of c.args.fields.now) c.loop-i.i c.index-columns-i.result c.in-Some.field.now c.loop-i-test.true c.index-columns-i.is (sym c.in-Some.ensures.value) ∙ rw same refl;
    }
