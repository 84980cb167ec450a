use Rattle.std.proofs.Common.{◌∙◌, ◌∷◌, ◌+◌, [], sym, ap, refl, arith, drop, inr, Ok}
use Rattle.std.proofs.lemmas.List.{append-nil}
use Rattle.csv.specs.Records.{fields_of}
use Rattle.castor_val.specs.Columns.{types_of}
use Rattle.castor_load.specs.Rows.{values_from}
use Rattle.castor_load.proofs.Rows.{after, after-append, and_more-after, no_field, values_from-at, values_from-end}
use Rattle.castor_load.proofs.row.read_row.Goals as goal

pub returns-in_default : goal.returns-in_default
returns-in_default c = no_field c.args.columns.now (fields_of c.args.fields.now) c.loop-i.i c.loop-i.invariant.same c.loop-i-test.true (sym c.in_default.ensures.value)

pub returns-in_default-2 : goal.returns-in_default-2
returns-in_default-2 c =
    let none = sym c.in_ok-value.ensures ∙ c.in_default-2.is in
    inr (c.loop-i.invariant.rest
    ∙ ap (after c.loop-i.row) (values_from-at c.args.number c.args.columns.now (fields_of c.args.fields.now) c.loop-i.i c.index-columns-i.result c.in-Some.field.now c.loop-i-test.true c.index-columns-i.is (sym c.in-Some.ensures.value))
    ∙ rw none refl)

pub loop-i-preserved : goal.loop-i-preserved
loop-i-preserved c =
    let some = sym c.in_ok-value.ensures ∙ c.in-Some-2.is in
    let rest = values_from c.args.number (c.loop-i.i + 1) (types_of (drop (c.loop-i.i + 1) c.args.columns.now)) (drop (c.loop-i.i + 1) (fields_of c.args.fields.now)) in
    record {
      same = c.loop-i.invariant.same;
      rest = rw c.in_ok-push.ensures.ok (c.loop-i.invariant.rest
          ∙ ap (after c.loop-i.row) (values_from-at c.args.number c.args.columns.now (fields_of c.args.fields.now) c.loop-i.i c.index-columns-i.result c.in-Some.field.now c.loop-i-test.true c.index-columns-i.is (sym c.in-Some.ensures.value))
          ∙ rw (some, and_more-after c.in-Some-2.value rest) (sym (after-append c.loop-i.row (c.in-Some-2.value ∷ []) rest)));
    }

pub returns : goal.returns
returns c = c.loop-i.invariant.rest ∙ ap (after c.loop-i.row) (values_from-end c.args.number c.args.columns.now (fields_of c.args.fields.now) c.loop-i.i (omega arith)) ∙ ap Ok (append-nil c.loop-i.row)
