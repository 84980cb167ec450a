use Rattle.std.proofs.Common.{◌≡◌, ◌∙◌, ◌∷◌, ◌+◌, [], sym, ap, refl, rules, inl, inr, Ok, Err}
use Rattle.std.proofs.lemmas.List.{append-nil}
use Rattle.csv.specs.Reading.{default_config, records, strip_bom}
use Rattle.castor_val.specs.Columns.{types_of}
use Rattle.castor_load.specs.Reading.{records_left}
use Rattle.castor_load.proofs.Fits.{table_of-fits}
use Rattle.castor_load.specs.Rows.{rows_from}
use Rattle.castor_load.proofs.Rows.{after, after-append, and_more-after, rows_from-none, rows_from-some}
use Rattle.castor_load.proofs.table.load.Goals as goal

pub returns-then-not-branch-2 : goal.returns-then-not-branch-2
returns-then-not-branch-2 c =
    let none = rw c.if-not-branch-2.true at c.in_ok-next-2.ensures in
    let exact = c.loop-number.invariant.rest
    ∙ ap (after c.loop-number.table) (rows_from-none c.loop-number.number (types_of c.args.columns.now) (records_left c.loop-number.records) none)
    ∙ ap Ok (append-nil c.loop-number.table) in
    record {
      exact = exact;
      fits = table_of-fits c.args.columns.now (records default_config (strip_bom c.args.bytes.now)) c.loop-number.table exact;
    }

pub returns-in_err-row-clause-exact : goal.returns-in_err-row-clause-exact
returns-in_err-row-clause-exact c =
    let some = rw c.if-not-branch-2.false at c.in_ok-next-2.ensures in
    let is : c.from_residual-in_err-row.result ≡ Err c.in_err-row.field-0.0 = search rules in
    rw is (elim c.in_err-row.ensures [
      | inl memory ↦ inl memory
      | inr why ↦ inr (c.loop-number.invariant.rest ∙ ap (after c.loop-number.table) (rows_from-some c.loop-number.number (types_of c.args.columns.now) (records_left c.loop-number.records) _ _ some.1) ∙ rw why refl)
    ])

pub loop-number-preserved : goal.loop-number-preserved
loop-number-preserved c =
    let some = rw c.if-not-branch-2.false at c.in_ok-next-2.ensures in
    let rest = rows_from (c.loop-number.number + 1) (types_of c.args.columns.now) (records_left c.next-in-loop-number.new.self) in
    record {
      reading = some.0;
      rest = rw c.in_ok-push.ensures.ok (c.loop-number.invariant.rest
          ∙ ap (after c.loop-number.table) (rows_from-some c.loop-number.number (types_of c.args.columns.now) (records_left c.loop-number.records) _ _ some.1)
          ∙ rw (c.in_ok-row.ensures, and_more-after c.in_ok-row.row rest) (sym (after-append c.loop-number.table (c.in_ok-row.row ∷ []) rest)));
    }
