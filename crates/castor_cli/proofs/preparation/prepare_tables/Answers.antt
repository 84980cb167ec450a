use Rattle.castor_cli.proofs.Preparing.{rest_at_script, rest_at_tables}
use Rattle.castor_cli.proofs.Tables.{rose_in_all}
use Rattle.castor_cli.proofs.preparation.prepare_tables.Goals as goal

pub returns-in-Err-load_tables-clause-tables : goal.returns-in-Err-load_tables-clause-tables
returns-in-Err-load_tables-clause-tables g c =
    rest_at_tables _ _ _ _ _ _ _ c.args.checked.now _ c.in-Ok.ensures.reading c.read_steps.ensures.same
    (λ name rose. rose_in_all _ _ _ (c.read_steps.ensures.reads name) rose) (rw c.as_slice.ensures at c.in-Err-load_tables.ensures.loads)

pub returns-in-Err-clause-tables : goal.returns-in-Err-clause-tables
returns-in-Err-clause-tables g c = rest_at_script _ _ (λ name. _) _ _ _ _ c.in-Err.ensures.reading
