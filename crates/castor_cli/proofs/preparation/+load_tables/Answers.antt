use Rattle.castor_cli.proofs.Tables.{loads_rest, refused_at_first, rose_in_all}
use Rattle.castor_cli.proofs.preparation.+load_tables.Goals as goal

pub returns-in-Ok-push-clause-loads : goal.returns-in-Ok-push-clause-loads
returns-in-Ok-push-clause-loads g t c =
    loads_rest _ _ _ _ _ _ _ _ _ _ _ _ _ c.in-len1-up.len_at_least c.first-item.is c.in-Ok-push.ensures.ok c.in-Ok.ensures.loads c.load_table.ensures.same
    (λ name rose. rose_in_all _ _ _ (c.load_table.ensures.reads name) rose) c.load_tables.ensures.loads

pub returns-in-Err-clause-loads : goal.returns-in-Err-clause-loads
returns-in-Err-clause-loads g t c =
    refused_at_first _ _ (λ name. _) _ _ _ _ c.in-len1-up.len_at_least c.first-item.is c.in-Err.ensures.loads
