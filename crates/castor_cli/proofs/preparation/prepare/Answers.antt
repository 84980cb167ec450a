use Rattle.castor_cli.proofs.Preparing.{prepared_well, refused_at_query, refused_later}
use Rattle.castor_cli.proofs.Tables.{rose_in_all, same_again}
use Rattle.castor_cli.proofs.preparation.prepare.Goals as goal

pub returns-in-Ok-prepare_rest-clause-prepares : goal.returns-in-Ok-prepare_rest-clause-prepares
returns-in-Ok-prepare_rest-clause-prepares g c =
    prepared_well _ _ _ _ _ _ c.in-Ok.ensures.sound c.in-Ok.ensures.reading c.read_checked.ensures.same c.in-Ok-prepare_rest.ensures.rest

pub returns-in-Ok-prepare_rest-clause-same : goal.returns-in-Ok-prepare_rest-clause-same
returns-in-Ok-prepare_rest-clause-same g c = same_again _ _ _ c.read_checked.ensures.same c.prepare_rest.ensures.same

pub returns-in-Err-prepare_rest-clause-prepares : goal.returns-in-Err-prepare_rest-clause-prepares
returns-in-Err-prepare_rest-clause-prepares g c =
    rw c.about.ensures.status (refused_later _ _ _ _ (λ name. _) _ _ _ _ _ c.in-Ok.ensures.reading c.read_checked.ensures.same
    (λ name rose. rose_in_all _ _ _ (c.read_checked.ensures.reads name) rose) c.in-Err-prepare_rest.ensures.rest (rw c.into_tables.ensures at c.about.ensures.table))

pub returns-in-Err-clause-prepares : goal.returns-in-Err-clause-prepares
returns-in-Err-clause-prepares g c =
    rw (c.new.ensures.status, c.new.ensures.table) (refused_at_query _ _ (λ name. _) _ _ _ _ c.in-Err.ensures.reading)
