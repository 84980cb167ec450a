-- The distinct rows of a relation.
use Rattle.std.proofs.Common.{◌≡◌, ◌∙◌, List, ap}
use Rattle.castor_val.specs.declared.row.Row.{Row}
use Rattle.castor_val.specs.declared.table.Table.{Table}
use Rattle.castor_alg.specs.declared.out.Out.{Out}
use Rattle.castor_alg.specs.declared.rel.Rel.{Rel, Dedup}
use Rattle.castor_alg.specs.Distinct.{deduped}
use Rattle.castor_alg.specs.Meaning.{meaning}
use Rattle.castor_alg.specs.Scopes.{Scopes}
use Rattle.castor_laws.proofs.RelClauseLaws.{meaning-Dedup}

-- what the evaluator gives for the distinct rows of a relation
pub distinct_meant : (ts : List Table) (env : Scopes) (p : Row) (q r : Rel) (out : Out) → out ≡ meaning q ts env p → q ≡ Dedup r → out ≡ deduped (meaning r ts env p)
distinct_meant ts env p q r out found is = found ∙ ap (λ (x : Rel). meaning x ts env p) is ∙ meaning-Dedup ts env p r
