-- What goes into the operands of a concatenation.
use Rattle.std.proofs.Common.{◌≡◌, ◌∙◌, List, map, sym, ap}
use Rattle.std.proofs.lemmas.Simd.{map-map}
use Rattle.castor_val.specs.declared.row.Row.{Row}
use Rattle.castor_val.specs.declared.table.Table.{Table}
use Rattle.castor_alg.specs.declared.out.Out.{Out}
use Rattle.castor_alg.specs.declared.rel.Rel.{Rel, Concat}
use Rattle.castor_alg.specs.Meaning.{meaning}
use Rattle.castor_alg.specs.Rows.{concatenated}
use Rattle.castor_alg.specs.Scopes.{Scopes}
use Rattle.castor_laws.proofs.RelClauseLaws.{meaning-Concat}
use Rattle.castor_laws.specs.Rearrangements.{MovesInto}

-- an operator that moves into the operands of a concatenation, over relations
pub goes_into_each : (ts : List Table) (env : Scopes) (p : Row) (over : Rel → Rel) (operator : Out → Out) → ((r : Rel) → meaning (over r) ts env p ≡ operator (meaning r ts env p)) → MovesInto operator → (rs : List Rel) → meaning (over (Concat rs)) ts env p ≡ meaning (Concat (map over rs)) ts env p
goes_into_each ts env p over operator means moves rs =
    let of = λ (r : Rel). meaning r ts env p in
    means (Concat rs)
    ∙ ap operator (meaning-Concat ts env p rs)
    ∙ moves.concat (map of rs)
    ∙ ap concatenated (map-map operator of rs ∙ (λ i. map (λ r. sym (means r) i) rs) ∙ sym (map-map of over rs))
    ∙ sym (meaning-Concat ts env p (map over rs))
