-- What `dedup-twice` makes is equivalent.
use Rattle.std.proofs.Common.{◌≡◌, ◌∙◌, sym, ap, Ok}
use Rattle.castor_alg.specs.declared.context.Context.{Context}
use Rattle.castor_alg.specs.declared.rel.Rel.{Rel, Dedup}
use Rattle.castor_alg.specs.Distinct.{deduped}
use Rattle.castor_alg.specs.Equivalence.{Equivalent}
use Rattle.castor_alg.specs.Meaning.{meaning}
use Rattle.castor_alg.specs.Typing.{Typed}
use Rattle.castor_laws.proofs.ExchangeLaws.{distinct_twice}
use Rattle.castor_laws.proofs.RelClauseLaws.{meaning-Dedup}
use Rattle.castor_laws.proofs.TypeClauseLaws.{types_under-Dedup}
use Rattle.castor_laws.proofs.TypedRelLaws.{equal_where}
use Rattle.castor_flat.specs.DedupTwice.{dedup_twice}
use Rattle.castor_flat.proofs.FormLaws.{by_form, dedup_is, is_made, one_part}

once : (context : Context) (r : Rel) → Typed (Dedup (Dedup r)) context → Equivalent context (Dedup (Dedup r)) (Dedup r)
once context r typed =
    equal_where context (Dedup (Dedup r)) (Dedup r) typed
    (λ types is. sym (types_under-Dedup context (Dedup r)) ∙ is)
    (λ types is ts env p fits.
    meaning-Dedup ts env p (Dedup r)
    ∙ ap deduped (meaning-Dedup ts env p r)
    ∙ distinct_twice (meaning r ts env p)
    ∙ sym (meaning-Dedup ts env p r))

pub dedup_twice_keeps : (context : Context) (q made : Rel) → dedup_twice q ≡ Ok made → Typed q context → Equivalent context q made
dedup_twice_keeps context q made is =
    let (inner, form, more) = one_part _ _ made is in
    let (operand, below, last) = one_part _ _ made more in
    by_form context q (Dedup (Dedup operand)) (Dedup operand) made
    (dedup_is q inner form ∙ ap Dedup (dedup_is inner operand below)) (is_made _ made last) (once context operand)
