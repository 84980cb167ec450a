-- The rule `dedup-twice`.
use Rattle.std.specs.Prelude.{Ok}
use Rattle.castor_alg.specs.declared.rel.Rel.{Rel, Dedup}
use Rattle.castor_flat.specs.Forms.{Rewriting, dedup_of, with_one}

-- dedup(dedup(r)) becomes dedup(r)
abbrev pub dedup_twice : Rel → Rewriting
dedup_twice q = with_one (dedup_of q) (λ inner. with_one (dedup_of inner) (λ r. Ok (Dedup r)))
