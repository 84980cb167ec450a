-- The rule `filter-dedup`.
use Rattle.std.specs.Prelude.{Ok}
use Rattle.castor_alg.specs.declared.rel.Rel.{Rel, Dedup, Filter}
use Rattle.castor_flat.specs.Forms.{Rewriting, dedup_of, filter_of, with_one, with_two}

-- filter(p, dedup(r)) becomes dedup(filter(p, r))
abbrev pub filter_dedup : Rel → Rewriting
filter_dedup q = with_two (filter_of q) (λ p inner. with_one (dedup_of inner) (λ r. Ok (Dedup (Filter p r))))
