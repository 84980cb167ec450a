-- The rule `filter-concat`.
use Rattle.std.specs.Prelude.{Ok, map}
use Rattle.castor_alg.specs.declared.rel.Rel.{Rel, Concat, Filter}
use Rattle.castor_flat.specs.Forms.{Rewriting, concat_of, filter_of, with_one, with_two}

-- filter(p, concat(r1, .., rn)) becomes concat(filter(p, r1), .., filter(p, rn))
abbrev pub filter_concat : Rel → Rewriting
filter_concat q = with_two (filter_of q) (λ p inner. with_one (concat_of inner) (λ rs. Ok (Concat (map (Filter p) rs))))
