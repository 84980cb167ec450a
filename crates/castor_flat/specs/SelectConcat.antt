-- The rule `select-concat`.
use Rattle.std.specs.Prelude.{Ok, map}
use Rattle.castor_alg.specs.declared.rel.Rel.{Rel, Concat, Select}
use Rattle.castor_flat.specs.Forms.{Rewriting, concat_of, select_of, with_one, with_two}

-- select(es, concat(r1, .., rn)) becomes concat(select(es, r1), .., select(es, rn))
abbrev pub select_concat : Rel → Rewriting
select_concat q = with_two (select_of q) (λ es inner. with_one (concat_of inner) (λ rs. Ok (Concat (map (Select es) rs))))
