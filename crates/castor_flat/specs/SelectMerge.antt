-- The rule `select-merge`.
use Rattle.std.specs.Prelude.{map}
use Rattle.std.specs.List.{list_all}
use Rattle.castor_alg.specs.declared.rel.Rel.{Rel, Select}
use Rattle.castor_alg.specs.Substitution.{subst_cols}
use Rattle.castor_alg.specs.Totality.{is_total_expr}
use Rattle.castor_flat.specs.Forms.{Rewriting, if_total, select_of, with_two}

-- select(es, select(fs, r)) becomes select(es, r), in whose items each #i is the i-th of fs, where each of fs is total
abbrev pub select_merge : Rel → Rewriting
select_merge q = with_two (select_of q) (λ es inner. with_two (select_of inner) (λ fs r. if_total (list_all is_total_expr fs) (Select (map (subst_cols fs) es) r)))
