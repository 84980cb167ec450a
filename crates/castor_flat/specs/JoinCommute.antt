-- The rule `join-commute`.
use Rattle.std.specs.Prelude.{List, Ok}
use Rattle.castor_val.specs.declared.value.Ty.{Ty}
use Rattle.castor_alg.specs.declared.expr.Expr.{Expr}
use Rattle.castor_alg.specs.declared.rel.Rel.{Rel, Join, Select}
use Rattle.castor_alg.specs.ColumnCount.{column_count}
use Rattle.castor_alg.specs.Substitution.{subst_cols}
use Rattle.castor_flat.specs.Columns.{changed_places}
use Rattle.castor_flat.specs.Forms.{Rewriting, join_of, with_three}

abbrev pub commuted : List Expr → Expr → Rel → Rel → Rel
commuted columns c r s = Select columns (Join (subst_cols columns c) s r)

-- join(c, r, s) becomes a projection of join(c, s, r) to the columns of r and then those of s, which c reads in their new places
abbrev pub join_commute : List (List Ty) → Rel → Rewriting
join_commute tables q = with_three (join_of q) (λ c r s. Ok (commuted (changed_places (column_count tables r) (column_count tables s)) c r s))
