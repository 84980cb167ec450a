-- Rows that are sorted by keys, and that known keys are true.
use Rattle.std.specs.Prelude.{◌≡◌, List, [], ◌∷◌, ◌++◌, All, false}
use Rattle.std.specs.Ordering.{is_lt}
use Rattle.castor_val.specs.declared.row.Row.{Row}
use Rattle.castor_val.specs.declared.table.Table.{Table}
use Rattle.castor_alg.specs.declared.out.Out.{Out}
use Rattle.castor_alg.specs.declared.rel.Key.{Key}
use Rattle.castor_alg.specs.declared.rel.Rel.{Rel}
use Rattle.castor_alg.specs.Meaning.{meaning}
use Rattle.castor_alg.specs.Scopes.{Scopes}
use Rattle.castor_alg.specs.Sorting.{by_keys, sorted_by}
use Rattle.castor_script.specs.KnownKeys.{known_keys}

-- no row stands after one that it comes before by the keys
abbrev pub AreInOrder : List Key → List Row → Type 0
AreInOrder ks [] = Unit {0}
AreInOrder ks (a ∷ rows) = All (λ b. is_lt (by_keys ks b a) ≡ false) rows × AreInOrder ks rows

-- rows are sorted by keys: none stands after one that it comes before, and sorting them stably changes nothing, so
-- rows that agree on the keys have their places too
pub record IsSortedBy (ks : List Key) (r : Out) : Type 0 where
  pub order : AreInOrder ks r.rows
  pub stable : sorted_by ks r ≡ r

-- the rows of a relation are sorted by its known keys and by each front part of them, whatever the tables, the
-- environment and the parameters are
abbrev pub KnownKeysAreTrue : Rel → Type 0
KnownKeysAreTrue q = (tables : List Table) (env : Scopes) (params : Row) (front rest : List Key) → front ++ rest ≡ known_keys q → IsSortedBy front (meaning q tables env params)
