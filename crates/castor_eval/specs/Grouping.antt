-- Groups beside their keys, as a program holds them.
use Rattle.std.specs.Prelude.{◌≡◌, ℕ, List, [], ◌∷◌, ◌++◌, map, filter, Bool, true, false, Result}
use Rattle.std.specs.List.{flat_map}
use Rattle.std.specs.Borrow.{Bor}
use Rattle.std.specs.declared.vec.Vec.{Vec}
use Rattle.castor_val.specs.declared.row.Row.{Row}
use Rattle.castor_val.specs.declared.fault.Faults.{Faults}
use Rattle.castor_val.specs.Values.{same_row, union}
use Rattle.castor_alg.specs.declared.out.Out.{Out}
use Rattle.castor_alg.specs.declared.rel.Agg.{Agg}
use Rattle.castor_alg.specs.Groups.{aggregates, behind_key, group_keys, key_of}
use Rattle.castor_alg.specs.Rows.{faults_in, row_in, union_over}
use Rattle.castor_eval.specs.declared.group.Groups.{Groups}
use Rattle.castor_eval.specs.Keys.{key_values}

-- the rows that borrowed ones stand for
abbrev pub rows_behind : {A : Type 0} → Vec (Bor Row) A → List Row
rows_behind rows = map (λ row. row.now) rows.items

-- the keys of the groups
abbrev pub keys_in : Groups → List Row
keys_in groups = map key_values groups.keys.keys

-- beside each key the rows that have it
abbrev pub members_in : Groups → List (List Row)
members_in groups = map rows_behind groups.members.items

-- the keys are those of the groups of the rows, and beside each key stand the rows that have it
pub record IsGrouped (ks : List ℕ) (keys : List Row) (members : List (List Row)) (rows : List Row) : Type 0 where
  pub keys_are : keys ≡ group_keys ks rows
  pub members_are : members ≡ map (λ key. filter (λ row. same_row (key_of ks row) key) rows) keys

-- the groups with an empty one for a new key
abbrev pub opened : List (List Row) → Bool → List (List Row)
opened members true = members ++ [] ∷ []
opened members false = members

-- for each key, it and the aggregates over the rows beside it
abbrev pub answers : List Agg → List Row → List (List Row) → List (Result Row Faults)
answers aggs [] members = []
answers aggs (key ∷ keys) [] = []
answers aggs (key ∷ keys) (rows ∷ members) = behind_key key (aggregates aggs rows) ∷ answers aggs keys members

-- the rows of the answers that have one, and all their faults besides these
abbrev pub gathered : Faults → List (Result Row Faults) → Out
gathered faults rows = record { rows = flat_map row_in rows; faults = union faults (union_over faults_in rows) }
