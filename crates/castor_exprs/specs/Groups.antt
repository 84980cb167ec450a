-- The lists of `groupby` and `orderby`: grouping keys, aggregates and sorting keys, and the columns that they put out.
use Rattle.std.specs.Prelude.{◌++◌, List, [], ◌∷◌, Option, Result, Ok, Bool, true, false, length, slice_get}
use Rattle.std.specs.Option.{option_map_or}
use Rattle.castor_val.specs.declared.value.Ty.TheVariants.{Int}
use Rattle.castor_alg.specs.declared.rel.Agg.{Agg}
use Rattle.castor_alg.specs.declared.rel.Agg.TheVariants.{Count, Sum, Min, Max}
use Rattle.castor_alg.specs.declared.rel.Key.{Key}
use Rattle.castor_alg.specs.Typing.{same_type}
use Rattle.castor_tree.specs.declared.tree.PAgg.{PAgg}
use Rattle.castor_tree.specs.declared.tree.PAgg.TheVariants as named
use Rattle.castor_tree.specs.declared.tree.PCol.{PCol}
use Rattle.castor_tree.specs.declared.tree.Word.{Word}
use Rattle.castor_names.specs.Names.{called_or_numbered, column_number, the_column}
use Rattle.castor_names.specs.Turns.{and_then, in_order}
use Rattle.castor_names.specs.declared.column.NamedColumn.{NamedColumn}
use Rattle.castor_names.specs.declared.error.SchemaError.{SchemaError}
use Rattle.castor_exprs.specs.declared.groups.Grouping.{Grouping}
use Rattle.castor_exprs.specs.declared.groups.Aggregate.{Aggregate}

-- one more grouping key, whose column keeps its name and qualifier
unfoldable pub with_group_key : List NamedColumn → Grouping → PCol → Result Grouping SchemaError
with_group_key from found key =
    and_then (column_number from key) (λ number.
    and_then (the_column from number) (λ column.
    Ok (record found { keys = found.keys ++ number ∷ []; columns = found.columns ++ column ∷ [] })))

-- an aggregate over the column that a name means: a sum is an int, and the least and the greatest have the column's type
unfoldable pub aggregate_found : List NamedColumn → PAgg → Result Aggregate SchemaError
aggregate_found from named.Count = Ok (record { agg = Count; ty = Int })
aggregate_found from (named.Sum col) = and_then (column_number from col) (λ number. Ok (record { agg = Sum number; ty = Int }))
aggregate_found from (named.Min col) = and_then (column_number from col) (λ number. and_then (the_column from number) (λ (c : NamedColumn). Ok (record { agg = Min number; ty = c.ty })))
aggregate_found from (named.Max col) = and_then (column_number from col) (λ number. and_then (the_column from number) (λ (c : NamedColumn). Ok (record { agg = Max number; ty = c.ty })))

-- one more aggregate
unfoldable pub with_aggregate : List NamedColumn → Grouping → PAgg × Option Word → Result Grouping SchemaError
with_aggregate from found (agg, name) =
    and_then (aggregate_found from agg) (λ one.
    Ok (record found { aggs = found.aggs ++ one.agg ∷ []; columns = found.columns ++ called_or_numbered name (length found.columns) one.ty ∷ [] }))

-- the keys of a grouping, then its aggregates
unfoldable pub grouping_found : List NamedColumn → List PCol → List (PAgg × Option Word) → Result Grouping SchemaError
grouping_found from keys aggs =
    and_then (in_order (with_group_key from) (record { keys = []; aggs = []; columns = [] }) keys) (λ found.
    in_order (with_aggregate from) found aggs)

-- a sum takes an int column
unfoldable pub sums_ints : List NamedColumn → Agg → Bool
sums_ints from Count = true
sums_ints from (Sum at) = option_map_or (λ (c : NamedColumn). same_type Int c.ty) (slice_get from at) false
sums_ints from (Min at) = true
sums_ints from (Max at) = true

-- one more sorting key
abbrev pub with_sorting_key : List NamedColumn → List Key → PCol × Bool → Result (List Key) SchemaError
with_sorting_key from found (col, desc) = and_then (column_number from col) (λ number. Ok (found ++ record { col = number; desc = desc } ∷ []))

-- the sorting keys of a list, in their order
unfoldable pub sorting_keys : List NamedColumn → List (PCol × Bool) → Result (List Key) SchemaError
sorting_keys from keys = in_order (with_sorting_key from) [] keys
