-- Groups and their aggregates: what `groupby` means.
use Rattle.std.specs.Prelude.{ℕ, ℤ, pos, ◌+ℤ◌, ◌^◌, ◌-◌, min, List, [], ◌∷◌, ◌++◌, length, map, filter, fold, if◌then◌else◌, Result, Ok, Err}
use Rattle.std.specs.Ordering.{is_lt, is_gt}
use Rattle.castor_val.specs.declared.value.Value.{Value}
use Rattle.castor_val.specs.declared.value.Value.TheVariants.{Int, Bool as Truth, Text}
use Rattle.castor_val.specs.declared.fault.Faults.{Faults}
use Rattle.castor_val.specs.declared.row.Row.{Row}
use Rattle.castor_val.specs.Values.{column, same_row, value_cmp, norows_fault}
use Rattle.castor_alg.specs.declared.out.Out.{Out}
use Rattle.castor_alg.specs.declared.rel.Agg.{Agg}
use Rattle.castor_alg.specs.declared.rel.Agg.TheVariants.{Count, Sum, Min, Max}
use Rattle.castor_alg.specs.Distinct.{distinct}
use Rattle.castor_alg.specs.Expression.{Answer, whole, put_front}
use Rattle.castor_alg.specs.Rows.{selected}

-- the values of a row in the key columns
abbrev pub key_of : List ℕ → Row → Row
key_of ks row = map (λ k. column row k) ks

-- the keys of the groups: the distinct ones by first appearance, and where nothing is grouped by, one of no values
abbrev pub group_keys : List ℕ → List Row → List Row
group_keys [] rows = [] ∷ []
group_keys (k ∷ ks) rows = distinct same_row (map (key_of (k ∷ ks)) rows)

abbrev pub int_in : Value → ℤ
int_in (Int z) = z
int_in (Truth b) = pos 0
int_in (Text t) = pos 0

-- the sum of a column, over whole numbers without limit
abbrev pub total : ℕ → List Row → ℤ
total at rows = fold (λ sum row. sum +ℤ int_in (column row at)) (pos 0) rows

abbrev pub lesser : Value → Value → Value
lesser a b = if is_lt (value_cmp b a) then b else a

abbrev pub greater : Value → Value → Value
greater a b = if is_gt (value_cmp b a) then b else a

-- the least or the greatest value, and a fault where there is none
abbrev pub best : (Value → Value → Value) → List Value → Answer
best f [] = Err norows_fault
best f (v ∷ vs) = Ok (fold f v vs)

-- an aggregate over the rows of a group
abbrev pub aggregate : Agg → List Row → Answer
aggregate Count rows = Ok (Int (pos (min (length rows) (2 ^ 63 - 1))))
aggregate (Sum at) rows = whole (total at rows)
aggregate (Min at) rows = best lesser (map (λ row. column row at) rows)
aggregate (Max at) rows = best greater (map (λ row. column row at) rows)

abbrev pub aggregates : List Agg → List Row → Result Row Faults
aggregates [] rows = Ok []
aggregates (a ∷ aggs) rows = put_front (aggregate a rows) (aggregates aggs rows)

abbrev pub behind_key : Row → Result Row Faults → Result Row Faults
behind_key key (Ok row) = Ok (key ++ row)
behind_key key (Err f) = Err f

-- the row of a group: its key, then the aggregates over the rows that have the key
abbrev pub group_row : List ℕ → List Agg → List Row → Row → Result Row Faults
group_row ks aggs rows key = behind_key key (aggregates aggs (filter (λ row. same_row (key_of ks row) key) rows))

-- one row for each group; a group with an aggregate that faults gives none
abbrev pub grouped : List ℕ → List Agg → Out → Out
grouped ks aggs r = selected (group_row ks aggs r.rows) (record { rows = group_keys ks r.rows; faults = r.faults })
