-- What each operator makes of operands that are found, or why it is refused: its lists and expressions come left to
-- right, then its own conditions: WrongCount, then TypeMismatch, then TooLarge.
use Rattle.std.specs.Prelude.{ℕ, ◌+◌, ◌++◌, ◌==◌, List, [], ◌∷◌, Option, Result, Ok, Err, Bool, true, false, ◌&&◌, not, if◌then◌else◌, nat_lt, length, position, slice_get, ok_or, option_and_then, option_map}
use Rattle.std.specs.List.{list_all}
use Rattle.std.specs.Option.{option_map_or}
use Rattle.std.specs.Str.{bytes_eq}
use Rattle.castor_val.specs.Limits.{most_columns, most_sorting_keys}
use Rattle.castor_val.specs.declared.value.Ty.TheVariants.{Bool as Truth}
use Rattle.castor_alg.specs.declared.rel.Agg.{Agg}
use Rattle.castor_alg.specs.declared.rel.Key.{Key}
use Rattle.castor_alg.specs.declared.rel.Rel.{Rel}
use Rattle.castor_alg.specs.declared.rel.Rel as core
use Rattle.castor_alg.specs.Typing.{same_type, same_types}
use Rattle.castor_tree.specs.declared.tree.Item.{Item}
use Rattle.castor_tree.specs.declared.tree.PAgg.{PAgg}
use Rattle.castor_tree.specs.declared.tree.PBound.{PBound}
use Rattle.castor_tree.specs.declared.tree.PCol.{PCol}
use Rattle.castor_tree.specs.declared.tree.PExpr.{PExpr}
use Rattle.castor_tree.specs.declared.tree.Word.{Word}
use Rattle.castor_names.specs.Names.{columns_of_table, types_of}
use Rattle.castor_names.specs.Turns.{and_then}
use Rattle.castor_names.specs.declared.table.Declared.{Declared}
use Rattle.castor_names.specs.declared.column.NamedColumn.{NamedColumn}
use Rattle.castor_names.specs.declared.declarations.Declarations.{Declarations}
use Rattle.castor_names.specs.declared.error.SchemaError.{SchemaError}
use Rattle.castor_names.specs.declared.error.SchemaError.TheVariants.{UnknownTable, TypeMismatch, WrongCount, TooLarge}
use Rattle.castor_names.specs.declared.scopes.Scope.{Scope}
use Rattle.castor_exprs.specs.Bounds.{is_bound_of, range_found}
use Rattle.castor_exprs.specs.Expressions.{expression}
use Rattle.castor_exprs.specs.Groups.{grouping_found, sorting_keys, sums_ints}
use Rattle.castor_exprs.specs.Indexes.{index_keys, is_key_count}
use Rattle.castor_exprs.specs.Items.{item_output, items_selected}
use Rattle.castor_exprs.specs.declared.bounds.TypedRange.{TypedRange}
use Rattle.castor_exprs.specs.declared.expression.Typed.{Typed}
use Rattle.castor_exprs.specs.declared.groups.Grouping.{Grouping}
use Rattle.castor_exprs.specs.declared.indexes.IndexKeys.{IndexKeys}
use Rattle.castor_exprs.specs.declared.items.Output.{Output}
use Rattle.castor_exprs.specs.declared.items.Selection.{Selection}
use Rattle.castor_operators.specs.declared.found.Found.{Found}
use Rattle.castor_operators.specs.declared.joins.Joining.{Joining}
use Rattle.castor_operators.specs.declared.binders.Binding.{Binding}
use Rattle.castor_operators.specs.declared.operands.Operands.{Operands}

-- a relation with its columns, of which there are at most 64
unfoldable pub limited : Rel → List NamedColumn → ℕ → Result Found SchemaError
limited query columns next = if nat_lt most_columns (length columns) then Err TooLarge else Ok (record { query = query; columns = columns; next = next })

-- the table of a name
unfoldable pub table_found : List Declared → ℕ → List ℕ → Result Found SchemaError
table_found tables next name =
    ok_or (option_and_then (λ number. option_map (λ (t : Declared). record { query = core.Table number; columns = columns_of_table t; next = next }) (slice_get tables number))
    (position (λ (t : Declared). bytes_eq t.name name) tables)) UnknownTable

-- `scalar` has the column of its item
unfoldable pub scalar_of : ℕ → Output → Result Found SchemaError
scalar_of next output = Ok (record { query = core.Scalar output.expr; columns = output.column ∷ []; next = next })

-- `scalar`: one item, which reads no columns
unfoldable pub scalar_found : Declarations → List Scope → ℕ → Item → Result Found SchemaError
scalar_found known scopes next item = and_then (item_output known scopes [] 0 item) (λ output. scalar_of next output)

-- `select`: the items over the operand's columns
unfoldable pub selected : Declarations → List Scope → List Item → Found → Result Found SchemaError
selected known scopes items from =
    and_then (items_selected known scopes from.columns items) (λ (all : Selection).
    limited (core.Select all.exprs from.query) all.columns from.next)

-- `filter` takes a bool, and keeps its operand's columns
unfoldable pub filtered_by : Found → Typed → Result Found SchemaError
filtered_by from test =
    if same_type Truth test.ty then Ok (record { query = core.Filter test.expr from.query; columns = from.columns; next = from.next })
    else Err TypeMismatch

-- `filter`: an expression over the operand's columns
unfoldable pub filtered : Declarations → List Scope → PExpr → Found → Result Found SchemaError
filtered known scopes e from = and_then (expression e known scopes from.columns) (λ test. filtered_by from test)

-- the operands of a `join`, and the columns of both
abbrev pub side_by_side : Found → Found → Joining
side_by_side left right = record { left = left.query; right = right.query; columns = left.columns ++ right.columns; next = right.next }

-- `join` takes a bool, and has the columns of both operands
unfoldable pub joined_by : Joining → Typed → Result Found SchemaError
joined_by both test = if same_type Truth test.ty then limited (core.Join test.expr both.left both.right) both.columns both.next else Err TypeMismatch

-- `join`: an expression over the columns of both operands
unfoldable pub joined : Declarations → List Scope → PExpr → Found → Found → Result Found SchemaError
joined known scopes e left right = and_then (expression e known scopes (left.columns ++ right.columns)) (λ test. joined_by (side_by_side left right) test)

-- there is no key and no aggregate
abbrev pub is_no_grouping : List ℕ → List Agg → Bool
is_no_grouping [] [] = true
is_no_grouping [] (agg ∷ aggs) = false
is_no_grouping (key ∷ keys) aggs = false

-- `groupby` sums ints alone
unfoldable pub summed_by : Found → Grouping → Result Found SchemaError
summed_by from found =
    if list_all (sums_ints from.columns) found.aggs then limited (core.Group found.keys found.aggs from.query) found.columns from.next
    else Err TypeMismatch

-- `groupby`: a key or an aggregate, then sums of ints
unfoldable pub grouped_by : Found → Grouping → Result Found SchemaError
grouped_by from found = if is_no_grouping found.keys found.aggs then Err WrongCount else summed_by from found

-- `groupby`: keys and aggregates over the operand's columns
unfoldable pub grouped : List PCol → List (PAgg × Option Word) → Found → Result Found SchemaError
grouped keys aggs from = and_then (grouping_found from.columns keys aggs) (λ found. grouped_by from found)

-- `orderby`: at most 65,535 keys
unfoldable pub order_by_keys : Found → List Key → Result Found SchemaError
order_by_keys from keys = if nat_lt most_sorting_keys (length keys) then Err TooLarge else Ok (record { query = core.Order keys from.query; columns = from.columns; next = from.next })

-- `orderby`: keys over the operand's columns
unfoldable pub order_by : List (PCol × Bool) → Found → Result Found SchemaError
order_by keys from = and_then (sorting_keys from.columns keys) (λ found. order_by_keys from found)

-- the columns of the first operand
abbrev pub first_columns : List (List NamedColumn) → List NamedColumn
first_columns operands = option_map_or (λ (columns : List NamedColumn). columns) (slice_get operands 0) []

-- as many columns in each operand as in the first
abbrev pub same_widths : List (List NamedColumn) → Bool
same_widths operands = list_all (λ (columns : List NamedColumn). length columns == length (first_columns operands)) operands

-- the column types of the first operand in each
abbrev pub same_column_types : List (List NamedColumn) → Bool
same_column_types operands = list_all (λ (columns : List NamedColumn). same_types (types_of (first_columns operands)) (types_of columns)) operands

-- `concat`: operands of the same column types
unfoldable pub concatenated : Operands → Result Found SchemaError
concatenated all =
    if not (same_widths all.columns) then Err WrongCount
    else (if not (same_column_types all.columns) then Err TypeMismatch
    else Ok (record { query = core.Concat all.queries; columns = first_columns all.columns; next = all.next }))

-- `hash`: a key for each column of the source, of its type
unfoldable pub hashed : Binding → IndexKeys → Result Found SchemaError
hashed binding keys =
    if not (is_key_count (length binding.columns) (length keys.types)) then Err WrongCount
    else (if not (same_types (types_of binding.columns) keys.types) then Err TypeMismatch
    else Ok (record { query = core.Hash binding.number binding.source binding.body.query keys.exprs; columns = binding.body.columns; next = binding.body.next }))

-- `hash`: its keys over no columns
unfoldable pub hashed_by : Declarations → List Scope → List PExpr → Binding → Result Found SchemaError
hashed_by known scopes es binding = and_then (index_keys known scopes es) (λ keys. hashed binding keys)

-- `ordered`: a source of one column, and bounds of its type
unfoldable pub ordered : Binding → TypedRange → List NamedColumn → Result Found SchemaError
ordered binding range [] = Err WrongCount
ordered binding range (c ∷ []) =
    if is_bound_of c.ty range.lower && is_bound_of c.ty range.upper
    then Ok (record { query = core.Ord binding.number binding.source binding.body.query range.lower.bound range.upper.bound; columns = binding.body.columns; next = binding.body.next })
    else Err TypeMismatch
ordered binding range (c ∷ d ∷ more) = Err WrongCount

-- `ordered`: its bounds over no columns
unfoldable pub ordered_by : Declarations → List Scope → PBound → PBound → Binding → Result Found SchemaError
ordered_by known scopes lo hi binding = and_then (range_found known scopes lo hi) (λ range. ordered binding range binding.columns)

-- `depjoin` has the columns of its body
unfoldable pub depjoined : Binding → Result Found SchemaError
depjoined binding = Ok (record { query = core.DepJoin binding.number binding.source binding.body.query; columns = binding.body.columns; next = binding.body.next })

-- `list` has the columns of its body
unfoldable pub listed : Binding → Result Found SchemaError
listed binding = Ok (record { query = core.List binding.number binding.source binding.body.query; columns = binding.body.columns; next = binding.body.next })

-- `dedup` keeps its operand's columns
unfoldable pub deduped : Found → Result Found SchemaError
deduped from = Ok (record { query = core.Dedup from.query; columns = from.columns; next = from.next })
