-- The types of expressions and relations under a context, and what is well typed.
use Rattle.std.specs.Prelude.{ℕ, ◌==◌, nat_lt, nat_le, List, [], ◌∷◌, ◌++◌, length, map, fold, slice_get, Bool, true, false, ◌&&◌, if◌then◌else◌, Option, Some, None, is_some, IsSome, option_map, option_and_then}
use Rattle.std.specs.List.{list_all, flat_map}
use Rattle.std.specs.Cmp.Lexicographic.{pointwise}
use Rattle.castor_val.specs.declared.value.Ty.{Ty}
use Rattle.castor_val.specs.declared.value.Ty.TheVariants.{Int, Bool as Truth, Text}
use Rattle.castor_val.specs.declared.value.Value.{Value}
use Rattle.castor_val.specs.Limits.{most_columns, most_hash_columns, most_sorting_keys}
use Rattle.castor_val.specs.Values.{type_of_value, is_within_limits}
use Rattle.castor_alg.specs.declared.context.Context.{Context}
use Rattle.castor_alg.specs.declared.expr.Op.{Op}
use Rattle.castor_alg.specs.declared.expr.Op.TheVariants.{Or, And, Eq, Ne, Lt, Le, Gt, Ge, Add, Sub, Mul, Div, Rem}
use Rattle.castor_alg.specs.declared.expr.Expr.{Expr, fold-Expr}
use Rattle.castor_alg.specs.declared.expr.Expr.TheOpen.{Expr-F, Col, Scope, Param, Lit, Bin, Not, If}
use Rattle.castor_alg.specs.declared.rel.Agg.{Agg}
use Rattle.castor_alg.specs.declared.rel.Agg.TheVariants.{Count, Sum, Min, Max}
use Rattle.castor_alg.specs.declared.rel.Bound.{Bound}
use Rattle.castor_alg.specs.declared.rel.Bound.TheVariants.{Any, Incl, Excl}
use Rattle.castor_alg.specs.declared.rel.Key.{Key}
use Rattle.castor_alg.specs.declared.rel.Rel.{Rel, fold-Rel}
use Rattle.castor_alg.specs.declared.rel.Rel.TheOpen.{Rel-F}
use Rattle.castor_alg.specs.declared.rel.Rel.TheOpen as rel

-- the two are one type
abbrev pub same_type : Ty → Ty → Bool
same_type Int Int = true
same_type Int Truth = false
same_type Int Text = false
same_type Truth Int = false
same_type Truth Truth = true
same_type Truth Text = false
same_type Text Int = false
same_type Text Truth = false
same_type Text Text = true

-- the same types in the same places, and as many
abbrev pub same_types : List Ty → List Ty → Bool
same_types a b = pointwise same_type a b

-- there is a type, and it is this one
abbrev pub is_of : Ty → Option Ty → Bool
is_of t None = false
is_of t (Some found) = same_type t found

-- the type of both, where it is the same
abbrev pub agreed : Option Ty → Option Ty → Option Ty
agreed None b = None
agreed (Some x) None = None
agreed (Some x) (Some y) = if same_type x y then Some x else None

-- the value, where the condition holds
abbrev pub allowed : {X : Type 0} → Bool → X → Option X
allowed condition x = if condition then Some x else None

-- what two values give, where there are both
abbrev pub with_both : {X Y Z : Type 0} → (X → Y → Z) → Option X → Option Y → Option Z
with_both f None b = None
with_both f (Some x) None = None
with_both f (Some x) (Some y) = Some (f x y)

-- all the values, where there is each
abbrev pub each : {X : Type 0} → List (Option X) → Option (List X)
each [] = Some []
each (o ∷ os) = with_both (λ x xs. x ∷ xs) o (each os)

-- the column types of a scope: the last entry of the list that is for it holds
abbrev pub scope_types : List (ℕ × List Ty) → ℕ → Option (List Ty)
scope_types scopes k = fold (λ found entry. if entry.0 == k then Some entry.1 else found) None scopes

-- the context in the body of a binder, where the scope has these types
abbrev pub extended : Context → ℕ → List Ty → Context
extended context k types = record context { scopes = context.scopes ++ (k, types) ∷ [] }

-- a text has at most 65,535 bytes: a longer one is TooLong for a field, and here has no type
abbrev pub literal_type : Value → Option Ty
literal_type v = allowed (is_within_limits v) (type_of_value v)

-- connectives take and give bools, comparisons take two sides of one type and give a bool, and arithmetic takes and gives ints
abbrev pub operator_type : Op → Option Ty → Option Ty → Option Ty
operator_type Or a b = allowed (is_of Truth a && is_of Truth b) Truth
operator_type And a b = allowed (is_of Truth a && is_of Truth b) Truth
operator_type Eq a b = allowed (is_some (agreed a b)) Truth
operator_type Ne a b = allowed (is_some (agreed a b)) Truth
operator_type Lt a b = allowed (is_some (agreed a b)) Truth
operator_type Le a b = allowed (is_some (agreed a b)) Truth
operator_type Gt a b = allowed (is_some (agreed a b)) Truth
operator_type Ge a b = allowed (is_some (agreed a b)) Truth
operator_type Add a b = allowed (is_of Int a && is_of Int b) Int
operator_type Sub a b = allowed (is_of Int a && is_of Int b) Int
operator_type Mul a b = allowed (is_of Int a && is_of Int b) Int
operator_type Div a b = allowed (is_of Int a && is_of Int b) Int
operator_type Rem a b = allowed (is_of Int a && is_of Int b) Int

-- `not` takes and gives a bool
abbrev pub negation_type : Option Ty → Option Ty
negation_type a = allowed (is_of Truth a) Truth

-- `if` takes a bool and two sides of one type
abbrev pub choice_type : Option Ty → Option Ty → Option Ty → Option Ty
choice_type c a b = if is_of Truth c then agreed a b else None

-- the type of an expression takes the types of the columns and a context
abbrev pub ExprTyping : Type 0
ExprTyping = List Ty → Context → Option Ty

-- one node of an expression: each column, scope and parameter is there
abbrev pub expr_type_step : Expr-F ExprTyping → ExprTyping
expr_type_step (Col i) columns context = slice_get columns i
expr_type_step (Scope k i) columns context = option_and_then (λ types. slice_get types i) (scope_types context.scopes k)
expr_type_step (Param i) columns context = slice_get context.params i
expr_type_step (Lit v) columns context = literal_type v
expr_type_step (Bin op a b) columns context = operator_type op (a columns context) (b columns context)
expr_type_step (Not a) columns context = negation_type (a columns context)
expr_type_step (If c a b) columns context = choice_type (c columns context) (a columns context) (b columns context)

-- the type of an expression under a context that is within limits
abbrev pub type_under : Expr → ExprTyping
type_under e = fold-Expr ExprTyping expr_type_step e

-- the types of expressions, where each has one
abbrev pub types_of_each : List Expr → List Ty → Context → Option (List Ty)
types_of_each es columns context = each (map (λ e. type_under e columns context) es)

-- a table, a scope and a relation have 1 to 64 columns
abbrev pub are_columns : List Ty → Bool
are_columns types = nat_lt 0 (length types) && nat_le (length types) most_columns

-- the types, where they are 1 to 64
abbrev pub within_limits : Option (List Ty) → Option (List Ty)
within_limits types = option_and_then (λ columns. allowed (are_columns columns) columns) types

-- the column types of all the operands appended
abbrev pub cross_types : List (Option (List Ty)) → Option (List Ty)
cross_types operands = within_limits (option_map (λ all. flat_map (λ types. types) all) (each operands))

-- the column types of the first, where all have them
abbrev pub common_types : List (List Ty) → Option (List Ty)
common_types operands = option_and_then (λ first. allowed (list_all (λ types. same_types first types) operands) first) (slice_get operands 0)

-- counts and sums are ints, a sum takes an int column, and the least and the greatest have their column's type
abbrev pub aggregate_type : List Ty → Agg → Option Ty
aggregate_type columns Count = Some Int
aggregate_type columns (Sum at) = allowed (is_of Int (slice_get columns at)) Int
aggregate_type columns (Min at) = slice_get columns at
aggregate_type columns (Max at) = slice_get columns at

-- the types of the keys, then of the aggregates
abbrev pub group_types : List ℕ → List Agg → List Ty → Option (List Ty)
group_types ks aggs columns = within_limits (with_both (λ keys values. keys ++ values) (each (map (λ k. slice_get columns k) ks)) (each (map (aggregate_type columns) aggs)))

-- 1 to 65,535 keys, each on a column that is there
abbrev pub are_sorting_keys : List Key → List Ty → Bool
are_sorting_keys ks columns = (nat_lt 0 (length ks) && nat_le (length ks) most_sorting_keys) && list_all (λ k. nat_lt k.col (length columns)) ks

-- at most 4 key columns, and keys of their types
abbrev pub are_hash_keys : List Ty → Option (List Ty) → Bool
are_hash_keys columns None = false
are_hash_keys columns (Some keys) = nat_le (length columns) most_hash_columns && same_types columns keys

-- a bound of the type, over no columns
abbrev pub is_bound : Ty → Bound → Context → Bool
is_bound t Any context = true
is_bound t (Incl e) context = is_of t (type_under e [] context)
is_bound t (Excl e) context = is_of t (type_under e [] context)

-- one column, and bounds of its type
abbrev pub is_range : List Ty → Bound → Bound → Context → Bool
is_range [] lo hi context = false
is_range (t ∷ []) lo hi context = is_bound t lo context && is_bound t hi context
is_range (t ∷ u ∷ types) lo hi context = false

-- the column types of a relation take a context
abbrev pub RelTyping : Type 0
RelTyping = Context → Option (List Ty)

-- one operator: a binder extends the context of its body, and the expressions of an index stand outside
abbrev pub column_types_step : Rel-F RelTyping → RelTyping
column_types_step (rel.Table n) context = slice_get context.tables n
column_types_step (rel.Scalar e) context = option_map (λ t. t ∷ []) (type_under e [] context)
column_types_step (rel.Cross rs) context = cross_types (map (λ (r : RelTyping). r context) rs)
column_types_step (rel.Concat rs) context = option_and_then common_types (each (map (λ (r : RelTyping). r context) rs))
column_types_step (rel.Select es r) context = option_and_then (λ columns. within_limits (types_of_each es columns context)) (r context)
column_types_step (rel.Filter e r) context = option_and_then (λ columns. allowed (is_of Truth (type_under e columns context)) columns) (r context)
column_types_step (rel.Join e r s) context = option_and_then (λ columns. allowed (is_of Truth (type_under e columns context)) columns) (cross_types (r context ∷ s context ∷ []))
column_types_step (rel.DepJoin k r s) context = option_and_then (λ columns. s (extended context k columns)) (r context)
column_types_step (rel.Group ks aggs r) context = option_and_then (λ columns. group_types ks aggs columns) (r context)
column_types_step (rel.Order ks r) context = option_and_then (λ columns. allowed (are_sorting_keys ks columns) columns) (r context)
column_types_step (rel.Dedup r) context = r context
column_types_step (rel.List k r s) context = option_and_then (λ columns. s (extended context k columns)) (r context)
column_types_step (rel.Hash k r s es) context = option_and_then (λ columns. if are_hash_keys columns (types_of_each es [] context) then s (extended context k columns) else None) (r context)
column_types_step (rel.Ord k r s lo hi) context = option_and_then (λ columns. if is_range columns lo hi context then s (extended context k columns) else None) (r context)

-- the column types of a relation under a context that is within limits
abbrev pub types_under : Rel → RelTyping
types_under q = fold-Rel RelTyping column_types_step q

-- every table and every scope has 1 to 64 columns
abbrev pub is_context : Context → Bool
is_context context = list_all are_columns context.tables && list_all (λ entry. are_columns entry.1) context.scopes

-- the type of an expression over columns under a context, and none where it isn't well typed there
abbrev pub expr_type_of : Expr → List Ty → Context → Option Ty
expr_type_of e columns context = if is_context context then type_under e columns context else None

-- the column types of a relation under a context, and none where it isn't well typed there
abbrev pub column_types : Rel → Context → Option (List Ty)
column_types q context = if is_context context then types_under q context else None

-- the relation is well typed under the context
abbrev pub Typed : Rel → Context → Type 0
Typed q context = IsSome (column_types q context)
