-- What the code for a query is to what is held for it.
use Rattle.std.specs.Prelude.{◌≡◌, ◌≤◌, List, true, Some, Ok}
use Rattle.castor_val.specs.Limits.{most_depth, most_query_nodes}
use Rattle.castor_val.specs.declared.row.Row.{Row}
use Rattle.castor_val.specs.declared.table.Table.{Table}
use Rattle.castor_val.specs.declared.value.Ty.{Ty}
use Rattle.castor_alg.specs.declared.context.Context.{Context}
use Rattle.castor_alg.specs.declared.held.Held.{Held}
use Rattle.castor_alg.specs.declared.rel.Rel.{Rel}
use Rattle.castor_alg.specs.Fits.{tables_fit}
use Rattle.castor_alg.specs.Meaning.{meaning}
use Rattle.castor_alg.specs.Scopes.{unbound}
use Rattle.castor_alg.specs.Sizes.{depth, nodes}
use Rattle.castor_alg.specs.Typing.{column_types}
use Rattle.castor_code.specs.declared.code.Code.{Code}
use Rattle.castor_code.specs.CodeForms.{is_well_formed}
use Rattle.castor_code.specs.CodeTyping.{code_types}
use Rattle.castor_code.specs.Data.{fits}
use Rattle.castor_code.specs.LayoutMeaning.{layout_meaning}
use Rattle.castor_alg.specs.HeldData.{held_data}
use Rattle.castor_alg.specs.Stages.{stage}

-- what is held, read under the code, means what the query means over each tables that this is held for, under all parameters
abbrev pub MeansQuery : Rel → Held → Code → Type 0
MeansQuery q held code = stage q ≡ Ok tt → (tables : List Table) → held_data q tables ≡ Ok held → (params : Row) → layout_meaning code held unbound params ≡ meaning q tables unbound params

-- what is held over tables of the types fits the code
abbrev pub FitsHeld : Rel → Context → Held → Code → Type 0
FitsHeld q types held code = stage q ≡ Ok tt → (columns : List Ty) → column_types q types ≡ Some columns → (tables : List Table) → tables_fit tables types.tables ≡ true → held_data q tables ≡ Ok held → fits code held ≡ true

-- the code has the column types of the query
abbrev pub HasTypes : Rel → Context → Code → Type 0
HasTypes q types code = stage q ≡ Ok tt → (columns : List Ty) → column_types q types ≡ Some columns → code_types code types ≡ Some columns

-- the code of a query of at most 4,096 nodes and a depth of at most 64 is well formed
abbrev pub IsFormed : Rel → Context → Code → Type 0
IsFormed q types code = stage q ≡ Ok tt → (columns : List Ty) → column_types q types ≡ Some columns → nodes q ≤ most_query_nodes → depth q ≤ most_depth → is_well_formed code ≡ true
