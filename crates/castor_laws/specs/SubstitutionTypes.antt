-- The types of expressions and relations in which columns or a scope are replaced.
use Rattle.std.specs.Prelude.{◌≡◌, ℕ, List, [], map, false, Some}
use Rattle.std.specs.List.{list_any}
use Rattle.castor_val.specs.declared.value.Ty.{Ty}
use Rattle.castor_alg.specs.declared.context.Context.{Context}
use Rattle.castor_alg.specs.declared.expr.Expr.{Expr}
use Rattle.castor_alg.specs.declared.rel.Rel.{Rel}
use Rattle.castor_alg.specs.FreeScopes.{reads}
use Rattle.castor_alg.specs.Substitution.{captures, cols_to_scope, subst_cols, subst_scope}
use Rattle.castor_alg.specs.Typing.{Typed, column_types, extended, scope_types, type_under, types_of_each, types_under}
use Rattle.castor_laws.specs.Independence.{SameScopeTypes}

-- where the replacing expressions have types, the type is that over columns of these
abbrev pub ColumnsHaveTypes : List Expr → Expr → Type 0
ColumnsHaveTypes by e = (inner columns : List Ty) (context : Context) → types_of_each by inner context ≡ Some columns → (t : Ty) → type_under e columns context ≡ Some t → type_under (subst_cols by e) inner context ≡ Some t

-- and so are those of several
abbrev pub ColumnsOfEachHaveTypes : List Expr → List Expr → Type 0
ColumnsOfEachHaveTypes by es = (inner columns : List Ty) (context : Context) → types_of_each by inner context ≡ Some columns → (types : List Ty) → types_of_each es columns context ≡ Some types → types_of_each (map (subst_cols by) es) inner context ≡ Some types

-- over all columns the type is that over the scope's, where the scopes that are read have the same types
abbrev pub ColumnsHaveScopeTypes : ℕ → Expr → Type 0
ColumnsHaveScopeTypes k e = (inner columns : List Ty) (context : Context) (others : List (ℕ × List Ty)) → SameScopeTypes (λ j. reads j e) context.scopes others → scope_types others k ≡ Some columns → type_under (cols_to_scope k e) inner (record context { scopes = others }) ≡ type_under e columns context

-- where the expression doesn't read the scope, over all columns the type where the scope is bound is that over its columns
abbrev pub ColumnsHaveBoundTypes : ℕ → Expr → Type 0
ColumnsHaveBoundTypes k e = reads k e ≡ false → (inner columns : List Ty) (context : Context) → type_under (cols_to_scope k e) inner (extended context k columns) ≡ type_under e columns context

-- and so are those of several
abbrev pub ColumnsOfEachHaveBoundTypes : ℕ → List Expr → Type 0
ColumnsOfEachHaveBoundTypes k es = list_any (reads k) es ≡ false → (inner columns : List Ty) (context : Context) → types_of_each (map (cols_to_scope k) es) inner (extended context k columns) ≡ types_of_each es columns context

-- the types of the expressions are these, whatever the columns are
abbrev pub HaveTypes : List Expr → Context → List Ty → Type 0
HaveTypes by context types = (columns : List Ty) → types_of_each by columns context ≡ Some types

-- where no binder captures and the replacing expressions have types over all columns, the column types are those where the scope has these
abbrev pub ScopeHasTypes : ℕ → List Expr → Rel → Type 0
ScopeHasTypes k by q = captures k by q ≡ false → (context : Context) (types : List Ty) → HaveTypes by context types → (columns : List Ty) → types_under q (extended context k types) ≡ Some columns → types_under (subst_scope k by q) context ≡ Some columns

-- so they are within the limits of contexts, where the replacing expressions have types over no columns
abbrev pub ScopeHasColumnTypes : ℕ → List Expr → Rel → Type 0
ScopeHasColumnTypes k by q = captures k by q ≡ false → (context : Context) (types : List Ty) → types_of_each by [] context ≡ Some types → (columns : List Ty) → column_types q (extended context k types) ≡ Some columns → column_types (subst_scope k by q) context ≡ Some columns

-- and the relation is well typed
abbrev pub ScopeIsTyped : ℕ → List Expr → Rel → Type 0
ScopeIsTyped k by q = captures k by q ≡ false → (context : Context) (types : List Ty) → types_of_each by [] context ≡ Some types → Typed q (extended context k types) → Typed (subst_scope k by q) context
