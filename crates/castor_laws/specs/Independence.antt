-- On which scopes a value, a meaning and their types depend.
use Rattle.std.specs.Prelude.{◌≡◌, ℕ, List, Bool, false, true}
use Rattle.castor_val.specs.declared.row.Row.{Row}
use Rattle.castor_val.specs.declared.table.Table.{Table}
use Rattle.castor_val.specs.declared.value.Ty.{Ty}
use Rattle.castor_alg.specs.declared.context.Context.{Context}
use Rattle.castor_alg.specs.declared.expr.Expr.{Expr}
use Rattle.castor_alg.specs.declared.rel.Rel.{Rel}
use Rattle.castor_alg.specs.Expression.{expr_value}
use Rattle.castor_alg.specs.FreeScopes.{is_free, reads}
use Rattle.castor_alg.specs.Meaning.{meaning}
use Rattle.castor_alg.specs.Scopes.{Scopes, bind}
use Rattle.castor_alg.specs.Typing.{extended, scope_types, type_under, types_under}

-- two environments have one row at each scope that the expression reads
abbrev pub AgreeOnReads : Expr → Scopes → Scopes → Type 0
AgreeOnReads e env other = (k : ℕ) → reads k e ≡ true → env k ≡ other k

-- where they do, the expression has one value
abbrev pub RestsOnReads : Expr → Type 0
RestsOnReads e = (row : Row) (env other : Scopes) (params : Row) → AgreeOnReads e env other → expr_value e row env params ≡ expr_value e row other params

-- two environments have one row at each scope that is free in the relation
abbrev pub AgreeOnFree : Rel → Scopes → Scopes → Type 0
AgreeOnFree q env other = (k : ℕ) → is_free k q ≡ true → env k ≡ other k

-- where they do, the relation has one meaning
abbrev pub RestsOnFree : Rel → Type 0
RestsOnFree q = (tables : List Table) (env other : Scopes) (params : Row) → AgreeOnFree q env other → meaning q tables env params ≡ meaning q tables other params

-- where the expression doesn't read the scope, binding it changes nothing
abbrev pub ValueIgnores : Expr → ℕ → Type 0
ValueIgnores e k = reads k e ≡ false → (row : Row) (env : Scopes) (bound params : Row) → expr_value e row (bind env k bound) params ≡ expr_value e row env params

-- where the scope isn't free in the relation, binding it changes nothing
abbrev pub MeaningIgnores : Rel → ℕ → Type 0
MeaningIgnores q k = is_free k q ≡ false → (tables : List Table) (env : Scopes) (bound params : Row) → meaning q tables (bind env k bound) params ≡ meaning q tables env params

-- two lists of scopes give the same column types to each scope that is read
abbrev pub SameScopeTypes : (ℕ → Bool) → List (ℕ × List Ty) → List (ℕ × List Ty) → Type 0
SameScopeTypes is_read scopes others = (k : ℕ) → is_read k ≡ true → scope_types scopes k ≡ scope_types others k

-- where two contexts differ at scopes that the expression doesn't read alone, it has one type
abbrev pub TypeRestsOnReads : Expr → Type 0
TypeRestsOnReads e = (columns : List Ty) (context : Context) (others : List (ℕ × List Ty)) → SameScopeTypes (λ k. reads k e) context.scopes others → type_under e columns context ≡ type_under e columns (record context { scopes = others })

-- where two contexts differ at scopes that aren't free in the relation alone, it has one list of column types
abbrev pub TypesRestOnFree : Rel → Type 0
TypesRestOnFree q = (context : Context) (others : List (ℕ × List Ty)) → SameScopeTypes (λ k. is_free k q) context.scopes others → types_under q context ≡ types_under q (record context { scopes = others })

-- where the expression doesn't read the scope, its type is the same where that is bound
abbrev pub TypeIgnores : Expr → ℕ → Type 0
TypeIgnores e k = reads k e ≡ false → (columns : List Ty) (context : Context) (bound : List Ty) → type_under e columns (extended context k bound) ≡ type_under e columns context

-- where the scope isn't free in the relation, its column types are the same where that is bound
abbrev pub TypesIgnore : Rel → ℕ → Type 0
TypesIgnore q k = is_free k q ≡ false → (context : Context) (bound : List Ty) → types_under q (extended context k bound) ≡ types_under q context
