-- The keys of `hash`.
use Rattle.std.specs.Prelude.{ℕ, ◌+◌, ◌++◌, ◌==◌, List, [], ◌∷◌, Result, Ok, Bool, ◌&&◌, nat_le}
use Rattle.castor_val.specs.Limits.{most_hash_columns}
use Rattle.castor_tree.specs.declared.tree.PExpr.{PExpr}
use Rattle.castor_names.specs.Turns.{and_then, in_order}
use Rattle.castor_names.specs.declared.declarations.Declarations.{Declarations}
use Rattle.castor_names.specs.declared.error.SchemaError.{SchemaError}
use Rattle.castor_names.specs.declared.scopes.Scope.{Scope}
use Rattle.castor_exprs.specs.Expressions.{expression}
use Rattle.castor_exprs.specs.declared.expression.Typed.{Typed}
use Rattle.castor_exprs.specs.declared.indexes.IndexKeys.{IndexKeys}

-- one more key of a hash index, which reads no columns
unfoldable pub with_index_key : Declarations → List Scope → IndexKeys → PExpr → Result IndexKeys SchemaError
with_index_key known scopes found e =
    and_then (expression e known scopes []) (λ (key : Typed).
    Ok (record { exprs = found.exprs ++ key.expr ∷ []; types = found.types ++ key.ty ∷ [] }))

-- the keys of a hash index, in their order
unfoldable pub index_keys : Declarations → List Scope → List PExpr → Result IndexKeys SchemaError
index_keys known scopes es = in_order (with_index_key known scopes) (record { exprs = []; types = [] }) es

-- 1 to 4 columns, and as many keys
abbrev pub is_key_count : ℕ → ℕ → Bool
is_key_count columns keys = nat_le 1 columns && (nat_le columns most_hash_columns && columns == keys)
