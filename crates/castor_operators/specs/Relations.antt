-- What a relation of names means and its columns, or why it is refused. Its operands come left to right, then its own
-- lists, expressions and conditions.
use Rattle.std.specs.Prelude.{ℕ, ◌+◌, ◌++◌, List, [], ◌∷◌, Result, Ok}
use Rattle.castor_alg.specs.declared.rel.Rel.{Rel}
use Rattle.castor_alg.specs.declared.rel.Rel as core
use Rattle.castor_tree.specs.declared.tree.PRel.{PRel, fold-PRel}
use Rattle.castor_tree.specs.declared.tree.PRel.TheOpen as rel
use Rattle.castor_tree.specs.declared.tree.PRel.TheOpen.{PRel-F}
use Rattle.castor_names.specs.Turns.{and_then, in_order}
use Rattle.castor_names.specs.declared.declarations.Declarations.{Declarations}
use Rattle.castor_names.specs.declared.error.SchemaError.{SchemaError}
use Rattle.castor_names.specs.declared.scopes.Scope.{Scope}
use Rattle.castor_operators.specs.Operators.{concatenated, deduped, depjoined, filtered, grouped, hashed_by, joined, limited, listed, order_by, ordered_by, scalar_found, selected, table_found}
use Rattle.castor_operators.specs.declared.found.Found.{Found}
use Rattle.castor_operators.specs.declared.binders.Binding.{Binding}
use Rattle.castor_operators.specs.declared.operands.Crossing.{Crossing}
use Rattle.castor_operators.specs.declared.operands.Operands.{Operands}

-- what a relation means takes what is declared, the scopes in force and the number of the next binder
abbrev pub Finding : Type 0
Finding = Declarations → List Scope → ℕ → Result Found SchemaError

-- the scope of a binder, bound to the rows of its source
abbrev pub scope_over : ℕ → List ℕ → Found → Scope
scope_over number name from = record { number = number; name = name; columns = from.columns }

-- a binder of a scope, over its source and its body
unfoldable pub binding_of : Scope → Rel → Found → Result Binding SchemaError
binding_of scope source body = Ok (record { number = scope.number; source = source; columns = scope.columns; body = body })

-- the body of a binder over its source: the binder's scope is in force in it
unfoldable pub bound_over : Finding → List ℕ → Declarations → List Scope → ℕ → Found → Result Binding SchemaError
bound_over s name known scopes next from =
    and_then (s known (scope_over next name from ∷ scopes) from.next) (λ body. binding_of (scope_over next name from) from.query body)

-- one more operand of a `cross`
unfoldable pub with_crossed : Declarations → List Scope → Crossing → Finding → Result Crossing SchemaError
with_crossed known scopes found r =
    and_then (r known scopes found.next) (λ (more : Found).
    Ok (record { queries = found.queries ++ more.query ∷ []; columns = found.columns ++ more.columns; next = more.next }))

-- one more operand of a `concat`
unfoldable pub with_operand : Declarations → List Scope → Operands → Finding → Result Operands SchemaError
with_operand known scopes found r =
    and_then (r known scopes found.next) (λ (more : Found).
    Ok (record { queries = found.queries ++ more.query ∷ []; columns = found.columns ++ more.columns ∷ []; next = more.next }))

-- one operator; a binder takes the next number, and its scope is in force in its body alone
abbrev pub relation_step : PRel-F Finding → Finding
relation_step (rel.Table word) known scopes next = table_found known.tables next word.text
relation_step (rel.Scalar item) known scopes next = scalar_found known scopes next item
relation_step (rel.Cross rs) known scopes next =
    and_then (in_order (with_crossed known scopes) (record { queries = []; columns = []; next = next }) rs) (λ (all : Crossing).
    limited (core.Cross all.queries) all.columns all.next)
relation_step (rel.Concat rs) known scopes next =
    and_then (in_order (with_operand known scopes) (record { queries = []; columns = []; next = next }) rs) (λ all. concatenated all)
relation_step (rel.Select items r) known scopes next = and_then (r known scopes next) (λ from. selected known scopes items from)
relation_step (rel.Filter e r) known scopes next = and_then (r known scopes next) (λ from. filtered known scopes e from)
relation_step (rel.Join e r s) known scopes next =
    and_then (r known scopes next) (λ (left : Found).
    and_then (s known scopes left.next) (λ right. joined known scopes e left right))
relation_step (rel.DepJoin word r s) known scopes next =
    and_then (r known scopes (next + 1)) (λ from.
    and_then (bound_over s word.text known scopes next from) (λ binding. depjoined binding))
relation_step (rel.List word r s) known scopes next =
    and_then (r known scopes (next + 1)) (λ from.
    and_then (bound_over s word.text known scopes next from) (λ binding. listed binding))
relation_step (rel.Hash word r s es) known scopes next =
    and_then (r known scopes (next + 1)) (λ from.
    and_then (bound_over s word.text known scopes next from) (λ binding. hashed_by known scopes es binding))
relation_step (rel.Ord word r s lo hi) known scopes next =
    and_then (r known scopes (next + 1)) (λ from.
    and_then (bound_over s word.text known scopes next from) (λ binding. ordered_by known scopes lo hi binding))
relation_step (rel.Group keys aggs r) known scopes next =
    and_then (r known scopes next) (λ from. grouped keys aggs from)
relation_step (rel.Order keys r) known scopes next =
    and_then (r known scopes next) (λ from. order_by keys from)
relation_step (rel.Dedup r) known scopes next = and_then (r known scopes next) (λ from. deduped from)

-- what a relation of names means
abbrev pub relation : PRel → Finding
relation q = fold-PRel Finding relation_step q
