-- The bounds of `ordered`.
use Rattle.std.specs.Prelude.{List, [], Some, None, Result, Ok, Bool, true}
use Rattle.std.specs.Option.{option_map_or}
use Rattle.castor_val.specs.declared.value.Ty.{Ty}
use Rattle.castor_alg.specs.declared.rel.Bound.TheVariants as bound
use Rattle.castor_alg.specs.Typing.{same_type}
use Rattle.castor_tree.specs.declared.tree.PBound.{PBound}
use Rattle.castor_tree.specs.declared.tree.PBound.TheVariants.{Any, Incl, Excl}
use Rattle.castor_names.specs.Turns.{and_then}
use Rattle.castor_names.specs.declared.declarations.Declarations.{Declarations}
use Rattle.castor_names.specs.declared.error.SchemaError.{SchemaError}
use Rattle.castor_names.specs.declared.scopes.Scope.{Scope}
use Rattle.castor_exprs.specs.Expressions.{expression}
use Rattle.castor_exprs.specs.declared.bounds.TypedBound.{TypedBound}
use Rattle.castor_exprs.specs.declared.bounds.TypedRange.{TypedRange}
use Rattle.castor_exprs.specs.declared.expression.Typed.{Typed}

-- one end of a range, which reads no columns
unfoldable pub bound_found : Declarations → List Scope → PBound → Result TypedBound SchemaError
bound_found known scopes Any = Ok (record { bound = bound.Any; ty = None })
bound_found known scopes (Incl e) = and_then (expression e known scopes []) (λ (end : Typed). Ok (record { bound = bound.Incl end.expr; ty = Some end.ty }))
bound_found known scopes (Excl e) = and_then (expression e known scopes []) (λ (end : Typed). Ok (record { bound = bound.Excl end.expr; ty = Some end.ty }))

-- both ends of a range
unfoldable pub range_found : Declarations → List Scope → PBound → PBound → Result TypedRange SchemaError
range_found known scopes lo hi =
    and_then (bound_found known scopes lo) (λ lower.
    and_then (bound_found known scopes hi) (λ upper. Ok (record { lower = lower; upper = upper })))

-- no limit, or one of the type
abbrev pub is_bound_of : Ty → TypedBound → Bool
is_bound_of type end = option_map_or (λ own. same_type type own) end.ty true
