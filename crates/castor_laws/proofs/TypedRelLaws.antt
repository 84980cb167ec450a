-- What is so of the operands of a well-typed relation, and when an operator over them is well typed.
use Rattle.std.proofs.Common.{◌≡◌, ◌∙◌, List, Bool, true, false, refl, sym, ap, subst, Option, Some, None, option_and_then, if◌then◌else◌}
use Rattle.std.specs.Prelude.{is_some}
use Rattle.castor_val.specs.declared.row.Row.{Row}
use Rattle.castor_val.specs.declared.table.Table.{Table}
use Rattle.castor_val.specs.declared.value.Ty.{Ty}
use Rattle.castor_val.specs.declared.value.Ty.TheVariants.{Bool as Truth}
use Rattle.castor_alg.specs.declared.context.Context.{Context}
use Rattle.castor_alg.specs.declared.expr.Expr.{Expr}
use Rattle.castor_alg.specs.declared.out.Out.{Out}
use Rattle.castor_alg.specs.declared.rel.Rel.{Rel}
use Rattle.castor_alg.specs.declared.rel.Rel as R
use Rattle.castor_alg.specs.Equivalence.{Equivalent}
use Rattle.castor_alg.specs.Fits.{Fits}
use Rattle.castor_alg.specs.Meaning.{meaning}
use Rattle.castor_alg.specs.Permutation.{SameUpToOrder}
use Rattle.castor_alg.specs.Scopes.{Scopes}
use Rattle.castor_alg.specs.Typing.{Typed, allowed, column_types, is_context, is_of, type_under, types_under}
use Rattle.castor_laws.proofs.OperatorLaws.{same_refl}
use Rattle.castor_laws.proofs.TypeClauseLaws.{types_under-Filter}
use Rattle.castor_laws.proofs.TypePartLaws.{allowed_parts, and_then_parts}

typed_at : (within : Bool) (o p : Option (List Ty)) → is_some (if within then o else None) ≡ true → ((types : List Ty) → o ≡ Some types → p ≡ Some types) → (if within then o else None) ≡ (if within then p else None)
typed_at true None p typed same = cc
typed_at true (Some types) p typed same = sym (same types refl)
typed_at false o p typed same = cc

types_at : (within : Bool) (o : Option (List Ty)) → is_some (if within then o else None) ≡ true → (types : List Ty) × (o ≡ Some types)
types_at true None typed = cc
types_at true (Some types) typed = (types, refl)
types_at false o typed = cc

module _ (context : Context) where
  -- a relation that has the column types of a well-typed one, and its rows up to order and its faults, is equivalent to it
  pub equivalent_where : (q r : Rel) → Typed q context → ((types : List Ty) → types_under q context ≡ Some types → types_under r context ≡ Some types) → ((types : List Ty) → types_under q context ≡ Some types → (ts : List Table) (env : Scopes) (p : Row) → Fits context ts env p → SameUpToOrder (meaning q ts env p) (meaning r ts env p)) → Equivalent context q r
  equivalent_where q r typed same_types same =
      let types = types_at (is_context context) (types_under q context) typed in
      record { typed = typed; same_types = typed_at (is_context context) (types_under q context) (types_under r context) typed same_types; same_meaning = same types.0 types.1 }

  -- likewise where the rows are in one order
  pub equal_where : (q r : Rel) → Typed q context → ((types : List Ty) → types_under q context ≡ Some types → types_under r context ≡ Some types) → ((types : List Ty) → types_under q context ≡ Some types → (ts : List Table) (env : Scopes) (p : Row) → Fits context ts env p → meaning q ts env p ≡ meaning r ts env p) → Equivalent context q r
  equal_where q r typed same_types same =
      equivalent_where q r typed same_types
      (λ types is ts env p fits. subst (λ out. SameUpToOrder (meaning q ts env p) out) (same types is ts env p fits) (same_refl (meaning q ts env p)))

  pub filter_parts : (e : Expr) (r : Rel) (types : List Ty) → types_under (R.Filter e r) context ≡ Some types → (types_under r context ≡ Some types) × (is_of Truth (type_under e types context) ≡ true)
  filter_parts e r types typed =
      let part = and_then_parts (λ columns. allowed (is_of Truth (type_under e columns context)) columns) (types_under r context) types (sym (types_under-Filter context e r) ∙ typed) in
      let test = allowed_parts (is_of Truth (type_under e part.0 context)) part.0 types part.2 in
      (part.1 ∙ ap Some test.1, ap (λ ts. is_of Truth (type_under e ts context)) (sym test.1) ∙ test.0)

  pub filter_typed : (e : Expr) (r : Rel) (types : List Ty) → types_under r context ≡ Some types → is_of Truth (type_under e types context) ≡ true → types_under (R.Filter e r) context ≡ Some types
  filter_typed e r types typed bool =
      types_under-Filter context e r
      ∙ ap (option_and_then (λ columns. allowed (is_of Truth (type_under e columns context)) columns)) typed
      ∙ ap (λ b. allowed b types) bool
