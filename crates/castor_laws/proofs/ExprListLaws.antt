-- The values and types of expressions one after the other.
use Rattle.std.proofs.Common.{◌≡◌, ◌∙◌, suc, List, [], ◌∷◌, ◌++◌, length, refl, sym, ap, Option, Some, Result, Ok, Err}
use Rattle.castor_val.specs.declared.fault.Faults.{Faults}
use Rattle.castor_val.specs.declared.row.Row.{Row}
use Rattle.castor_val.specs.declared.value.Ty.{Ty}
use Rattle.castor_val.specs.declared.value.Value.{Value}
use Rattle.castor_alg.specs.declared.expr.Expr.{Expr}
use Rattle.castor_alg.specs.Expression.{Answer, expr_value, expr_values, put_front}
use Rattle.castor_alg.specs.Scopes.{Scopes}
use Rattle.castor_alg.specs.Typing.{each, with_both}
use Rattle.castor_laws.proofs.TypePartLaws.{both_parts}

-- values one after the other
put_front_parts : (a : Answer) (r : Result Row Faults) (row : Row) → put_front a r ≡ Ok row → (v : Value) × (rest : Row) × (a ≡ Ok v) × (r ≡ Ok rest) × (v ∷ rest ≡ row)
put_front_parts (Ok v) (Ok rest) row is = (v, rest, refl, refl, cc)
put_front_parts (Ok v) (Err f) row is = cc
put_front_parts (Err f) (Ok rest) row is = cc
put_front_parts (Err f) (Err g) row is = cc

pub expr_values-append : (es fs : List Expr) (row : Row) (env : Scopes) (p a b : Row) → expr_values es row env p ≡ Ok a → expr_values fs row env p ≡ Ok b → expr_values (es ++ fs) row env p ≡ Ok (a ++ b)
expr_values-append [] fs row env p a b is more = let same : [] ≡ a = cc in more ∙ ap (λ (r : Row). Ok (r ++ b)) same
expr_values-append (e ∷ es) fs row env p a b is more =
    let parts = put_front_parts (expr_value e row env p) (expr_values es row env p) a is in
    (λ i. put_front (parts.2 i) (expr_values-append es fs row env p parts.1 b parts.3 more i)) ∙ ap (λ (r : Row). Ok (r ++ b)) parts.4

-- and types
pub each-append : (os qs : List (Option Ty)) (a b : List Ty) → each os ≡ Some a → each qs ≡ Some b → each (os ++ qs) ≡ Some (a ++ b)
each-append [] qs a b is more = let same : [] ≡ a = cc in more ∙ ap (λ (ts : List Ty). Some (ts ++ b)) same
each-append (o ∷ os) qs a b is more =
    let parts = both_parts (λ t ts. t ∷ ts) o (each os) a is in
    (λ i. with_both (λ t ts. t ∷ ts) (parts.2 i) (each-append os qs parts.1 b parts.3 more i)) ∙ ap (λ (ts : List Ty). Some (ts ++ b)) parts.4

pub each_long : (os : List (Option Ty)) (a : List Ty) → each os ≡ Some a → length a ≡ length os
each_long [] a is = let same : [] ≡ a = cc in ap length (sym same)
each_long (o ∷ os) a is =
    let parts = both_parts (λ t ts. t ∷ ts) o (each os) a is in
    ap length (sym parts.4) ∙ ap suc (each_long os parts.1 parts.3)
