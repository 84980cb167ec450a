-- Types that are equal, and the sides of an equation.
use Rattle.std.proofs.Common.{◌≡◌, List, [], ◌∷◌, true, refl, Option, Some, None}
use Rattle.std.specs.Prelude.{is_some}
use Rattle.std.proofs.lemmas.Bool.{and_from}
use Rattle.castor_val.specs.declared.value.Ty.{Ty}
use Rattle.castor_val.specs.declared.value.Ty.TheVariants as ty
use Rattle.castor_alg.specs.declared.expr.Op.TheVariants.{Eq}
use Rattle.castor_alg.specs.Typing.{agreed, operator_type, same_type, same_types}
use Rattle.castor_laws.proofs.TypePartLaws.{agreed_parts, allowed_parts}

some_of : {X : Type 0} (o : Option X) → is_some o ≡ true → (x : X) × (o ≡ Some x)
some_of None is = cc
some_of (Some x) is = (x, refl)

pub same_type_itself : (t : Ty) → same_type t t ≡ true
same_type_itself ty.Int = refl
same_type_itself ty.Bool = refl
same_type_itself ty.Text = refl

pub same_types_itself : (ts : List Ty) → same_types ts ts ≡ true
same_types_itself [] = refl
same_types_itself (t ∷ ts) = and_from (same_type t t) (same_types ts ts) (same_type_itself t) (same_types_itself ts)

-- the sides of an equation have one type
pub sides_agree : (a b : Option Ty) → operator_type Eq a b ≡ Some ty.Bool → (t : Ty) × (a ≡ Some t) × (b ≡ Some t)
sides_agree a b is =
    let some = some_of (agreed a b) (allowed_parts (is_some (agreed a b)) ty.Bool ty.Bool is).0 in
    let parts = agreed_parts a b some.0 some.1 in
    (some.0, parts.0, parts.1)
