-- What is so of the parts of what has a type.
use Rattle.std.proofs.Common.{◌≡◌, List, [], ◌∷◌, Bool, true, false, refl, Option, Some, None, option_and_then, option_map, if◌then◌else◌}
use Rattle.std.specs.Prelude.{is_some}
use Rattle.std.proofs.lemmas.Bool.{and_parts}
use Rattle.castor_val.specs.declared.value.Ty.{Ty}
use Rattle.castor_val.specs.declared.value.Ty.TheVariants.{Int, Bool as Truth, Text}
use Rattle.castor_alg.specs.Typing.{agreed, allowed, are_columns, is_of, same_type, same_types, with_both, within_limits}

pub and_then_parts : {X Y : Type 0} (f : X → Option Y) (o : Option X) (y : Y) → option_and_then f o ≡ Some y → (x : X) × (o ≡ Some x) × (f x ≡ Some y)
and_then_parts f None y is = cc
and_then_parts f (Some x) y is = (x, refl, is)

pub and_then-and_then : {X Y Z : Type 0} (f : Y → Option Z) (g : X → Option Y) (h : X → Option Z) → ((x : X) → option_and_then f (g x) ≡ h x) → (o : Option X) → option_and_then f (option_and_then g o) ≡ option_and_then h o
and_then-and_then f g h is None = refl
and_then-and_then f g h is (Some x) = is x

pub and_then-if : {X Y : Type 0} (f : X → Option Y) (condition : Bool) (o : Option X) → option_and_then f (if condition then o else None) ≡ (if condition then option_and_then f o else None)
and_then-if f true o = refl
and_then-if f false o = refl

pub map_parts : {X Y : Type 0} (f : X → Y) (o : Option X) (y : Y) → option_map f o ≡ Some y → (x : X) × (o ≡ Some x) × (f x ≡ y)
map_parts f None y is = cc
map_parts f (Some x) y is = (x, refl, cc)

pub both_parts : {X Y Z : Type 0} (f : X → Y → Z) (o : Option X) (p : Option Y) (z : Z) → with_both f o p ≡ Some z → (x : X) × (y : Y) × (o ≡ Some x) × (p ≡ Some y) × (f x y ≡ z)
both_parts f None p z is = cc
both_parts f (Some x) None z is = cc
both_parts f (Some x) (Some y) z is = (x, y, refl, refl, cc)

pub allowed_parts : {X : Type 0} (condition : Bool) (x y : X) → allowed condition x ≡ Some y → (condition ≡ true) × (x ≡ y)
allowed_parts true x y is = (refl, cc)
allowed_parts false x y is = cc

pub if_parts : {X : Type 0} (condition : Bool) (o : Option X) (x : X) → (if condition then o else None) ≡ Some x → (condition ≡ true) × (o ≡ Some x)
if_parts true o x is = (refl, is)
if_parts false o x is = cc

-- what is well typed stands under a context within limits, and has types
pub well_typed_parts : {X : Type 0} (b : Bool) (o : Option X) → is_some (if b then o else None) ≡ true → (b ≡ true) × ((x : X) × (o ≡ Some x))
well_typed_parts true None is = cc
well_typed_parts true (Some x) is = (refl, (x, refl))
well_typed_parts false o is = cc

pub limited_parts : (o : Option (List Ty)) (types : List Ty) → within_limits o ≡ Some types → o ≡ Some types
limited_parts None types is = cc
limited_parts (Some columns) types is = let same = (allowed_parts (are_columns columns) columns types is).1 in cc

pub same_type-equal : (a b : Ty) → same_type a b ≡ true → a ≡ b
same_type-equal Int Int is = refl
same_type-equal Int Truth is = cc
same_type-equal Int Text is = cc
same_type-equal Truth Int is = cc
same_type-equal Truth Truth is = refl
same_type-equal Truth Text is = cc
same_type-equal Text Int is = cc
same_type-equal Text Truth is = cc
same_type-equal Text Text is = refl

pub same_types-equal : (xs ys : List Ty) → same_types xs ys ≡ true → xs ≡ ys
same_types-equal [] [] is = refl
same_types-equal [] (y ∷ ys) is = cc
same_types-equal (x ∷ xs) [] is = cc
same_types-equal (x ∷ xs) (y ∷ ys) is =
    let parts = and_parts (same_type x y) (same_types xs ys) is in
    let first = same_type-equal x y parts.0 in
    let rest = same_types-equal xs ys parts.1 in
    λ i. first i ∷ rest i

pub is_of-equal : (t : Ty) (o : Option Ty) → is_of t o ≡ true → o ≡ Some t
is_of-equal t None is = cc
is_of-equal t (Some found) is = let same = same_type-equal t found is in cc

agreed_at : (x y t : Ty) (same : Bool) → same_type x y ≡ same → (if same then Some x else None) ≡ Some t → (Some x ≡ Some t) × (Some y ≡ Some t)
agreed_at x y t true is found = let same = same_type-equal x y is in (found, cc)
agreed_at x y t false is found = cc

pub agreed_parts : (a b : Option Ty) (t : Ty) → agreed a b ≡ Some t → (a ≡ Some t) × (b ≡ Some t)
agreed_parts None b t is = cc
agreed_parts (Some x) None t is = cc
agreed_parts (Some x) (Some y) t is = agreed_at x y t (same_type x y) refl is
