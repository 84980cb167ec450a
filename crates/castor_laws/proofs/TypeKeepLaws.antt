-- What keeps its type where its parts keep theirs.
use Rattle.std.proofs.Common.{◌≡◌, ◌∙◌, Bool, true, false, ◌&&◌, refl, sym, ap, Option, Some, None, option_and_then, if◌then◌else◌}
use Rattle.std.specs.Prelude.{is_some}
use Rattle.std.proofs.lemmas.Bool.{and_right}
use Rattle.castor_val.specs.declared.value.Ty.{Ty}
use Rattle.castor_val.specs.declared.value.Ty.TheVariants.{Int, Bool as Truth}
use Rattle.castor_alg.specs.declared.expr.Op.{Op}
use Rattle.castor_alg.specs.declared.expr.Op.TheVariants.{Or, And, Eq, Ne, Lt, Le, Gt, Ge, Add, Sub, Mul, Div, Rem}
use Rattle.castor_alg.specs.Typing.{agreed, allowed, choice_type, is_of, negation_type, operator_type, with_both}

-- what the first gives, the second gives
abbrev pub Keeps : {X : Type 0} → Option X → Option X → Type 0
Keeps {X} a b = (x : X) → a ≡ Some x → b ≡ Some x

pub kept_by : {X : Type 0} {a b c d : Option X} → a ≡ c → b ≡ d → Keeps c d → Keeps a b
kept_by first second keeps x is = second ∙ keeps x (sym first ∙ is)

pub kept_same : {X : Type 0} {a b : Option X} → a ≡ b → Keeps a b
kept_same same x is = sym same ∙ is

pub kept_on : {X : Type 0} {a b c : Option X} → Keeps a b → Keeps b c → Keeps a c
kept_on first second x is = second x (first x is)

nothing : {X P : Type 0} (x : X) → None ≡ Some x → P
nothing x is = cc

-- what gives nothing of nothing
pub strict_keeps : {X Y : Type 0} (f : Option X → Option Y) → f None ≡ None → (a b : Option X) → Keeps a b → Keeps (f a) (f b)
strict_keeps f strict None b keeps y is = nothing y (sym strict ∙ is)
strict_keeps f strict (Some x) b keeps y is = ap f (keeps x refl) ∙ is

pub strict_gives : {X Y : Type 0} (f : Option X → Option Y) → f None ≡ None → (a : Option X) (y : Y) → f a ≡ Some y → (x : X) × (a ≡ Some x)
strict_gives f strict None y is = nothing y (sym strict ∙ is)
strict_gives f strict (Some x) y is = (x, refl)

pub and_then_keeps : {X Y : Type 0} (f g : X → Option Y) (a b : Option X) → Keeps a b → ((x : X) → Keeps (f x) (g x)) → Keeps (option_and_then f a) (option_and_then g b)
and_then_keeps f g None b keeps then_keeps y is = nothing y is
and_then_keeps f g (Some x) b keeps then_keeps y is = ap (option_and_then g) (keeps x refl) ∙ then_keeps x y is

pub if_keeps : {X : Type 0} (c d : Bool) (a b : Option X) → (c ≡ true → d ≡ true) → Keeps a b → Keeps (if c then a else None) (if d then b else None)
if_keeps true d a b holds keeps x is = ap (λ (t : Bool). if t then b else None) (holds refl) ∙ keeps x is
if_keeps false d a b holds keeps x is = nothing x is

pub both_keep : {X Y Z : Type 0} (f : X → Y → Z) (a : Option X) (b : Option Y) (c : Option X) (d : Option Y) → Keeps a c → Keeps b d → Keeps (with_both f a b) (with_both f c d)
both_keep f None b c d first second z is = nothing z is
both_keep f (Some x) None c d first second z is = nothing z is
both_keep f (Some x) (Some y) c d first second z is = (λ i. with_both f (first x refl i) (second y refl i)) ∙ is

refused : {P : Type 0} → false ≡ true → P
refused is = cc

pub is_of_keeps : (t : Ty) (a b : Option Ty) → Keeps a b → is_of t a ≡ true → is_of t b ≡ true
is_of_keeps t None b keeps is = refused is
is_of_keeps t (Some x) b keeps is = ap (is_of t) (keeps x refl) ∙ is

pub agreed_nothing : (a : Option Ty) → agreed a None ≡ None
agreed_nothing None = refl
agreed_nothing (Some x) = refl

agreed_keeps : (a b c d : Option Ty) → Keeps a c → Keeps b d → Keeps (agreed a b) (agreed c d)
agreed_keeps a b c d first second =
    kept_on (strict_keeps (λ o. agreed o b) refl a c first) (strict_keeps (agreed c) (agreed_nothing c) b d second)

first_missing : (op : Op) (b : Option Ty) → operator_type op None b ≡ None
first_missing Or b = refl
first_missing And b = refl
first_missing Eq b = refl
first_missing Ne b = refl
first_missing Lt b = refl
first_missing Le b = refl
first_missing Gt b = refl
first_missing Ge b = refl
first_missing Add b = refl
first_missing Sub b = refl
first_missing Mul b = refl
first_missing Div b = refl
first_missing Rem b = refl

neither_bool : (a : Option Ty) → allowed (is_of Truth a && false) Truth ≡ None
neither_bool a = ap (λ (c : Bool). allowed c Truth) (and_right (is_of Truth a) false refl)

neither_int : (a : Option Ty) → allowed (is_of Int a && false) Int ≡ None
neither_int a = ap (λ (c : Bool). allowed c Int) (and_right (is_of Int a) false refl)

not_compared : (a : Option Ty) → allowed (is_some (agreed a None)) Truth ≡ None
not_compared a = ap (λ (o : Option Ty). allowed (is_some o) Truth) (agreed_nothing a)

second_missing : (op : Op) (a : Option Ty) → operator_type op a None ≡ None
second_missing Or a = neither_bool a
second_missing And a = neither_bool a
second_missing Eq a = not_compared a
second_missing Ne a = not_compared a
second_missing Lt a = not_compared a
second_missing Le a = not_compared a
second_missing Gt a = not_compared a
second_missing Ge a = not_compared a
second_missing Add a = neither_int a
second_missing Sub a = neither_int a
second_missing Mul a = neither_int a
second_missing Div a = neither_int a
second_missing Rem a = neither_int a

-- the sides of a typed operator have types
pub operator_gives : (op : Op) (a b : Option Ty) (t : Ty) → operator_type op a b ≡ Some t → ((x : Ty) × (a ≡ Some x)) × ((y : Ty) × (b ≡ Some y))
operator_gives op a b t is =
    (strict_gives (λ o. operator_type op o b) (first_missing op b) a t is, strict_gives (operator_type op a) (second_missing op a) b t is)

pub operator_keeps : (op : Op) (a b c d : Option Ty) → Keeps a c → Keeps b d → Keeps (operator_type op a b) (operator_type op c d)
operator_keeps op a b c d first second =
    kept_on (strict_keeps (λ o. operator_type op o b) (first_missing op b) a c first) (strict_keeps (operator_type op c) (second_missing op c) b d second)

pub negation_keeps : (a b : Option Ty) → Keeps a b → Keeps (negation_type a) (negation_type b)
negation_keeps a b keeps = strict_keeps negation_type refl a b keeps

pub choice_keeps : (t a b u c d : Option Ty) → Keeps t u → Keeps a c → Keeps b d → Keeps (choice_type t a b) (choice_type u c d)
choice_keeps t a b u c d test first second =
    if_keeps (is_of Truth t) (is_of Truth u) (agreed a b) (agreed c d) (is_of_keeps Truth t u test) (agreed_keeps a b c d first second)
