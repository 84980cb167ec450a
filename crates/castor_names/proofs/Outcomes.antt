-- What a check that wasn't refused has shown.
use Rattle.std.proofs.Common.{◌≡◌, refl, ap, Bool, true, false, Option, Some, None, Result, Ok, Err, if◌then◌else◌, ◌&&◌}
use Rattle.std.specs.Prelude.{ok_or}
use Rattle.castor_names.specs.Turns.{and_then}

-- a check after another: what the first has found, and what the second makes of it
pub record Through {X Y E : Type 0} (r : Result X E) (next : X → Result Y E) (y : Y) : Type 0 where
  pub first : X
  pub is : r ≡ Ok first
  pub rest : next first ≡ Ok y

pub through : {X Y E : Type 0} (r : Result X E) (next : X → Result Y E) (y : Y) → and_then r next ≡ Ok y → Through r next y
through (Ok x) next y is = record { first = x; is = refl; rest = is }
through (Err why) next y is = absurd cc

-- what was found, after a condition that refuses
pub record Unless {Y E : Type 0} (b : Bool) (r : Result Y E) (y : Y) : Type 0 where
  pub passes : b ≡ false
  pub rest : r ≡ Ok y

pub unless : {Y E : Type 0} (b : Bool) (why : E) (r : Result Y E) (y : Y) → (if b then Err why else r) ≡ Ok y → Unless b r y
unless true why r y is = absurd cc
unless false why r y is = record { passes = refl; rest = is }

-- what was found, under a condition
pub record Where {Y E : Type 0} (b : Bool) (r : Result Y E) (y : Y) : Type 0 where
  pub holds : b ≡ true
  pub rest : r ≡ Ok y

pub where_true : {Y E : Type 0} (b : Bool) (why : E) (r : Result Y E) (y : Y) → (if b then r else Err why) ≡ Ok y → Where b r y
where_true true why r y is = record { holds = refl; rest = is }
where_true false why r y is = absurd cc

-- what is found
abbrev pub found_as : {X : Type 0} (E : Type 0) → X → Result X E
found_as E x = Ok x

-- both are found alike
pub ok_same : {X E : Type 0} (x y : X) → found_as E x ≡ found_as E y → x ≡ y
ok_same x y is = cc

-- there is a value where its lack is no refusal
pub some_from_ok : {X E : Type 0} (o : Option X) (why : E) (x : X) → ok_or o why ≡ Ok x → o ≡ Some x
some_from_ok None why x is = absurd cc
some_from_ok (Some y) why x is = cc

-- both parts of a test that passes
pub left_true : (a b : Bool) → (a && b) ≡ true → a ≡ true
left_true true b is = refl
left_true false b is = absurd cc

pub right_true : (a b : Bool) → (a && b) ≡ true → b ≡ true
right_true true b is = is
right_true false b is = absurd cc
