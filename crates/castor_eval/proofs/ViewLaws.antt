-- Sets of keys that stand for rows.
use Rattle.std.proofs.Common.{◌≡◌, ◌∙◌, ◌+◌, List, [], ◌∷◌, ◌++◌, map, refl, ap, cond, Bool, true, false, ◌||◌, not}
use Rattle.std.specs.List.{list_any, position_or_len}
use Rattle.std.specs.declared.vec.Vec.{Vec}
use Rattle.std.proofs.lemmas.List.{map-append}
use Rattle.castor_val.specs.contracts.value.CellPartialEq.TheImpl as eq
use Rattle.castor_val.specs.declared.row.Row.{Row}
use Rattle.castor_val.specs.declared.value.Cell.{Cell}
use Rattle.castor_val.specs.Values.{same_row}
use Rattle.castor_val.proofs.CellLaws.{cells_eq}
use Rattle.castor_eval.specs.Keys.{key_values}
use lib.Pointwise.{pointwise}

module _ {K X : Type 0} (eq : K → K → Bool) (same : X → X → Bool) (view : K → X) (agree : (a b : K) → eq a b ≡ same (view a) (view b)) where
  pub any-view : (k : K) (keys : List K) → list_any (eq k) keys ≡ list_any (same (view k)) (map view keys)
  any-view k [] = refl
  any-view k (j ∷ keys) = (λ i. agree k j i || any-view k keys i)

  pub position-view : (k : K) (keys : List K) → position_or_len (eq k) keys ≡ position_or_len (same (view k)) (map view keys)
  position-view k [] = refl
  position-view k (j ∷ keys) = (λ i. cond (not (agree k j i)) (1 + position-view k keys i) 0)

  view_cond : (b : Bool) (k : K) (keys : List K) → map view (cond b keys (keys ++ k ∷ [])) ≡ cond b (map view keys) (map view keys ++ view k ∷ [])
  view_cond true k keys = refl
  view_cond false k keys = map-append view keys (k ∷ [])

  -- the keys of a set in which one more was put
  pub insert-view : (k : K) (keys : List K) → map view (cond (list_any (eq k) keys) keys (keys ++ k ∷ [])) ≡ cond (list_any (same (view k)) (map view keys)) (map view keys) (map view keys ++ view k ∷ [])
  insert-view k keys = view_cond (list_any (eq k) keys) k keys ∙ ap (λ b. cond b (map view keys) (map view keys ++ view k ∷ [])) (any-view k keys)

-- the equality of keys
abbrev pub key_eq : {A : Type 0} → Vec Cell A → Vec Cell A → Bool
key_eq a b = pointwise eq.ghosts.eq a.items b.items

pub key_agree : {A : Type 0} (a b : Vec Cell A) → key_eq a b ≡ same_row (key_values a) (key_values b)
key_agree a b = cells_eq a.items b.items

abbrev pub holds : Row → List Row → Bool
holds key keys = list_any (same_row key) keys

-- a set of keys in which one more was put
pub holds-key : {A : Type 0} (key : Vec Cell A) (keys : List (Vec Cell A)) (row : Row) → key_values key ≡ row → list_any (key_eq key) keys ≡ holds row (map key_values keys)
holds-key key keys row e = any-view key_eq same_row key_values key_agree key keys ∙ ap (λ r. holds r (map key_values keys)) e

pub position-key : {A : Type 0} (key : Vec Cell A) (keys : List (Vec Cell A)) (row : Row) → key_values key ≡ row → position_or_len (key_eq key) keys ≡ position_or_len (same_row row) (map key_values keys)
position-key key keys row e = position-view key_eq same_row key_values key_agree key keys ∙ ap (λ r. position_or_len (same_row r) (map key_values keys)) e

pub insert-key : {A : Type 0} (key : Vec Cell A) (keys keys' : List (Vec Cell A)) (row : Row) → key_values key ≡ row → keys' ≡ cond (list_any (key_eq key) keys) keys (keys ++ key ∷ [])
    → map key_values keys' ≡ cond (holds row (map key_values keys)) (map key_values keys) (map key_values keys ++ row ∷ [])
insert-key key keys keys' row e is =
    ap (map key_values) is ∙ insert-view key_eq same_row key_values key_agree key keys
    ∙ ap (λ r. cond (holds r (map key_values keys)) (map key_values keys) (map key_values keys ++ r ∷ [])) e
