-- Keys that are moved one after another, and places among scalars.
use Rattle.std.proofs.Common.{◌≡◌, ◌∙◌, ℕ, ◌+◌, ◌<◌, List, [], ◌∷◌, ◌++◌, map, length, drop, get_or, refl, sym, ap, cond, Bool, true, false, not, ◌&&◌, Option, Some, None, append-nil}
use Rattle.std.specs.Prelude.{nat_lt, position}
use Rattle.std.specs.List.{list_all, position_or_len}
use Rattle.std.proofs.lemmas.Bool.{and_parts}
use Rattle.std.proofs.lemmas.List.{drop_more, length-map}
use Rattle.castor_alg.specs.declared.expr.Expr.{Expr}
use Rattle.castor_alg.specs.declared.rel.Key.{Key}
use Rattle.castor_alg.specs.declared.rel.Rel.{Rel}
use Rattle.castor_alg.specs.declared.rel.Rel as R
use Rattle.std.proofs.lemmas.Simd.{map-map}
use Rattle.castor_alg.proofs.RelInduction.{fold-Cross, fold-Select}
use Rattle.castor_script.specs.KnownKeys.{Known, all_values, front_key, is_column, is_scope_column, is_value, is_value_of, known, known_keys, known_step, moved, moved_into, with_value}

-- all keys are moved where the next has no place
pub moved_ends : (place : ℕ → Option ℕ) (ks : List Key) (i : ℕ) (kept : List Key) (d : Key) → i < length ks → moved place ks ≡ kept ++ moved place (drop i ks) → place (get_or ks i d).col ≡ None → kept ≡ moved place ks
moved_ends place ks i kept d inside all none =
    sym (all ∙ ap (λ rest. kept ++ moved place rest) (drop_more ks i d inside) ∙ ap (λ o. kept ++ front_key o (get_or ks i d).desc (moved place (drop (i + 1) ks))) none ∙ append-nil kept)

-- the keys of a projection
pub select_keys : (q : Rel) (es : List Expr) (r : Rel) (keys kept : List Key) → q ≡ R.Select es r → keys ≡ known_keys r → kept ≡ moved (λ c. position (is_column c) es) keys → kept ≡ known_keys q
select_keys q es r keys kept is of all =
    all ∙ ap (moved (λ c. position (is_column c) es)) of ∙ sym (ap (λ (k : Known). k.keys) (ap known is ∙ fold-Select Known known_step es r))

-- a place by a test is one by what the test says
place-map : {X : Type 0} (p : X → Bool) (xs : List X) → position_or_len p xs ≡ position_or_len (λ b. b) (map p xs)
place-map p [] = refl
place-map p (x ∷ xs) = ap (λ n. cond (not (p x)) (1 + n) 0) (place-map p xs)

position-map : {X : Type 0} (p : X → Bool) (xs : List X) → position p xs ≡ position (λ b. b) (map p xs)
position-map p xs = λ i. cond (nat_lt (place-map p xs i) (sym (length-map xs p) i)) (Some (place-map p xs i)) None

abbrev value_in : Rel → Option Expr
value_in r = (known r).value

-- the expressions of scalars, and the places of their scope's columns among them
record Scalars (rs : List Rel) : Type 0 where
  es : List Expr
  all : all_values (map value_in rs) ≡ Some es
  tests : (k c : ℕ) → map (is_scope_column k c) es ≡ map (λ r. is_value_of k c (value_in r)) rs

one_more : (r : Rel) (rs : List Rel) (v : Option Expr) → value_in r ≡ v → is_value v ≡ true → Scalars rs → Scalars (r ∷ rs)
one_more r rs None is there s = cc
one_more r rs (Some e) is there s = record {
  es = e ∷ s.es;
  all = (λ i. with_value (is i) (s.all i));
  tests = λ k c i. is_value_of k c (sym is i) ∷ s.tests k c i;
}

scalars : (rs : List Rel) → list_all (λ r. is_value (value_in r)) rs ≡ true → Scalars rs
scalars [] there = record { es = []; all = refl; tests = λ k c. refl }
scalars (r ∷ rs) there =
    let parts = and_parts (is_value (value_in r)) (list_all (λ q. is_value (value_in q)) rs) there in
    one_more r rs (value_in r) refl parts.0 (scalars rs parts.1)

-- keys moved to scalars
pub moved_to_scalars : (rs : List Rel) (k : ℕ) (ks : List Key) → list_all (λ r. is_value (value_in r)) rs ≡ true
    → moved (λ c. position (λ r. is_value_of k c (value_in r)) rs) ks ≡ moved_into (all_values (map value_in rs)) k ks
moved_to_scalars rs k ks there =
    let s = scalars rs there in
    (λ i. moved (λ c. (position-map (λ r. is_value_of k c (value_in r)) rs ∙ ap (position (λ b. b)) (sym (s.tests k c)) ∙ sym (position-map (is_scope_column k c) s.es)) i) ks)
    ∙ ap (λ values. moved_into values k ks) (sym s.all)

none_more : (v : Option Expr) (o : Option (List Expr)) → (is_value v ≡ true → o ≡ None) → with_value v o ≡ None
none_more None o h = refl
none_more (Some e) None h = refl
none_more (Some e) (Some es) h = let no : Some es ≡ None = h refl in cc

rest_not : (a b : Bool) → (a && b) ≡ false → a ≡ true → b ≡ false
rest_not true b isnt is = isnt
rest_not false b isnt is = cc

not_all : (rs : List Rel) → list_all (λ r. is_value (value_in r)) rs ≡ false → all_values (map value_in rs) ≡ None
not_all [] isnt = cc
not_all (r ∷ rs) isnt = none_more (value_in r) (all_values (map value_in rs)) (λ is. not_all rs (rest_not _ _ isnt is))

-- no key is moved where an operand isn't a scalar
pub moved_nowhere : (rs : List Rel) (k : ℕ) (ks : List Key) → list_all (λ r. is_value (value_in r)) rs ≡ false → [] ≡ moved_into (all_values (map value_in rs)) k ks
moved_nowhere rs k ks isnt = ap (λ values. moved_into values k ks) (sym (not_all rs isnt))

-- the expressions of a cross of scalars
pub cross_values : (q : Rel) (rs : List Rel) (k : ℕ) (ks kept : List Key) → q ≡ R.Cross rs → kept ≡ moved_into (all_values (map value_in rs)) k ks → kept ≡ moved_into (known q).values k ks
cross_values q rs k ks kept is all =
    all ∙ ap (λ values. moved_into (all_values values) k ks) (sym (map-map (λ (r : Known). r.value) known rs))
    ∙ sym (ap (λ (r : Known). moved_into r.values k ks) (ap known is ∙ fold-Cross Known known_step rs))
