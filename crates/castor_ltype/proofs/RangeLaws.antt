-- The least ranges hold all that they are for.
use Rattle.std.proofs.Common.{◌≡◌, ℕ, ◌≤◌, ℤ, pos, negsuc, List, [], ◌∷◌, ◌++◌, map, fold, min, max, refl, ap, Bool, true, false, not, ◌&&◌, if◌then◌else◌, arith, Some}
use Rattle.std.specs.List.{flat_map}
use Rattle.std.specs.Int.Signed.{lt_z}
use Rattle.std.proofs.lemmas.Bool.{and_from, le-leb, le-ltb, ltb-false, ltb-true, not-true}
use Rattle.castor_val.specs.declared.value.Value.TheVariants.{Int}
use Rattle.castor_code.specs.Pieces.{at_most_int, within}
use Rattle.castor_laws.proofs.EachLaws.{Each, none, one}
use Rattle.castor_ltype.specs.Ranges.{greater, least_range, lesser}
use Rattle.castor_ltype.proofs.LaidLaws.{int_write}

-- two things that hold of each element
pub each_both : {X : Type 0} (P Q : X → Type 0) {xs : List X} → Each P xs → Each Q xs → Each (λ x. P x × Q x) xs
each_both P Q none none = none
each_both P Q (one {x} first rest) (one also more) = one (first, also) (each_both P Q rest more)

pub each_unmap : {X Y : Type 0} (P : Y → Type 0) (f : X → Y) (xs : List X) → Each P (map f xs) → Each (λ x. P (f x)) xs
each_unmap P f [] all = none
each_unmap P f (x ∷ xs) (one first rest) = one first (each_unmap P f xs rest)

each_front : {X : Type 0} (P : X → Type 0) (xs ys : List X) → Each P (xs ++ ys) → Each P xs
each_front P [] ys all = none
each_front P (x ∷ xs) ys (one first rest) = one first (each_front P xs ys rest)

each_rest : {X : Type 0} (P : X → Type 0) (xs ys : List X) → Each P (xs ++ ys) → Each P ys
each_rest P [] ys all = all
each_rest P (x ∷ xs) ys (one first rest) = each_rest P xs ys rest

pub each_unflat : {X Y : Type 0} (P : Y → Type 0) (f : X → List Y) (xs : List X) → Each P (flat_map f xs) → Each (λ x. Each P (f x)) xs
each_unflat P f [] all = none
each_unflat P f (x ∷ xs) all = one (each_front P (f x) (flat_map f xs) all) (each_unflat P f xs (each_rest P (f x) (flat_map f xs) all))

-- numbers
low : (a : ℕ) (ns : List ℕ) → fold min a ns ≤ a
low a [] = omega arith
low a (n ∷ ns) = let l = low (min a n) ns in omega arith

low_each : (a : ℕ) (ns : List ℕ) → Each (λ n. fold min a ns ≤ n) ns
low_each a [] = none
low_each a (n ∷ ns) = one (let l = low (min a n) ns in omega arith) (low_each (min a n) ns)

high : (a : ℕ) (ns : List ℕ) → a ≤ fold max a ns
high a [] = omega arith
high a (n ∷ ns) = let l = high (max a n) ns in omega arith

pub high_each : (a : ℕ) (ns : List ℕ) → Each (λ n. n ≤ fold max a ns) ns
high_each a [] = none
high_each a (n ∷ ns) = one (let l = high (max a n) ns in omega arith) (high_each (max a n) ns)

inside : (lo hi n : ℕ) → lo ≤ n → n ≤ hi → within (record { lo = lo; hi = hi }) n ≡ true
inside lo hi n l h = and_from _ _ (le-leb lo n l) (le-leb n hi h)

all_inside : (lo hi : ℕ) {ns : List ℕ} → Each (λ n. lo ≤ n) ns → Each (λ n. n ≤ hi) ns → Each (λ n. within (record { lo = lo; hi = hi }) n ≡ true) ns
all_inside lo hi none none = none
all_inside lo hi (one {x = n} l ls) (one h hs) = one (inside lo hi n l h) (all_inside lo hi ls hs)

-- each number is within the least range
pub numbers_within : (ns : List ℕ) → Each (λ n. within (least_range ns) n ≡ true) ns
numbers_within [] = none
numbers_within (n ∷ ns) = one (inside _ _ n (low n ns) (high n ns)) (all_inside _ _ (low_each n ns) (high_each n ns))

pub range_rises : (ns : List ℕ) → (least_range ns).lo ≤ (least_range ns).hi
range_rises [] = omega arith
range_rises (n ∷ ns) = let l = low n ns in let h = high n ns in omega arith

-- ints
self : (a : ℤ) → at_most_int a a ≡ true
self (pos a) = ap not (le-ltb a a (omega arith))
self (negsuc a) = ap not (le-ltb a a (omega arith))

pub chain : (a b c : ℤ) → at_most_int a b ≡ true → at_most_int b c ≡ true → at_most_int a c ≡ true
chain (pos a) (pos b) (pos c) l r = let x = ltb-false b a (not-true _ l) in let y = ltb-false c b (not-true _ r) in ap not (le-ltb c a (omega arith))
chain (pos a) (pos b) (negsuc c) l r = absurd cc
chain (pos a) (negsuc b) c l r = absurd cc
chain (negsuc a) (pos b) (pos c) l r = refl
chain (negsuc a) (pos b) (negsuc c) l r = absurd cc
chain (negsuc a) (negsuc b) (pos c) l r = refl
chain (negsuc a) (negsuc b) (negsuc c) l r = let x = ltb-false a b (not-true _ l) in let y = ltb-false b c (not-true _ r) in ap not (le-ltb a c (omega arith))

below : (a b : ℤ) → lt_z a b ≡ true → at_most_int a b ≡ true
below (pos a) (pos b) l = let x = ltb-true a b l in ap not (le-ltb b a (omega arith))
below (pos a) (negsuc b) l = absurd cc
below (negsuc a) (pos b) l = refl
below (negsuc a) (negsuc b) l = let x = ltb-true b a l in ap not (le-ltb a b (omega arith))

lesser_left_at : (a b : ℤ) (t : Bool) → lt_z b a ≡ t → at_most_int (if t then b else a) a ≡ true
lesser_left_at a b true is = below b a is
lesser_left_at a b false is = self a

lesser_right_at : (a b : ℤ) (t : Bool) → lt_z b a ≡ t → at_most_int (if t then b else a) b ≡ true
lesser_right_at a b true is = self b
lesser_right_at a b false is = ap not is

greater_left_at : (a b : ℤ) (t : Bool) → lt_z a b ≡ t → at_most_int a (if t then b else a) ≡ true
greater_left_at a b true is = below a b is
greater_left_at a b false is = self a

greater_right_at : (a b : ℤ) (t : Bool) → lt_z a b ≡ t → at_most_int b (if t then b else a) ≡ true
greater_right_at a b true is = self b
greater_right_at a b false is = ap not is

least_int : (a : ℤ) (zs : List ℤ) → at_most_int (fold lesser a zs) a ≡ true
least_int a [] = self a
least_int a (z ∷ zs) = chain _ (lesser a z) a (least_int (lesser a z) zs) (lesser_left_at a z (lt_z z a) refl)

least_of_each : (a : ℤ) (zs : List ℤ) → Each (λ z. at_most_int (fold lesser a zs) z ≡ true) zs
least_of_each a [] = none
least_of_each a (z ∷ zs) = one (chain _ (lesser a z) z (least_int (lesser a z) zs) (lesser_right_at a z (lt_z z a) refl)) (least_of_each (lesser a z) zs)

greatest_int : (a : ℤ) (zs : List ℤ) → at_most_int a (fold greater a zs) ≡ true
greatest_int a [] = self a
greatest_int a (z ∷ zs) = chain a (greater a z) _ (greater_left_at a z (lt_z a z) refl) (greatest_int (greater a z) zs)

greatest_of_each : (a : ℤ) (zs : List ℤ) → Each (λ z. at_most_int z (fold greater a zs) ≡ true) zs
greatest_of_each a [] = none
greatest_of_each a (z ∷ zs) = one (chain z (greater a z) _ (greater_right_at a z (lt_z a z) refl) (greatest_int (greater a z) zs)) (greatest_of_each (greater a z) zs)

pub ends_rise : (z : ℤ) (zs : List ℤ) → at_most_int (fold lesser z zs) (fold greater z zs) ≡ true
ends_rise z zs = chain _ z _ (least_int z zs) (greatest_int z zs)

all_between : (lo hi : ℤ) {zs : List ℤ} → Each (λ z. at_most_int lo z ≡ true) zs → Each (λ z. at_most_int z hi ≡ true) zs → Each (λ z. (at_most_int lo z && at_most_int z hi) ≡ true) zs
all_between lo hi none none = none
all_between lo hi (one l ls) (one h hs) = one (and_from _ _ l h) (all_between lo hi ls hs)

-- each int is between the ends
pub ints_within : (zs : List ℤ) → Each (λ z. (int_write zs (Some (Int z))).fits ≡ true) zs
ints_within [] = none
ints_within (z ∷ zs) = one (and_from _ _ (least_int z zs) (greatest_int z zs)) (all_between _ _ (least_of_each z zs) (greatest_of_each z zs))
