-- Forms that are well formed and have at most so many nodes and levels.
use Rattle.std.proofs.Common.{◌≡◌, ◌∙◌, ℕ, ◌+◌, ◌≤◌, ℤ, List, [], ◌∷◌, map, sum, length, refl, ap, Bool, true, arith, nat_le}
use Rattle.std.specs.Int.{cast_unsigned, w64}
use Rattle.std.proofs.lemmas.Bool.{and_from}
use Rattle.std.proofs.lemmas.List.Sums.{sum_by-cons}
use Rattle.castor_val.specs.Values.{is_int}
use Rattle.castor_alg.specs.Sizes.{deepest}
use Rattle.castor_laws.proofs.EachLaws.{Each, none, one}
use Rattle.castor_fixed.specs.Fields.{field}
use Rattle.castor_code.specs.Forms.{Form, int_form, plain, number_form, then_form, in_turn, only_if, node, list_form}
use Rattle.castor_ltype.proofs.RangeLaws.{each_unmap, high_each}

pub record Bounded (f : Form) (n d : ℕ) : Type 0 where
  pub sound : f.sound ≡ true
  pub nodes : f.nodes ≤ n
  pub depth : f.depth ≤ d

pub bounded_more : (f : Form) (n m d e : ℕ) → n ≤ m → d ≤ e → Bounded f n d → Bounded f m e
bounded_more f n m d e wide deep b =
    let few = b.nodes in
    let low = b.depth in
    record { sound = b.sound; nodes = omega arith; depth = omega arith }

-- a form that equals one
pub bounded_is : (f g : Form) (n m d e : ℕ) → f ≡ g → n ≤ m → d ≤ e → Bounded g n d → Bounded f m e
bounded_is f g n m d e is wide deep b =
    let few = b.nodes in
    let low = b.depth in
    let count : f.nodes ≡ g.nodes = ap (λ (x : Form). x.nodes) is in
    let level : f.depth ≡ g.depth = ap (λ (x : Form). x.depth) is in
    record { sound = ap (λ (x : Form). x.sound) is ∙ b.sound; nodes = omega arith; depth = omega arith }

pub bounded_plain : (holds : Bool) (bytes : List ℕ) (n d : ℕ) → holds ≡ true → Bounded (plain holds bytes) n d
bounded_plain holds bytes n d is = record { sound = is; nodes = omega arith; depth = omega arith }

-- a number from 0 to most
pub bounded_number : (most n : ℕ) → nat_le n most ≡ true → Bounded (number_form most n) 0 0
bounded_number most n small = bounded_plain (nat_le n most) (field most n) 0 0 small

pub bounded_int : (z : ℤ) → is_int z ≡ true → Bounded (int_form z) 0 0
bounded_int z small = bounded_plain (is_int z) (field 18446744073709551615 (cast_unsigned w64 z)) 0 0 small

pub bounded_then : (f g : Form) (n m d : ℕ) → Bounded f n d → Bounded g m d → Bounded (then_form f g) (n + m) d
bounded_then f g n m d a b =
    let first = a.nodes in
    let second = b.nodes in
    let low = a.depth in
    let deep = b.depth in
    record { sound = and_from _ _ a.sound b.sound; nodes = omega arith; depth = omega arith }

-- behind what is no node
pub bounded_behind : (f g : Form) (n d : ℕ) → Bounded f 0 0 → Bounded g n d → Bounded (then_form f g) n d
bounded_behind f g n d a b =
    let first = a.nodes in
    let second = b.nodes in
    let low = a.depth in
    let deep = b.depth in
    record { sound = and_from _ _ a.sound b.sound; nodes = omega arith; depth = omega arith }

pub bounded_if : (holds : Bool) (f : Form) (n d : ℕ) → holds ≡ true → Bounded f n d → Bounded (only_if holds f) n d
bounded_if holds f n d is b = record { sound = and_from _ _ is b.sound; nodes = b.nodes; depth = b.depth }

pub bounded_node : (tag : ℕ) (f : Form) (n d : ℕ) → Bounded f n d → Bounded (node tag f) (1 + n) (1 + d)
bounded_node tag f n d b =
    let few = b.nodes in
    let low = b.depth in
    record { sound = b.sound; nodes = omega arith; depth = omega arith }

pub bounded_each : {X : Type 0} (form : X → Form) (size : X → ℕ) (d : ℕ) {xs : List X} → Each (λ x. Bounded (form x) (size x) d) xs → Bounded (in_turn (map form xs)) (sum (map size xs)) d
bounded_each form size d none = bounded_plain true [] _ d refl
bounded_each form size d (one {x} {xs} first rest) =
    let whole : sum (map size (x ∷ xs)) ≡ size x + sum (map size xs) = sum_by-cons (λ (n : ℕ). n) (size x) (map size xs) in
    bounded_more _ (size x + sum (map size xs)) _ d d (omega arith) (omega arith) (bounded_then (form x) (in_turn (map form xs)) (size x) (sum (map size xs)) d first (bounded_each form size d rest))

pub bounded_list : {X : Type 0} (form : X → Form) (xs : List X) (n d : ℕ) → nat_le (length xs) 65535 ≡ true → Bounded (in_turn (map form xs)) n d → Bounded (list_form form xs) n d
bounded_list form xs n d few b = bounded_behind _ _ n d (bounded_number 65535 (length xs) few) b

-- each is at most as deep as the deepest
pub deep_each : {X : Type 0} (f : X → ℕ) (xs : List X) → Each (λ x. f x ≤ deepest (map f xs)) xs
deep_each f xs = each_unmap (λ n. n ≤ deepest (map f xs)) f xs (high_each 0 (map f xs))

-- at most as many as their sum, where each is some
pub few_of_sum : {X : Type 0} (f : X → ℕ) → ((x : X) → 1 ≤ f x) → (xs : List X) → length xs ≤ sum (map f xs)
few_of_sum f some [] = omega arith
few_of_sum f some (x ∷ xs) =
    let whole : sum (map f (x ∷ xs)) ≡ f x + sum (map f xs) = sum_by-cons (λ (n : ℕ). n) (f x) (map f xs) in
    let first = some x in
    let rest = few_of_sum f some xs in
    omega arith
