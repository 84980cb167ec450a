-- Values and numbers: what is written is read, and what is read is so written.
use Rattle.std.proofs.Common.{◌≡◌, ◌∙◌, ℕ, zero, suc, ℤ, pos, ◌+ℤ◌, ◌+◌, ◌-◌, nat_le, List, [], ◌∷◌, ◌++◌, take, drop, length, Bool, true, false, if◌then◌else◌, Option, Some, None, subst, ap, sym, refl, arith, append_assoc, length-append}
use Rattle.std.proofs.lemmas.Bool.{and_parts, and_from, le-leb, leb-true}
use Rattle.std.proofs.lemmas.Option.{some_pair_parts, none-some}
use Rattle.std.proofs.lemmas.List.{take_at, drop_at, take-append-drop, length-take-le}
use Rattle.std.specs.Int.{int_gap}
use Rattle.std.specs.Str.{is_utf8}
use Rattle.castor_val.specs.declared.value.Value.{Value}
use Rattle.castor_val.specs.declared.value.Value.TheVariants.{Int, Bool as Truth, Text}
use Rattle.castor_alg.specs.declared.held.Held.{Held, Leaf}
use Rattle.castor_fixed.specs.Fields.{field}
use Rattle.castor_fixed.proofs.FieldLaws.{number-field, number-taken}
use Rattle.castor_code.specs.declared.code.Range.{Range}
use Rattle.castor_code.specs.Shapes.{leaf_of}
use Rattle.castor_code.specs.Steps.{when}
use Rattle.castor_code.specs.Pieces.{Piece, within_int, within, ranged_field, behind_number, int_piece, bool_piece, text_piece}
use Rattle.castor_code.specs.Readings.{ranged, int_read, bool_read, text_read}
use Rattle.castor_code.proofs.RangeLaws.{counted_back, counted_within, count_of}
use Rattle.castor_code.proofs.ShapeLaws.{leaf_of-Leaf, is_leaf}
use Rattle.castor_code.proofs.StepLaws.{got, next_of, came, when_holds, let_through}

-- a number of a range is read from its field
pub ranged_again : (r : Range) (n : ℕ) (rest : List ℕ) → within r n ≡ true → ranged r (ranged_field r n ++ rest) ≡ Some (n, rest)
ranged_again r n rest is =
    let tests = and_parts _ _ is in
    let lo = leb-true r.lo n tests.0 in
    let hi = leb-true n r.hi tests.1 in
    let same : r.lo + (n - r.lo) ≡ n = omega arith in
    next_of _ _ _ _ (number-field (r.hi - r.lo) (n - r.lo) rest (omega arith))
    ∙ ap (λ m. when {X = ℕ × List ℕ} (within r m) (m, rest)) same ∙ when_holds _ _ is

-- and what is read as one is its field
pub ranged_taken : (r : Range) (n : ℕ) (bs rest : List ℕ) → ranged r bs ≡ Some (n, rest) → (within r n ≡ true) × (bs ≡ ranged_field r n ++ rest)
ranged_taken r n bs rest is =
    let b = came _ _ _ is in
    let found = let_through _ _ _ _ _ b.answer in
    let of_field = number-taken (r.hi - r.lo) b.first bs b.left b.read in
    let back : b.first ≡ n - r.lo = omega (arith, found.value) in
    (subst (λ m. within r m ≡ true) found.value found.holds, of_field.1 ∙ ap (λ m. field (r.hi - r.lo) m ++ b.left) back ∙ ap (λ xs. ranged_field r n ++ xs) found.left)

-- the number before a piece is read, and leaves the piece
pub before_piece : (r : Range) (n : ℕ) (p : Piece) (rest : List ℕ) → (behind_number r n p).fits ≡ true → ranged r ((behind_number r n p).bytes ++ rest) ≡ Some (n, p.bytes ++ rest)
before_piece r n p rest f = ap (ranged r) (append_assoc (ranged_field r n) p.bytes rest) ∙ ranged_again r n (p.bytes ++ rest) (and_parts _ _ f).0

-- a number that is read before a piece is written before it
pub behind_taken : (r : Range) (n : ℕ) (p : Piece) (bs middle rest : List ℕ) → ranged r bs ≡ Some (n, middle) → p.fits ≡ true → middle ≡ p.bytes ++ rest → ((behind_number r n p).fits ≡ true) × (bs ≡ (behind_number r n p).bytes ++ rest)
behind_taken r n p bs middle rest is f more =
    let found = ranged_taken r n bs middle is in
    (and_from _ _ found.0 f, found.1 ∙ ap (λ xs. ranged_field r n ++ xs) more ∙ sym (append_assoc (ranged_field r n) p.bytes rest))

pub int_again : (lo hi : ℤ) (h : Held) (rest : List ℕ) (o : Option Value) → leaf_of h ≡ o → (int_piece lo hi o).fits ≡ true → int_read lo hi ((int_piece lo hi o).bytes ++ rest) ≡ Some (h, rest)
int_again lo hi h rest None is f = absurd cc
int_again lo hi h rest (Some (Truth b)) is f = absurd cc
int_again lo hi h rest (Some (Text t)) is f = absurd cc
int_again lo hi h rest (Some (Int z)) is f =
    let tests = and_parts _ _ f in
    let back = counted_back lo z tests.0 in
    next_of _ _ _ _ (number-field (int_gap lo hi) (int_gap lo z) rest (counted_within lo z hi tests.0 tests.1))
    ∙ ap (λ x. when {X = Held × List ℕ} (within_int lo hi x) (Leaf (Int x), rest)) back
    ∙ when_holds _ _ f ∙ ap (λ (g : Held). got g rest) (sym (is_leaf h (Int z) is))

pub int_taken : (lo hi : ℤ) (bs rest : List ℕ) (h : Held) → int_read lo hi bs ≡ Some (h, rest) → ((int_piece lo hi (leaf_of h)).fits ≡ true) × (bs ≡ (int_piece lo hi (leaf_of h)).bytes ++ rest)
int_taken lo hi bs rest h is =
    let b = came _ _ _ is in
    let found = let_through _ _ _ _ _ b.answer in
    let z = lo +ℤ pos b.first in
    let leaf : leaf_of h ≡ Some (Int z) = ap leaf_of (sym found.value) ∙ leaf_of-Leaf (Int z) in
    let of_field = number-taken (int_gap lo hi) b.first bs b.left b.read in (
      ap (λ o. (int_piece lo hi o).fits) leaf ∙ found.holds,
      of_field.1 ∙ ap (λ m. field (int_gap lo hi) m ++ b.left) (sym (count_of lo b.first)) ∙ ap (λ xs. field (int_gap lo hi) (int_gap lo z) ++ xs) found.left ∙ ap (λ o. (int_piece lo hi o).bytes ++ rest) (sym leaf),
    )

truth_again : (h : Held) (b : Bool) (rest : List ℕ) → h ≡ Leaf (Truth b) → bool_read ((if b then 1 else 0) ∷ rest) ≡ Some (h, rest)
truth_again h true rest is = ap (λ (g : Held). got g rest) (sym is)
truth_again h false rest is = ap (λ (g : Held). got g rest) (sym is)

pub bool_again : (h : Held) (rest : List ℕ) (o : Option Value) → leaf_of h ≡ o → (bool_piece o).fits ≡ true → bool_read ((bool_piece o).bytes ++ rest) ≡ Some (h, rest)
bool_again h rest None is f = absurd cc
bool_again h rest (Some (Int z)) is f = absurd cc
bool_again h rest (Some (Text t)) is f = absurd cc
bool_again h rest (Some (Truth b)) is f = truth_again h b rest (is_leaf h (Truth b) is)

truth_taken : (b : Bool) (h : Held) (xs rest : List ℕ) → got (Leaf (Truth b)) xs ≡ Some (h, rest) → ((bool_piece (leaf_of h)).fits ≡ true) × ((if b then 1 else 0) ∷ xs ≡ (bool_piece (leaf_of h)).bytes ++ rest)
truth_taken b h xs rest is =
    let parts = some_pair_parts _ _ _ _ is in
    let leaf : leaf_of h ≡ Some (Truth b) = ap leaf_of (sym parts.0) ∙ leaf_of-Leaf (Truth b) in
    (ap (λ o. (bool_piece o).fits) leaf, ap (λ ys. (if b then 1 else 0) ∷ ys) parts.1 ∙ ap (λ o. (bool_piece o).bytes ++ rest) (sym leaf))

pub bool_taken : (bs rest : List ℕ) (h : Held) → bool_read bs ≡ Some (h, rest) → ((bool_piece (leaf_of h)).fits ≡ true) × (bs ≡ (bool_piece (leaf_of h)).bytes ++ rest)
bool_taken [] rest h is = absurd (none-some _ is)
bool_taken (zero ∷ xs) rest h is = truth_taken false h xs rest is
bool_taken (suc zero ∷ xs) rest h is = truth_taken true h xs rest is
bool_taken (suc (suc b) ∷ xs) rest h is = absurd (none-some _ is)

pub text_again : (lengths : Range) (h : Held) (rest : List ℕ) (o : Option Value) → leaf_of h ≡ o → (text_piece lengths o).fits ≡ true → text_read lengths ((text_piece lengths o).bytes ++ rest) ≡ Some (h, rest)
text_again lengths h rest None is f = absurd cc
text_again lengths h rest (Some (Int z)) is f = absurd cc
text_again lengths h rest (Some (Truth b)) is f = absurd cc
text_again lengths h rest (Some (Text t)) is f =
    let front : take (length t) (t ++ rest) ≡ t = take_at t rest (length t) refl in
    let tail : drop (length t) (t ++ rest) ≡ rest = drop_at t rest (length t) refl in
    let long : nat_le (length t) (length (t ++ rest)) ≡ true = le-leb _ _ (omega (arith, length-append t rest)) in
    next_of _ _ _ _ (before_piece lengths (length t) (record { fits = is_utf8 t; bytes = t }) rest f)
    ∙ when_holds _ _ (and_from _ _ long (ap is_utf8 front ∙ (and_parts _ _ f).1))
    ∙ ap (λ (x : List ℕ). got (Leaf (Text x)) (drop (length t) (t ++ rest))) front
    ∙ ap (λ (x : List ℕ). got (Leaf (Text t)) x) tail
    ∙ ap (λ (g : Held). got g rest) (sym (is_leaf h (Text t) is))

pub text_taken : (lengths : Range) (bs rest : List ℕ) (h : Held) → text_read lengths bs ≡ Some (h, rest) → ((text_piece lengths (leaf_of h)).fits ≡ true) × (bs ≡ (text_piece lengths (leaf_of h)).bytes ++ rest)
text_taken lengths bs rest h is =
    let b = came _ _ _ is in
    let found = let_through _ _ _ _ _ b.answer in
    let tests = and_parts _ _ found.holds in
    let t = take b.first b.left in
    let leaf : leaf_of h ≡ Some (Text t) = ap leaf_of (sym found.value) ∙ leaf_of-Leaf (Text t) in
    let long : length t ≡ b.first = length-take-le b.first b.left (leb-true _ _ tests.0) in
    let counted : ranged lengths bs ≡ Some (length t, b.left) = b.read ∙ ap (λ n. got n b.left) (sym long) in
    let all = behind_taken lengths (length t) (record { fits = is_utf8 t; bytes = t }) bs b.left rest counted tests.1 (sym (take-append-drop b.first b.left) ∙ ap (λ xs. t ++ xs) found.left) in
    (ap (λ o. (text_piece lengths o).fits) leaf ∙ all.0, all.1 ∙ ap (λ o. (text_piece lengths o).bytes ++ rest) (sym leaf))
