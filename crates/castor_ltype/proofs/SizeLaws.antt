-- The sizes of held data, over the sizes of its parts.
use Rattle.std.proofs.Common.{◌≡◌, ◌∙◌, ℕ, suc, ◌+◌, ◌-◌, add-one, List, [], ◌∷◌, ◌++◌, map, take, drop, length, length-append, sum, ap, sym, refl, subst, Option, Some, None, arith}
use Rattle.std.specs.Prelude.{slice_index_or}
use Rattle.std.specs.List.{flat_map}
use Rattle.std.proofs.lemmas.List.{length-map, map-append}
use Rattle.std.proofs.lemmas.List.Sums.{sum_by-cons}
use Rattle.castor_alg.specs.declared.expr.Expr.{Expr}
use Rattle.castor_alg.specs.declared.held.Entry.{Entry}
use Rattle.castor_alg.specs.declared.held.Held.{Held}
use Rattle.castor_alg.specs.declared.rel.Agg.{Agg}
use Rattle.castor_alg.specs.declared.rel.Key.{Key}
use Rattle.castor_fixed.proofs.FieldLaws.{length-field}
use Rattle.castor_code.specs.declared.code.Code.{Code}
use Rattle.castor_code.specs.declared.code.Code as C
use Rattle.castor_code.specs.declared.code.Range.{Range}
use Rattle.castor_code.specs.LayoutMeaning.{all_in}
use Rattle.castor_code.specs.Pieces.{Piece, list_piece, one_after_other, parts_piece, ranged_field, side_by_side}
use Rattle.castor_code.specs.Shapes.{inner_of, parts_of, rows_of}
use Rattle.castor_ltype.specs.Places.{children, inner, key_value, nothing, part}
use Rattle.castor_ltype.specs.Sizes.{added, held_size, key_size, list_frame, parts_size, range_bytes, sums, value_size}
use Rattle.castor_ltype.proofs.PieceLaws.{inner_size, nothing_size, piece-Concat, piece-Cross, piece-Dedup, piece-Dep, piece-Filter, piece-Group, piece-List, piece-Order, piece-Select, writing, writing_all}

abbrev bytes_in : Piece → ℕ
bytes_in p = length p.bytes

-- an operand of one kid
pub size-Select : (es : List Expr) (c : Code) (h : Held) → held_size (C.Select es c) h ≡ held_size c (inner h)
size-Select es c h = ap bytes_in (piece-Select h es c) ∙ inner_size c (inner_of h)

pub size-Filter : (e : Expr) (c : Code) (h : Held) → held_size (C.Filter e c) h ≡ held_size c (inner h)
size-Filter e c h = ap bytes_in (piece-Filter h e c) ∙ inner_size c (inner_of h)

pub size-Group : (ks : List ℕ) (aggs : List Agg) (c : Code) (h : Held) → held_size (C.Group ks aggs c) h ≡ held_size c (inner h)
size-Group ks aggs c h = ap bytes_in (piece-Group h ks aggs c) ∙ inner_size c (inner_of h)

pub size-Order : (ks : List Key) (c : Code) (h : Held) → held_size (C.Order ks c) h ≡ held_size c (inner h)
size-Order ks c h = ap bytes_in (piece-Order h ks c) ∙ inner_size c (inner_of h)

pub size-Dedup : (c : Code) (h : Held) → held_size (C.Dedup c) h ≡ held_size c (inner h)
size-Dedup c h = ap bytes_in (piece-Dedup h c) ∙ inner_size c (inner_of h)

-- the sizes of parts, by the list of the parts
abbrev over : ℕ → List Code → List Held → ℕ
over i [] all = 0
over i (c ∷ cs) all = held_size c (slice_index_or all i nothing) + over (i + 1) cs all

over-is : (i : ℕ) (cs : List Code) (h : Held) → parts_size i cs h ≡ over i cs (all_in (parts_of h))
over-is i [] h = refl
over-is i (c ∷ cs) h = ap (λ n. held_size c (part i h) + n) (over-is (i + 1) cs h)

over-none : (i : ℕ) (cs : List Code) → over i cs [] ≡ 0
over-none i [] = refl
over-none i (c ∷ cs) = (λ j. nothing_size c j + over-none (i + 1) cs j)

over-next : (i : ℕ) (cs : List Code) (h : Held) (hs : List Held) → over (i + 1) cs (h ∷ hs) ≡ over i cs hs
over-next i [] h hs = refl
over-next i (c ∷ cs) h hs = (λ j. held_size c (slice_index_or (h ∷ hs) (add-one i j) nothing) + over-next (i + 1) cs h hs j)

no_kids : (hs : List Held) → length (side_by_side [] hs).bytes ≡ 0
no_kids [] = refl
no_kids (h ∷ hs) = refl

sides_size : (cs : List Code) (hs : List Held) → length (side_by_side (writing_all cs) hs).bytes ≡ over 0 cs hs
sides_size [] hs = no_kids hs
sides_size (c ∷ cs) [] = sym (over-none 0 (c ∷ cs))
sides_size (c ∷ cs) (h ∷ hs) = length-append (writing c h).bytes (side_by_side (writing_all cs) hs).bytes ∙ ap (λ n. held_size c h + n) (sides_size cs hs ∙ sym (over-next 0 cs h hs))

sides_in : (cs : List Code) (o : Option (List Held)) → length (parts_piece (writing_all cs) o).bytes ≡ over 0 cs (all_in o)
sides_in cs (Some hs) = sides_size cs hs
sides_in cs None = sym (over-none 0 cs)

pub size-Cross : (cs : List Code) (h : Held) → held_size (C.Cross cs) h ≡ parts_size 0 cs h
size-Cross cs h = ap bytes_in (piece-Cross h cs) ∙ sides_in cs (parts_of h) ∙ sym (over-is 0 cs h)

pub size-Concat : (cs : List Code) (h : Held) → held_size (C.Concat cs) h ≡ parts_size 0 cs h
size-Concat cs h = ap bytes_in (piece-Concat h cs) ∙ sides_in cs (parts_of h) ∙ sym (over-is 0 cs h)

pub size-Dep : (k : ℕ) (c d : Code) (h : Held) → held_size (C.Dep k c d) h ≡ held_size c (part 0 h) + held_size d (part 1 h)
size-Dep k c d h =
    let last : held_size d (part 1 h) + 0 ≡ held_size d (part 1 h) = omega arith in
    ap bytes_in (piece-Dep h k c d) ∙ sides_in (c ∷ d ∷ []) (parts_of h) ∙ sym (over-is 0 (c ∷ d ∷ []) h) ∙ ap (λ n. held_size c (part 0 h) + n) last

turned : (n : ℕ) → n + 0 ≡ 0 + n
turned n = omega arith

-- one part more
pub parts_size-more : (i : ℕ) (cs : List Code) (c : Code) (h : Held) → parts_size i (cs ++ c ∷ []) h ≡ parts_size i cs h + held_size c (part (i + length cs) h)
parts_size-more i [] c h =
    let at : i + 0 ≡ i = omega arith in
    subst (λ n. held_size c (part i h) + 0 ≡ 0 + held_size c (part n h)) (sym at) (turned (held_size c (part i h)))
parts_size-more i (d ∷ cs) c h =
    let at : (i + 1) + length cs ≡ i + suc (length cs) = omega arith in
    let step = ap (λ n. held_size d (part i h) + n) (parts_size-more (i + 1) cs c h ∙ ap (λ n. parts_size (i + 1) cs h + held_size c (part n h)) at) in
    step ∙ grouped (held_size d (part i h)) (parts_size (i + 1) cs h) (held_size c (part (i + suc (length cs)) h))
  where
    grouped : (a b c : ℕ) → a + (b + c) ≡ (a + b) + c
    grouped a b c = omega arith

pub key_size-more : (j : ℕ) (cs : List Code) (c : Code) (e : Entry) → key_size j (cs ++ c ∷ []) e ≡ key_size j cs e + value_size c (key_value (j + length cs) e)
key_size-more j [] c e =
    let at : j + 0 ≡ j = omega arith in
    subst (λ n. value_size c (key_value j e) + 0 ≡ 0 + value_size c (key_value n e)) (sym at) (turned (value_size c (key_value j e)))
key_size-more j (d ∷ cs) c e =
    let at : (j + 1) + length cs ≡ j + suc (length cs) = omega arith in
    let step = ap (λ n. value_size d (key_value j e) + n) (key_size-more (j + 1) cs c e ∙ ap (λ n. key_size (j + 1) cs e + value_size c (key_value n e)) at) in
    step ∙ grouped (value_size d (key_value j e)) (key_size (j + 1) cs e) (value_size c (key_value (j + suc (length cs)) e))
  where
    grouped : (a b c : ℕ) → a + (b + c) ≡ (a + b) + c
    grouped a b c = omega arith

pub added-map : {X : Type 0} (f g : X → ℕ) (xs : List X) → added (map f xs) (map g xs) ≡ map (λ x. f x + g x) xs
added-map f g [] = refl
added-map f g (x ∷ xs) = ap (λ ns. (f x + g x) ∷ ns) (added-map f g xs)

pub map-same : {X Y : Type 0} (f g : X → Y) → ((x : X) → f x ≡ g x) → (xs : List X) → map f xs ≡ map g xs
map-same f g same xs = λ i. map (λ x. same x i) xs

-- the sums of what stands in each of the lists
take_front : (xs ys : List ℕ) → take (length xs) (xs ++ ys) ≡ xs
take_front [] ys = refl
take_front (x ∷ xs) ys = ap (λ zs. x ∷ zs) (take_front xs ys)

drop_front : (xs ys : List ℕ) → drop (length xs) (xs ++ ys) ≡ ys
drop_front [] ys = refl
drop_front (x ∷ xs) ys = drop_front xs ys

pub sums-along : {X Y : Type 0} (g : X → List Y) (f : Y → ℕ) (xs : List X) → sums (map (λ x. length (g x)) xs) (map f (flat_map g xs)) ≡ map (λ x. sum (map f (g x))) xs
sums-along g f [] = refl
sums-along g f (x ∷ xs) =
    let cut : map f (flat_map g (x ∷ xs)) ≡ map f (g x) ++ map f (flat_map g xs) = map-append f (g x) (flat_map g xs) in
    let long : length (g x) ≡ length (map f (g x)) = sym (length-map (g x) f) in
    ap (sums (length (g x) ∷ map (λ x. length (g x)) xs)) cut
    ∙ (λ i. sum (take (long i) (map f (g x) ++ map f (flat_map g xs))) ∷ sums (map (λ x. length (g x)) xs) (drop (long i) (map f (g x) ++ map f (flat_map g xs))))
    ∙ (λ i. sum (take_front (map f (g x)) (map f (flat_map g xs)) i) ∷ sums (map (λ x. length (g x)) xs) (drop_front (map f (g x)) (map f (flat_map g xs)) i))
    ∙ ap (λ ns. sum (map f (g x)) ∷ ns) (sums-along g f xs)

-- one after the other
pub along_size : {X : Type 0} (write : X → Piece) (xs : List X) → sum (map (λ x. length (write x).bytes) xs) ≡ length (one_after_other write xs).bytes
along_size write [] = refl
along_size write (x ∷ xs) =
    sum_by-cons (λ (n : ℕ). n) (length (write x).bytes) (map (λ x. length (write x).bytes) xs)
    ∙ ap (λ n. length (write x).bytes + n) (along_size write xs)
    ∙ sym (length-append (write x).bytes (one_after_other write xs).bytes)

-- a list
grouped3 : (a b c : ℕ) → a + (b + c) ≡ (a + b) + c
grouped3 a b c = omega arith

list_size_in : (count body : Range) (write : Held → Piece) (o : Option (List Held)) → list_frame count body o + length (one_after_other write (all_in o)).bytes ≡ length (list_piece count body write o).bytes
list_size_in count body write (Some hs) =
    let p = one_after_other write hs in
    let n = length hs in
    sym (length-append (ranged_field count n) (ranged_field body (length p.bytes) ++ p.bytes)
    ∙ (λ i. length-field (count.hi - count.lo) (n - count.lo) i + (length-append (ranged_field body (length p.bytes)) p.bytes ∙ ap (λ m. m + length p.bytes) (length-field (body.hi - body.lo) (length p.bytes - body.lo))) i)
    ∙ grouped3 (range_bytes count) (range_bytes body) (length p.bytes))
list_size_in count body write None = refl

pub size-List : (count body : Range) (c : Code) (h : Held) → list_frame count body (rows_of h) + length (one_after_other (writing c) (children h)).bytes ≡ held_size (C.List count body c) h
size-List count body c h = list_size_in count body (writing c) (rows_of h) ∙ sym (ap bytes_in (piece-List h count body c))
