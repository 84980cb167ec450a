-- What is put: one piece after the other, and a front that is filled in once its body stands.
use Rattle.std.proofs.Common.{◌≡◌, ◌∙◌, ◌⊎◌, inl, inr, ℕ, ◌+◌, ◌-◌, ◌*◌, List, [], ◌∷◌, ◌++◌, replicate, take, drop, length, Bool, true, false, ◌&&◌, Result, Ok, Err, ap, sym, refl, arith, append_assoc, length-append}
use Rattle.std.proofs.lemmas.Bool.{and_from}
use Rattle.std.proofs.lemmas.List.{take_at, drop_at, replicate-append-replicate}
use Rattle.std.proofs.Math.Nat.{suc-mul, zero-mul}
use Rattle.castor_code.specs.declared.code.Range.{Range}
use Rattle.castor_code.specs.Directories.{offset_fields}
use Rattle.castor_code.specs.Pieces.{Piece, both, ranged_field, within}
use Rattle.castor_image.specs.declared.writing.PutError.{PutError}
use Rattle.castor_image.specs.declared.writing.PutError.TheVariants.{NotFit, Memory}
use Rattle.castor_fixed.specs.Fields.{field, width}
use Rattle.castor_fixed.proofs.FieldLaws.{length-field}
use Rattle.castor_image.specs.Puts.{Fills, Puts, directed_piece, front_width}
use Rattle.castor_image.proofs.PieceLaws.{first_fails}

pub second_fails : (a b : Bool) → b ≡ false → (a && b) ≡ false
second_fails true b is = is
second_fails false b is = refl

-- why something isn't put
abbrev pub Why : PutError → Type 0 → Type 0
Why e refused = (e ≡ Memory) ⊎ ((e ≡ NotFit) × refused)

pub why_more : {A B : Type 0} (e : PutError) → (A → B) → Why e A → Why e B
why_more e f (inl memory) = inl memory
why_more e f (inr refused) = inr (refused.0, f refused.1)

module _ (p q : Piece) where
  -- where the first of two pieces is put, the second decides
  pub then_put : (old mid new : List ℕ) (r : Result (Unit {0}) PutError) → p.fits ≡ true → mid ≡ old ++ p.bytes → Puts q mid new r → Puts (both p q) old new r
  then_put old mid new (Ok u) holds put more = (and_from _ _ holds more.0, more.1 ∙ ap (λ xs. xs ++ q.bytes) put ∙ append_assoc old p.bytes q.bytes)
  then_put old mid new (Err e) holds put more = why_more e (second_fails p.fits q.fits) more

  -- where the first isn't put, neither are both
  pub first_refused : (e : PutError) → Why e (p.fits ≡ false) → Why e ((both p q).fits ≡ false)
  first_refused e why = why_more e (first_fails p.fits q.fits) why

-- a body whose front was filled in
pub filled : (body : Range) (at first : ℕ) (offsets : List ℕ) (p : Piece) (old room out new : List ℕ) (r : Result (Unit {0}) PutError)
    → at ≡ length old → first ≡ length (old ++ room) → p.fits ≡ true → out ≡ (old ++ room) ++ p.bytes → Fills body at first offsets out new r → Puts (directed_piece body offsets p) old new r
filled body at first offsets p old room out new r at_is first_is holds out_is = by r
  where
    long : length out - first ≡ length p.bytes
    long = let all = ap length out_is ∙ length-append (old ++ room) p.bytes in omega arith

    front : take at out ≡ old
    front = ap (take at) (out_is ∙ append_assoc old room p.bytes) ∙ take_at old (room ++ p.bytes) at (sym at_is)

    back : drop first out ≡ p.bytes
    back = ap (drop first) out_is ∙ drop_at (old ++ room) p.bytes first (sym first_is)

    fields : List ℕ
    fields = offset_fields body offsets

    by : (r : Result (Unit {0}) PutError) → Fills body at first offsets out new r → Puts (directed_piece body offsets p) old new r
    by (Ok u) did = (
      and_from _ _ (ap (within body) (sym long) ∙ did.0) holds,
      did.1 ∙ ap (λ xs. xs ++ ((ranged_field body (length out - first) ++ fields) ++ drop first out)) front
          ∙ ap (λ n. old ++ ((ranged_field body n ++ fields) ++ drop first out)) long
          ∙ ap (λ xs. old ++ ((ranged_field body (length p.bytes) ++ fields) ++ xs)) back
          ∙ ap (λ xs. old ++ xs) (append_assoc (ranged_field body (length p.bytes)) fields p.bytes),
    )
    by (Err e) why = why_more e (λ out_of. first_fails (within body (length p.bytes)) p.fits (ap (within body) (sym long) ∙ out_of)) why

-- ---- fronts
offsets_long : (body : Range) (offsets : List ℕ) → length (offset_fields body offsets) ≡ length offsets * width body.hi
offsets_long body [] = sym (zero-mul (width body.hi))
offsets_long body (x ∷ xs) =
    let one : length (field body.hi x) ≡ width body.hi = length-field body.hi x in
    let all = length-append (field body.hi x) (offset_fields body xs) in
    let rest = offsets_long body xs in
    let more = suc-mul (length xs) (width body.hi) in
    omega arith

pub front_long : (body : Range) (n : ℕ) (offsets : List ℕ) → length (ranged_field body n ++ offset_fields body offsets) ≡ front_width body (length offsets)
front_long body n offsets =
    let all = length-append (ranged_field body n) (offset_fields body offsets) in
    let first : length (ranged_field body n) ≡ width (body.hi - body.lo) = length-field (body.hi - body.lo) (n - body.lo) in
    let rest = offsets_long body offsets in
    omega arith

-- a front that was put into a list of its own
pub front_put : (body : Range) (m n : ℕ) (offsets none one two slice : List ℕ) → none ≡ [] → one ≡ none ++ ranged_field body m → m ≡ n → two ≡ one ++ offset_fields body offsets → slice ≡ two → slice ≡ ranged_field body n ++ offset_fields body offsets
front_put body m n offsets none one two slice empty first same second is =
    is ∙ second ∙ ap (λ xs. xs ++ offset_fields body offsets) (first ∙ ap (λ xs. xs ++ ranged_field body m) empty ∙ ap (ranged_field body) same)

-- and was written over its room
pub fill_is : (body : Range) (n at first : ℕ) (offsets old slice new : List ℕ) → slice ≡ ranged_field body n ++ offset_fields body offsets → at + front_width body (length offsets) ≡ first
    → new ≡ take at old ++ (slice ++ drop (at + length slice) old) → new ≡ take at old ++ ((ranged_field body n ++ offset_fields body offsets) ++ drop first old)
fill_is body n at first offsets old slice new is room wrote =
    let end : at + length slice ≡ first = let long = ap length is ∙ front_long body n offsets in omega arith in
    wrote ∙ ap (λ k. take at old ++ (slice ++ drop k old)) end ∙ ap (λ xs. take at old ++ (xs ++ drop first old)) is

-- room for two parts
pub room_put : (old mid new : List ℕ) (a b m n : ℕ) → a ≡ m → b ≡ n → mid ≡ old ++ replicate a 0 → new ≡ mid ++ replicate b 0 → new ≡ old ++ replicate (m + n) 0
room_put old mid new a b m n is_a is_b first second =
    second ∙ ap (λ xs. xs ++ replicate b 0) first ∙ append_assoc old (replicate a 0) (replicate b 0)
    ∙ ap (λ xs. old ++ xs) (replicate-append-replicate a b 0) ∙ (λ i. old ++ replicate (is_a i + is_b i) 0)
