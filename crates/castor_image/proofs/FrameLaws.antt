-- The frame of an image: what is written is read, and what is read is so written.
use Rattle.std.proofs.Common.{◌≡◌, ◌∙◌, ℕ, nat_le, List, ◌++◌, take, drop, length, true, Some, subst, ap, sym, refl, arith, append_assoc, length-append}
use Rattle.std.specs.Str.{bytes_eq}
use Rattle.std.proofs.lemmas.Bool.{le-leb, leb-true}
use Rattle.std.proofs.lemmas.List.{take_at, drop_at, take-append-drop, length-take-le}
use Rattle.std.proofs.lemmas.Option.{some_pair_parts}
use Rattle.std.proofs.lemmas.Slice.Eq.{bytes_eq-Decides}
use Rattle.castor_code.specs.Steps.{next, when}
use Rattle.castor_code.proofs.StepLaws.{got, next_of, came, when_holds, let_through}
use Rattle.castor_fixed.proofs.FieldLaws.{number-field, number-taken}
use Rattle.castor_image.specs.declared.head.Head.{Head}
use Rattle.castor_image.specs.Heads.{head_bytes, is_head}
use Rattle.castor_image.specs.HeadReadings.{bytes_read, head_read}
use Rattle.castor_image.specs.Frames.{Frame, frame_of, magic_read, length_read, sections_read, behind_magic, frame_read}
use Rattle.castor_image.specs.Images.{magic, length_field, sections, framed, is_length}
use Rattle.castor_image.proofs.HeadLaws.{head_again, head_taken}

bytes_again : (t rest : List ℕ) → bytes_read (length t) (t ++ rest) ≡ Some (t, rest)
bytes_again t rest =
    let long : nat_le (length t) (length (t ++ rest)) ≡ true = le-leb _ _ (omega (arith, length-append t rest)) in
    when_holds _ _ long ∙ ap (λ (x : List ℕ). got x (drop (length t) (t ++ rest))) (take_at t rest (length t) refl) ∙ ap (got t) (drop_at t rest (length t) refl)

bytes_taken : (n : ℕ) (bs rest t : List ℕ) → bytes_read n bs ≡ Some (t, rest) → (length t ≡ n) × (bs ≡ t ++ rest)
bytes_taken n bs rest t is =
    let found = let_through (nat_le n (length bs)) (take n bs) t (drop n bs) rest is in (
      ap length (sym found.value) ∙ length-take-le n bs (leb-true _ _ found.holds),
      sym (take-append-drop n bs) ∙ ap (λ xs. xs ++ drop n bs) found.value ∙ ap (λ xs. t ++ xs) found.left,
    )

magic_again : (rest : List ℕ) → magic_read (magic ++ rest) ≡ Some (magic, rest)
magic_again rest = next_of _ _ _ _ (bytes_again magic rest) ∙ when_holds _ _ ((bytes_eq-Decides magic magic).1 refl)

magic_taken : (bs rest t : List ℕ) → magic_read bs ≡ Some (t, rest) → (t ≡ magic) × (bs ≡ magic ++ rest)
magic_taken bs rest t is =
    let b = came (bytes_read 8 bs) (λ front rest. when (bytes_eq front magic) (front, rest)) (t, rest) is in
    let found = let_through (bytes_eq b.first magic) b.first t b.left rest b.answer in
    let same : b.first ≡ magic = (bytes_eq-Decides b.first magic).0 found.holds in
    let bytes = bytes_taken 8 bs b.left b.first b.read in
    (sym found.value ∙ same, bytes.1 ∙ ap (λ xs. xs ++ b.left) same ∙ ap (λ xs. magic ++ xs) found.left)

length_again : (n : ℕ) (rest : List ℕ) → is_length n → length_read (length_field n ++ rest) ≡ Some (n, rest)
length_again n rest within = number-field 18446744073709551615 n rest (leb-true _ _ within)

length_taken : (n : ℕ) (bs rest : List ℕ) → length_read bs ≡ Some (n, rest) → is_length n × (bs ≡ length_field n ++ rest)
length_taken n bs rest is = let found = number-taken 18446744073709551615 n bs rest is in (le-leb _ _ found.0, found.1)

-- ---- sections
sections_again : (head : Head) (code data_part rest : List ℕ) → sections_read head (length code) (length data_part) (code ++ (data_part ++ rest)) ≡ Some (frame_of head code data_part, rest)
sections_again head code data_part rest = next_of _ _ _ _ (bytes_again code (data_part ++ rest)) ∙ next_of _ _ _ _ (bytes_again data_part rest)

-- a frame that was read
pub record Framed (f : Frame) (bs rest : List ℕ) : Type 0 where
  pub head : is_head f.head ≡ true
  pub code : is_length (length f.code)
  pub data_part : is_length (length f.body)
  pub bytes : bs ≡ framed f.head f.code f.body ++ rest

sections_moved : (code data_part rest : List ℕ) → sections code data_part ++ rest ≡ length_field (length code) ++ (length_field (length data_part) ++ (code ++ (data_part ++ rest)))
sections_moved code data_part rest =
    append_assoc (length_field (length code)) (length_field (length data_part) ++ (code ++ data_part)) rest
    ∙ ap (λ xs. length_field (length code) ++ xs) (append_assoc (length_field (length data_part)) (code ++ data_part) rest ∙ ap (λ xs. length_field (length data_part) ++ xs) (append_assoc code data_part rest))

framed_moved : (head : Head) (code data_part rest : List ℕ) → framed head code data_part ++ rest ≡ magic ++ (head_bytes head ++ (length_field (length code) ++ (length_field (length data_part) ++ (code ++ (data_part ++ rest)))))
framed_moved head code data_part rest =
    append_assoc magic (head_bytes head ++ sections code data_part) rest
    ∙ ap (λ xs. magic ++ xs) (append_assoc (head_bytes head) (sections code data_part) rest ∙ ap (λ xs. head_bytes head ++ xs) (sections_moved code data_part rest))

pub frame_again : (head : Head) (code data_part rest : List ℕ) → is_head head ≡ true → is_length (length code) → is_length (length data_part) → frame_read (framed head code data_part ++ rest) ≡ Some (frame_of head code data_part, rest)
frame_again head code data_part rest ok short small =
    ap frame_read (framed_moved head code data_part rest)
    ∙ next_of _ (λ front s. behind_magic s) magic (head_bytes head ++ (length_field (length code) ++ (length_field (length data_part) ++ (code ++ (data_part ++ rest))))) (magic_again _)
    ∙ next_of _ (λ h s. next (length_read s) (λ m t. next (length_read t) (λ n u. sections_read h m n u))) head (length_field (length code) ++ (length_field (length data_part) ++ (code ++ (data_part ++ rest)))) (head_again head _ ok)
    ∙ next_of _ (λ m t. next (length_read t) (λ n u. sections_read head m n u)) (length code) (length_field (length data_part) ++ (code ++ (data_part ++ rest))) (length_again (length code) _ short)
    ∙ next_of _ (λ n u. sections_read head (length code) n u) (length data_part) (code ++ (data_part ++ rest)) (length_again (length data_part) _ small)
    ∙ sections_again head code data_part rest

pub frame_taken : (bs rest : List ℕ) (f : Frame) → frame_read bs ≡ Some (f, rest) → Framed f bs rest
frame_taken bs rest f is =
    let a = came (magic_read bs) (λ front s. behind_magic s) (f, rest) is in
    let b = came (head_read a.left) (λ head s. next (length_read s) (λ m t. next (length_read t) (λ n u. sections_read head m n u))) (f, rest) a.answer in
    let c = came (length_read b.left) (λ m t. next (length_read t) (λ n u. sections_read b.first m n u)) (f, rest) b.answer in
    let d = came (length_read c.left) (λ n u. sections_read b.first c.first n u) (f, rest) c.answer in
    let e = came (bytes_read c.first d.left) (λ code s. next (bytes_read d.first s) (λ data_part more. got (frame_of b.first code data_part) more)) (f, rest) d.answer in
    let g = came (bytes_read d.first e.left) (λ data_part more. got (frame_of b.first e.first data_part) more) (f, rest) e.answer in
    let found = some_pair_parts _ _ _ _ g.answer in
    let first = magic_taken bs a.left a.first a.read in
    let head = head_taken a.left b.left b.first b.read in
    let short = length_taken c.first b.left c.left c.read in
    let small = length_taken d.first c.left d.left d.read in
    let code = bytes_taken c.first d.left e.left e.first e.read in
    let data_part = bytes_taken d.first e.left g.left g.first g.read in
    let one = frame_of b.first e.first g.first in
    let made : Framed one bs g.left = record {
      head = head.0;
      code = ap (λ n. nat_le n 18446744073709551615) code.0 ∙ short.0;
      data_part = ap (λ n. nat_le n 18446744073709551615) data_part.0 ∙ small.0;
      bytes =
          first.1
          ∙ ap (λ xs. magic ++ xs) (head.1 ∙ ap (λ xs. head_bytes b.first ++ xs) (
          short.1 ∙ ap (λ n. length_field n ++ c.left) (sym code.0) ∙ ap (λ xs. length_field (length e.first) ++ xs) (
          small.1 ∙ ap (λ n. length_field n ++ d.left) (sym data_part.0) ∙ ap (λ xs. length_field (length g.first) ++ xs) (
          code.1 ∙ ap (λ xs. e.first ++ xs) data_part.1))))
          ∙ sym (framed_moved b.first e.first g.first g.left);
    } in
    subst (λ (s : List ℕ). Framed f bs s) found.1 (subst (λ (x : Frame). Framed x bs g.left) found.0 made)
