-- Parts, children and entries: what is written is read, and what is read is so written.
use Rattle.std.proofs.Common.{◌≡◌, ◌∙◌, ℕ, zero, suc, ◌+◌, eqb, List, [], ◌∷◌, ◌++◌, map, length, true, Option, Some, None, ap, sym, refl, arith, append_assoc, length-append}
use Rattle.std.proofs.lemmas.Bool.{and_parts, and_from, eq-eqb, eqb-true}
use Rattle.std.proofs.lemmas.Option.{some_pair_parts}
use Rattle.castor_val.specs.declared.value.Value.{Value}
use Rattle.castor_alg.specs.declared.held.Held.{Held, Leaf}
use Rattle.castor_code.specs.declared.code.Range.{Range}
use Rattle.castor_code.specs.Shapes.{parts_of, rows_of, inner_of}
use Rattle.castor_code.specs.Steps.{many}
use Rattle.castor_code.specs.Pieces.{Piece, one_after_other, side_by_side, parts_piece, inner_piece, behind_number, list_piece}
use Rattle.castor_code.specs.Directories.{entry_piece}
use Rattle.castor_code.specs.Readings.{Read, ranged, in_order, parts_read, inner_read, list_read, entry_read}
use Rattle.castor_code.specs.Data.{Format, writers, readers}
use Rattle.castor_code.proofs.ShapeLaws.{parts_of-Parts, rows_of-Rows, inner_of-Inner, are_parts, are_rows, is_inner, leaf_values}
use Rattle.castor_code.proofs.StepLaws.{got, next_of, came, when_holds, let_through}
use Rattle.castor_code.proofs.ValueLaws.{before_piece, behind_taken}

-- what is written is read, whatever comes after it
abbrev pub Again : {X : Type 0} → (X → Piece) → (List ℕ → Read X) → Type 0
Again {X} write read = (x : X) (rest : List ℕ) → (write x).fits ≡ true → read ((write x).bytes ++ rest) ≡ Some (x, rest)

-- what is read is so written
abbrev pub Taken : {X : Type 0} → (X → Piece) → (List ℕ → Read X) → Type 0
Taken {X} write read = (bs rest : List ℕ) (x : X) → read bs ≡ Some (x, rest) → ((write x).fits ≡ true) × (bs ≡ (write x).bytes ++ rest)

pub record Lawful (f : Format) : Type 0 where
  pub again : Again f.write f.read
  pub taken : Taken f.write f.read

pub data AllLawful : List Format → Type 0 where
  none : AllLawful []
  more : {f : Format} {fs : List Format} → Lawful f → AllLawful fs → AllLawful (f ∷ fs)

pub in_order_again : (fs : List Format) → AllLawful fs → (hs : List Held) (rest : List ℕ) → (side_by_side (writers fs) hs).fits ≡ true → in_order (readers fs) ((side_by_side (writers fs) hs).bytes ++ rest) ≡ Some (hs, rest)
in_order_again [] none [] rest f = refl
in_order_again [] none (h ∷ hs) rest f = absurd cc
in_order_again (k ∷ ks) (more law laws) [] rest f = absurd cc
in_order_again (k ∷ ks) (more law laws) (h ∷ hs) rest f =
    let tests = and_parts _ _ f in
    let others = side_by_side (writers ks) hs in
    ap (in_order (readers (k ∷ ks))) (append_assoc (k.write h).bytes others.bytes rest)
    ∙ next_of _ _ _ _ (law.again h (others.bytes ++ rest) tests.0)
    ∙ next_of _ _ _ _ (in_order_again ks laws hs rest tests.1)

pub in_order_taken : (fs : List Format) → AllLawful fs → (bs rest : List ℕ) (hs : List Held) → in_order (readers fs) bs ≡ Some (hs, rest) → ((side_by_side (writers fs) hs).fits ≡ true) × (bs ≡ (side_by_side (writers fs) hs).bytes ++ rest)
in_order_taken [] none bs rest hs is =
    let parts = some_pair_parts _ _ _ _ is in
    (ap (λ (gs : List Held). (side_by_side [] gs).fits) (sym parts.0), parts.1 ∙ ap (λ (gs : List Held). (side_by_side [] gs).bytes ++ rest) parts.0)
in_order_taken (k ∷ ks) (more law laws) bs rest hs is =
    let b = came _ _ _ is in
    let c = came _ _ _ b.answer in
    let parts = some_pair_parts _ _ _ _ c.answer in
    let first = law.taken bs b.left b.first b.read in
    let others = in_order_taken ks laws b.left c.left c.first c.read in
    let all = λ (gs : List Held). side_by_side (writers (k ∷ ks)) gs in (
      ap (λ (gs : List Held). (all gs).fits) (sym parts.0) ∙ and_from _ _ first.0 others.0,
      first.1 ∙ ap (λ xs. (k.write b.first).bytes ++ xs) others.1 ∙ sym (append_assoc (k.write b.first).bytes _ c.left)
          ∙ ap (λ (gs : List Held). (all gs).bytes ++ c.left) parts.0 ∙ ap (λ xs. (all hs).bytes ++ xs) parts.1,
    )

module _ {X : Type 0} (write : X → Piece) (read : List ℕ → Read X) where
  pub many_again : Again write read → (xs : List X) (rest : List ℕ) → (one_after_other write xs).fits ≡ true → many (length xs) read ((one_after_other write xs).bytes ++ rest) ≡ Some (xs, rest)
  many_again law [] rest f = refl
  many_again law (x ∷ xs) rest f =
      let tests = and_parts _ _ f in
      let others = one_after_other write xs in
      ap (many (suc (length xs)) read) (append_assoc (write x).bytes others.bytes rest)
      ∙ next_of _ _ _ _ (law x (others.bytes ++ rest) tests.0)
      ∙ next_of _ _ _ _ (many_again law xs rest tests.1)

  pub many_taken : Taken write read → (n : ℕ) (bs rest : List ℕ) (xs : List X) → many n read bs ≡ Some (xs, rest)
      → (length xs ≡ n) × ((one_after_other write xs).fits ≡ true) × (bs ≡ (one_after_other write xs).bytes ++ rest)
  many_taken law zero bs rest xs is =
      let parts = some_pair_parts _ _ _ _ is in
      (ap length (sym parts.0), ap (λ ys. (one_after_other write ys).fits) (sym parts.0), parts.1 ∙ ap (λ ys. (one_after_other write ys).bytes ++ rest) parts.0)
  many_taken law (suc n) bs rest xs is =
      let b = came _ _ _ is in
      let c = came _ _ _ b.answer in
      let parts = some_pair_parts _ _ _ _ c.answer in
      let first = law bs b.left b.first b.read in
      let others = many_taken law n b.left c.left c.first c.read in (
        ap length (sym parts.0) ∙ ap suc others.0,
        ap (λ ys. (one_after_other write ys).fits) (sym parts.0) ∙ and_from _ _ first.0 others.1,
        first.1 ∙ ap (λ ys. (write b.first).bytes ++ ys) others.2 ∙ sym (append_assoc (write b.first).bytes _ c.left)
            ∙ ap (λ ys. (one_after_other write ys).bytes ++ c.left) parts.0 ∙ ap (λ ys. (one_after_other write xs).bytes ++ ys) parts.1,
      )

pub parts_again : (fs : List Format) → AllLawful fs → (h : Held) (rest : List ℕ) (o : Option (List Held)) → parts_of h ≡ o → (parts_piece (writers fs) o).fits ≡ true → parts_read (readers fs) ((parts_piece (writers fs) o).bytes ++ rest) ≡ Some (h, rest)
parts_again fs laws h rest None is f = absurd cc
parts_again fs laws h rest (Some hs) is f = next_of _ _ _ _ (in_order_again fs laws hs rest f) ∙ ap (λ (g : Held). got g rest) (sym (are_parts h hs is))

pub parts_taken : (fs : List Format) → AllLawful fs → (bs rest : List ℕ) (h : Held) → parts_read (readers fs) bs ≡ Some (h, rest) → ((parts_piece (writers fs) (parts_of h)).fits ≡ true) × (bs ≡ (parts_piece (writers fs) (parts_of h)).bytes ++ rest)
parts_taken fs laws bs rest h is =
    let b = came _ _ _ is in
    let found = some_pair_parts _ _ _ _ b.answer in
    let parts : parts_of h ≡ Some b.first = ap parts_of (sym found.0) ∙ parts_of-Parts b.first in
    let all = in_order_taken fs laws bs b.left b.first b.read in (
      ap (λ o. (parts_piece (writers fs) o).fits) parts ∙ all.0,
      all.1 ∙ ap (λ xs. (side_by_side (writers fs) b.first).bytes ++ xs) found.1 ∙ ap (λ o. (parts_piece (writers fs) o).bytes ++ rest) (sym parts),
    )

pub inner_again : (f : Format) → Lawful f → (h : Held) (rest : List ℕ) (o : Option Held) → inner_of h ≡ o → (inner_piece f.write o).fits ≡ true → inner_read f.read ((inner_piece f.write o).bytes ++ rest) ≡ Some (h, rest)
inner_again f law h rest None is ok = absurd cc
inner_again f law h rest (Some g) is ok = next_of _ _ _ _ (law.again g rest ok) ∙ ap (λ (x : Held). got x rest) (sym (is_inner h g is))

pub inner_taken : (f : Format) → Lawful f → (bs rest : List ℕ) (h : Held) → inner_read f.read bs ≡ Some (h, rest) → ((inner_piece f.write (inner_of h)).fits ≡ true) × (bs ≡ (inner_piece f.write (inner_of h)).bytes ++ rest)
inner_taken f law bs rest h is =
    let b = came _ _ _ is in
    let found = some_pair_parts _ _ _ _ b.answer in
    let inner : inner_of h ≡ Some b.first = ap inner_of (sym found.0) ∙ inner_of-Inner b.first in
    let one = law.taken bs b.left b.first b.read in (
      ap (λ o. (inner_piece f.write o).fits) inner ∙ one.0,
      one.1 ∙ ap (λ xs. (f.write b.first).bytes ++ xs) found.1 ∙ ap (λ o. (inner_piece f.write o).bytes ++ rest) (sym inner),
    )

pub list_again : (count body : Range) (f : Format) → Lawful f → (h : Held) (rest : List ℕ) (o : Option (List Held)) → rows_of h ≡ o → (list_piece count body f.write o).fits ≡ true → list_read count body f.read ((list_piece count body f.write o).bytes ++ rest) ≡ Some (h, rest)
list_again count body f law h rest None is ok = absurd cc
list_again count body f law h rest (Some hs) is ok =
    let p = one_after_other f.write hs in
    let within = and_parts _ _ ok in
    let inside = and_parts _ _ within.1 in
    let whole : eqb (length (p.bytes ++ rest)) (length p.bytes + length rest) ≡ true = eq-eqb _ _ (length-append p.bytes rest) in
    next_of _ _ _ _ (before_piece count (length hs) (behind_number body (length p.bytes) p) rest ok)
    ∙ next_of _ _ _ _ (before_piece body (length p.bytes) p rest within.1)
    ∙ next_of _ _ _ _ (many_again f.write f.read law.again hs rest inside.1)
    ∙ when_holds _ _ whole
    ∙ ap (λ (g : Held). got g rest) (sym (are_rows h hs is))

pub list_taken : (count body : Range) (f : Format) → Lawful f → (bs rest : List ℕ) (h : Held) → list_read count body f.read bs ≡ Some (h, rest) → ((list_piece count body f.write (rows_of h)).fits ≡ true) × (bs ≡ (list_piece count body f.write (rows_of h)).bytes ++ rest)
list_taken count body f law bs rest h is =
    let n = came _ _ _ is in
    let len = came _ _ _ n.answer in
    let kids = came _ _ _ len.answer in
    let found = let_through _ _ _ _ _ kids.answer in
    let hs = kids.first in
    let rows : rows_of h ≡ Some hs = ap rows_of (sym found.value) ∙ rows_of-Rows hs in
    let all = many_taken f.write f.read law.taken n.first len.left kids.left hs kids.read in
    let p = one_after_other f.write hs in
    let whole : length len.left ≡ length p.bytes + length kids.left = ap length all.2 ∙ length-append p.bytes kids.left in
    let told : length len.left ≡ len.first + length kids.left = eqb-true _ _ found.holds in
    let size : len.first ≡ length p.bytes = omega arith in
    let sized : ranged body n.left ≡ Some (length p.bytes, len.left) = len.read ∙ ap (λ m. got m len.left) size in
    let counted : ranged count bs ≡ Some (length hs, n.left) = n.read ∙ ap (λ m. got m n.left) (sym all.0) in
    let inside = behind_taken body (length p.bytes) p n.left len.left rest sized all.1 (all.2 ∙ ap (λ xs. p.bytes ++ xs) found.left) in
    let outside = behind_taken count (length hs) (behind_number body (length p.bytes) p) bs n.left rest counted inside.0 inside.1 in
    (ap (λ o. (list_piece count body f.write o).fits) rows ∙ outside.0, outside.1 ∙ ap (λ o. (list_piece count body f.write o).bytes ++ rest) (sym rows))

pub entry_again : (fs : List Format) (f : Format) → AllLawful fs → Lawful f → Again (entry_piece (writers fs) f.write) (entry_read (readers fs) f.read)
entry_again fs f laws law e rest ok =
    let tests = and_parts _ _ ok in
    let key = side_by_side (writers fs) (map Leaf e.key) in
    ap (entry_read (readers fs) f.read) (append_assoc key.bytes (f.write e.kid).bytes rest)
    ∙ next_of _ _ _ _ (in_order_again fs laws (map Leaf e.key) ((f.write e.kid).bytes ++ rest) tests.0)
    ∙ next_of _ _ _ _ (law.again e.kid rest tests.1)
    ∙ ap (λ (row : List Value). got (record { key = row; kid = e.kid }) rest) (leaf_values e.key)
