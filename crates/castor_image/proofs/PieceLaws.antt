-- Pieces put one after the other.
use Rattle.std.proofs.Common.{◌≡◌, ◌∙◌, ℕ, ◌+◌, ◌<◌, ◌≤◌, List, [], ◌∷◌, ◌++◌, drop, length, get_or, Bool, true, false, ◌&&◌, ap, sym, refl, append_assoc, append-nil}
use Rattle.std.proofs.lemmas.List.{drop_more, drop_all}
use Rattle.castor_code.specs.Pieces.{Piece, both, empty_piece, one_after_other}

-- what is left of a piece whose front is put
pub record Left (left all : Piece) (out old : List ℕ) : Type 0 where
  pub fits : all.fits ≡ left.fits
  pub bytes : out ++ left.bytes ≡ old ++ all.bytes

first_holds : (a b : Bool) → a ≡ true → (a && b) ≡ b
first_holds true b is = refl
first_holds false b is = absurd cc

pub first_fails : (a b : Bool) → a ≡ false → (a && b) ≡ false
first_fails true b is = absurd cc
first_fails false b is = refl

-- the next piece is put
pub left_more : (left p more all : Piece) (out old new : List ℕ) → left ≡ both p more → p.fits ≡ true → new ≡ out ++ p.bytes → Left left all out old → Left more all new old
left_more left p more all out old new is holds put so = record {
  fits = so.fits ∙ ap (λ (q : Piece). q.fits) is ∙ first_holds p.fits more.fits holds;
  bytes = ap (λ xs. xs ++ more.bytes) put ∙ append_assoc out p.bytes more.bytes ∙ ap (λ (q : Piece). out ++ q.bytes) (sym is) ∙ so.bytes;
}

-- the next piece doesn't fit
pub left_refused : (left p more all : Piece) (out old : List ℕ) → left ≡ both p more → p.fits ≡ false → Left left all out old → all.fits ≡ false
left_refused left p more all out old is refused so = so.fits ∙ ap (λ (q : Piece). q.fits) is ∙ first_fails p.fits more.fits refused

-- nothing is left
pub left_done : (left all : Piece) (out old : List ℕ) → left ≡ empty_piece → Left left all out old → (all.fits ≡ true) × (out ≡ old ++ all.bytes)
left_done left all out old is so = (so.fits ∙ ap (λ (q : Piece). q.fits) is, sym (append-nil out) ∙ ap (λ (q : Piece). out ++ q.bytes) (sym is) ∙ so.bytes)

-- at the start, all is left
pub left_all : (all : Piece) (out : List ℕ) → Left all all out out
left_all all out = record { fits = refl; bytes = refl }

module _ {X : Type 0} (write : X → Piece) where
  pub others_next : (xs : List X) (i : ℕ) (x : X) → i < length xs → x ≡ get_or xs i x → one_after_other write (drop i xs) ≡ both (write x) (one_after_other write (drop (i + 1) xs))
  others_next xs i x lt is = ap (one_after_other write) (drop_more xs i x lt) ∙ ap (λ (y : X). both (write y) (one_after_other write (drop (i + 1) xs))) (sym is)

  pub others_end : (xs : List X) (i : ℕ) → length xs ≤ i → one_after_other write (drop i xs) ≡ empty_piece
  others_end xs i le = ap (one_after_other write) (drop_all i xs le)

-- the pieces of pairs, one of a list and one of another
module _ {K V : Type 0} (all : List K → List V → Piece) (one : K → V → Piece) where
  pub pairs_next : ((k : K) (ks : List K) (v : V) (vs : List V) → all (k ∷ ks) (v ∷ vs) ≡ both (one k v) (all ks vs)) → (ks : List K) (vs : List V) (i : ℕ) (k : K) (v : V)
      → i < length ks → i < length vs → k ≡ get_or ks i k → v ≡ get_or vs i v → all (drop i ks) (drop i vs) ≡ both (one k v) (all (drop (i + 1) ks) (drop (i + 1) vs))
  pairs_next turns ks vs i k v in_ks in_vs is is_v =
      ap (λ (xs : List K). all xs (drop i vs)) (drop_more ks i k in_ks)
      ∙ ap (λ (ys : List V). all (get_or ks i k ∷ drop (i + 1) ks) ys) (drop_more vs i v in_vs)
      ∙ turns (get_or ks i k) (drop (i + 1) ks) (get_or vs i v) (drop (i + 1) vs)
      ∙ ap (λ (j : K). both (one j (get_or vs i v)) (all (drop (i + 1) ks) (drop (i + 1) vs))) (sym is)
      ∙ ap (λ (w : V). both (one k w) (all (drop (i + 1) ks) (drop (i + 1) vs))) (sym is_v)

  pub pairs_end : all [] [] ≡ empty_piece → (ks : List K) (vs : List V) (i : ℕ) → length ks ≤ i → length vs ≤ i → all (drop i ks) (drop i vs) ≡ empty_piece
  pairs_end none ks vs i end_ks end_vs = ap (λ (xs : List K). all xs (drop i vs)) (drop_all i ks end_ks) ∙ ap (all []) (drop_all i vs end_vs) ∙ none
