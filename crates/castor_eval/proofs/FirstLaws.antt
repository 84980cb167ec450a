-- Marks of the rows that are first of equal ones, with one more row.
use Rattle.std.proofs.Common.{◌≡◌, ◌∙◌, ℕ, ◌+◌, ◌<◌, List, [], ◌∷◌, ◌++◌, length, take, get_or, refl, sym, ap, cond, Bool, true, false, not, append-nil, arith}
use Rattle.std.proofs.lemmas.List.{take_more, length-take-le, length_push}
use Rattle.castor_val.specs.declared.row.Row.{Row}
use Rattle.castor_val.specs.Values.{same_row}
use Rattle.castor_alg.specs.Distinct.{distinct}
use Rattle.castor_eval.specs.Marks.{marked}
use Rattle.castor_laws.proofs.DistinctLaws.{same_row-IsEqualityTest}
use Rattle.castor_eval.proofs.DistinctLaws.{distinct-push}
use Rattle.castor_eval.proofs.MarkLaws.{marked-both}
use Rattle.castor_eval.proofs.ViewLaws.{holds}

taken : (xs : List Row) (i : ℕ) (x : Row) → i < length xs → x ≡ get_or xs i x → take (i + 1) xs ≡ take i xs ++ x ∷ []
taken xs i x h at = take_more xs i x h ∙ ap (λ y. take i xs ++ y ∷ []) (sym at)

-- the rows seen
pub seen-more : (seen seen' xs : List Row) (i : ℕ) (x : Row) → i < length xs → x ≡ get_or xs i x → seen ≡ distinct same_row (take i xs) → seen' ≡ cond (holds x seen) seen (seen ++ x ∷ []) → seen' ≡ distinct same_row (take (i + 1) xs)
seen-more seen seen' xs i x h at s n =
    n ∙ ap (λ ds. cond (holds x ds) ds (ds ++ x ∷ [])) s
    ∙ sym (distinct-push same_row same_row-IsEqualityTest (take i xs) x)
    ∙ ap (distinct same_row) (sym (taken xs i x h at))

new_at : (b : Bool) (ds : List Row) (x : Row) → ds ++ cond (not b) (x ∷ []) [] ≡ cond b ds (ds ++ x ∷ [])
new_at true ds x = append-nil ds
new_at false ds x = refl

-- the marks
pub marks-more : (marks marks' : List Bool) (seen xs : List Row) (i : ℕ) (x : Row) (is_new : Bool) → i < length xs → x ≡ get_or xs i x → seen ≡ distinct same_row (take i xs) → marked marks (take i xs) ≡ distinct same_row (take i xs) → length marks ≡ i
    → is_new ≡ not (holds x seen) → marks' ≡ marks ++ is_new ∷ [] → marked marks' (take (i + 1) xs) ≡ distinct same_row (take (i + 1) xs)
marks-more marks marks' seen xs i x is_new h at s m len new e =
    (λ j. marked (e j) (taken xs i x h at j))
    ∙ marked-both marks (take i xs) is_new x (len ∙ sym (length-take-le i xs (omega (arith, h))))
    ∙ (λ j. m j ++ cond (new j) (x ∷ []) [])
    ∙ ap (λ ds. distinct same_row (take i xs) ++ cond (not (holds x ds)) (x ∷ []) []) s
    ∙ new_at (holds x (distinct same_row (take i xs))) (distinct same_row (take i xs)) x
    ∙ sym (distinct-push same_row same_row-IsEqualityTest (take i xs) x)
    ∙ ap (distinct same_row) (sym (taken xs i x h at))

pub length-more : (marks marks' : List Bool) (i : ℕ) (b : Bool) → length marks ≡ i → marks' ≡ marks ++ b ∷ [] → length marks' ≡ i + 1
length-more marks marks' i b len e = ap length e ∙ length_push marks b ∙ ap (λ n. n + 1) len
