-- The sum of a column over one more row.
use Rattle.std.proofs.Common.{◌≡◌, ◌∙◌, ℕ, pos, ◌+ℤ◌, ◌<◌, ◌+◌, List, [], ◌∷◌, length, map, take, get_or, ap}
use Rattle.std.specs.Borrow.{Bor}
use Rattle.std.proofs.lemmas.List.{map-append, take_more}
use Rattle.std.proofs.lemmas.List.Sums.{fold-append}
use Rattle.castor_val.specs.declared.value.Cell.{Cell}
use Rattle.castor_val.specs.Values.{column}
use Rattle.castor_alg.specs.Groups.{int_in, total}
use Rattle.castor_reader.specs.Answers.{row_behind}

-- the whole number of one more row
pub total-more : (at : ℕ) (rows : List (Bor (List Cell))) (i : ℕ) (d : Bor (List Cell)) → i < length rows → total at (map row_behind (take (i + 1) rows)) ≡ total at (map row_behind (take i rows)) +ℤ int_in (column (row_behind (get_or rows i d)) at)
total-more at rows i d h =
    ap (λ rs. total at (map row_behind rs)) (take_more rows i d h)
    ∙ ap (total at) (map-append row_behind (take i rows) (get_or rows i d ∷ []))
    ∙ fold-append (λ sum r. sum +ℤ int_in (column r at)) (pos 0) (map row_behind (take i rows)) (row_behind (get_or rows i d) ∷ [])
