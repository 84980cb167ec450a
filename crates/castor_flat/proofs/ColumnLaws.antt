-- The columns from one number on, one after the other.
use Rattle.std.proofs.Common.{◌≡◌, ◌∙◌, ℕ, ◌+◌, ◌-◌, ◌≤◌, List, [], ◌∷◌, ◌++◌, map, sym, ap, arith}
use Rattle.std.specs.List.{range_with_len}
use Rattle.std.proofs.lemmas.List.FromFn.{map-range_with_len_more}
use Rattle.castor_alg.specs.declared.expr.Expr.{Expr, Col}

-- what is made of the columns before a number
abbrev pub MadeBefore : ℕ → ℕ → List Expr → Type 0
MadeBefore from at columns = columns ≡ map Col (range_with_len from (at - from))

pub columns_first : (from : ℕ) (columns : List Expr) → columns ≡ [] → MadeBefore from from columns
columns_first from columns is = let none : from - from ≡ 0 = omega arith in is ∙ sym (ap (λ (n : ℕ). map Col (range_with_len from n)) none)

pub columns_more : (from at : ℕ) (columns more : List Expr) → from ≤ at → more ≡ columns ++ Col at ∷ [] → MadeBefore from at columns → MadeBefore from (at + 1) more
columns_more from at columns more above is before =
    let here : from + (at - from) ≡ at = omega arith in
    let next : at + 1 - from ≡ at - from + 1 = omega arith in
    is
    ∙ ap (λ (cs : List Expr). cs ++ Col at ∷ []) before
    ∙ sym (map-range_with_len_more Col from (at - from) at here)
    ∙ sym (ap (λ (n : ℕ). map Col (range_with_len from n)) next)

pub columns_all : (from to at : ℕ) (columns : List Expr) → to ≤ at → at ≤ to → MadeBefore from at columns → MadeBefore from to columns
columns_all from to at columns done within before = let same : at - from ≡ to - from = omega arith in before ∙ ap (λ (n : ℕ). map Col (range_with_len from n)) same
