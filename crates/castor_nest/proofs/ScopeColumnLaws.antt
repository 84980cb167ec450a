-- The columns of a scope, one after the other.
use Rattle.std.proofs.Common.{◌≡◌, ◌∙◌, ℕ, suc, ◌+◌, ◌-◌, ◌<◌, ◌≤◌, List, [], ◌∷◌, ◌++◌, map, sym, ap, arith}
use Rattle.std.proofs.lemmas.List.{append-nil, append_assoc}
use Rattle.castor_alg.specs.declared.expr.Expr.{Scope}
use Rattle.castor_alg.specs.declared.rel.Rel.{Rel, Scalar}
use Rattle.castor_nest.specs.ScopeColumns.{scope_columns, scope_columns_from}

-- what is made, and what is left from a column on
abbrev pub MadeBefore : ℕ → ℕ → ℕ → List Rel → Type 0
MadeBefore k count at made = made ++ map Scalar (scope_columns_from k at (count - at)) ≡ map Scalar (scope_columns k count)

pub made_first : (k count : ℕ) → MadeBefore k count 0 []
made_first k count = let whole : count - 0 ≡ count = omega arith in ap (λ (n : ℕ). map Scalar (scope_columns_from k 0 n)) whole

pub made_more : (k count at : ℕ) (made more : List Rel) → at < count → more ≡ made ++ Scalar (Scope k at) ∷ [] → MadeBefore k count at made → MadeBefore k count (at + 1) more
made_more k count at made more below is before =
    let next : count - at ≡ suc (count - (at + 1)) = omega arith in
    ap (λ rs. rs ++ map Scalar (scope_columns_from k (at + 1) (count - (at + 1)))) is
    ∙ append_assoc made (Scalar (Scope k at) ∷ []) (map Scalar (scope_columns_from k (at + 1) (count - (at + 1))))
    ∙ sym (ap (λ (n : ℕ). made ++ map Scalar (scope_columns_from k at n)) next)
    ∙ before

pub made_all : (k count at : ℕ) (made : List Rel) → count ≤ at → MadeBefore k count at made → made ≡ map Scalar (scope_columns k count)
made_all k count at made done before =
    let none : count - at ≡ 0 = omega arith in
    sym (append-nil made) ∙ sym (ap (λ (n : ℕ). made ++ map Scalar (scope_columns_from k at n)) none) ∙ before
