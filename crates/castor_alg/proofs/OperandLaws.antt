-- What code that goes over the operands of a relation has shown.
use Rattle.std.proofs.Common.{◌≡◌, ◌∙◌, ℕ, ◌+◌, ◌-◌, ◌^◌, min, map, sum, refl, sym, ap, List, [], ◌∷◌, Bool, ◌||◌, arith}
use Rattle.std.specs.List.{list_any, list_all}
use Rattle.std.proofs.lemmas.List.Folds.{list_all-map}
use Rattle.castor_alg.specs.declared.rel.Rel.{Rel}
use Rattle.castor_alg.specs.Sizes.{nodes, depth, deepest}
use Rattle.castor_alg.specs.FreeScopes.{is_free}
use Rattle.castor_alg.specs.Substitution.{captures}
use Rattle.castor_alg.specs.declared.expr.Expr.{Expr}
use Rattle.castor_alg.specs.Totality.{is_total}

-- a relation has one node more than its operands have
pub nodes_of_operands : (q : Rel) (rs slice : List Rel) (below result : ℕ) → nodes q ≡ 1 + sum (map nodes rs) → slice ≡ rs → below ≡ min (sum (map nodes slice)) (2 ^ 64 - 1) → result ≡ min (1 + sum (below ∷ [])) (2 ^ 64 - 1) → result ≡ min (nodes q) (2 ^ 64 - 1)
nodes_of_operands q rs slice below result all same counted is =
    let moved = ap (λ (xs : List Rel). sum (map nodes xs)) same in
    omega arith

-- a relation is one level deeper than its deepest operand
pub depth_of_operands : (q : Rel) (rs slice : List Rel) (below result : ℕ) → depth q ≡ 1 + deepest (map depth rs) → slice ≡ rs → below ≡ min (deepest (map depth slice)) (2 ^ 64 - 1) → result ≡ min (1 + deepest (below ∷ [])) (2 ^ 64 - 1) → result ≡ min (depth q) (2 ^ 64 - 1)
depth_of_operands q rs slice below result all same counted is =
    let moved = ap (λ (xs : List Rel). deepest (map depth xs)) same in
    omega arith

list_any-map : {X : Type 0} (p : X → Bool) (xs : List X) → list_any (λ b. b) (map p xs) ≡ list_any p xs
list_any-map p [] = refl
list_any-map p (x ∷ xs) = ap (λ b. p x || b) (list_any-map p xs)

-- a scope is free in a relation where it is free in an operand
pub free_in_operands : (scope : ℕ) (q : Rel) (rs slice : List Rel) (result : Bool) → is_free scope q ≡ list_any (λ b. b) (map (is_free scope) rs) → slice ≡ rs → result ≡ list_any (is_free scope) slice → result ≡ is_free scope q
free_in_operands scope q rs slice result all same found = found ∙ ap (list_any (is_free scope)) same ∙ sym (list_any-map (is_free scope) rs) ∙ sym all

-- a relation is total where its operands are
pub total_over_operands : (q : Rel) (rs slice : List Rel) (result : Bool) → is_total q ≡ list_all (λ b. b) (map is_total rs) → slice ≡ rs → result ≡ list_all is_total slice → result ≡ is_total q
total_over_operands q rs slice result all same found = found ∙ ap (list_all is_total) same ∙ sym (list_all-map (λ b. b) is_total rs) ∙ sym all

-- a binder captures in a relation where one does in an operand
pub captures_in_operands : (k : ℕ) (by : List Expr) (q : Rel) (rs slice : List Rel) (result : Bool) → captures k by q ≡ list_any (λ b. b) (map (captures k by) rs) → slice ≡ rs → result ≡ list_any (captures k by) slice → result ≡ captures k by q
captures_in_operands k by q rs slice result all same found = found ∙ ap (list_any (captures k by)) same ∙ sym (list_any-map (captures k by) rs) ∙ sym all
