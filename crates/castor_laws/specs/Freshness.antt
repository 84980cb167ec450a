-- What is so of a fresh scope.
use Rattle.std.specs.Prelude.{◌≡◌, ℕ, ◌<◌, ◌==◌, All, Bool, false}
use Rattle.std.specs.List.{list_any}
use Rattle.castor_alg.specs.declared.rel.Rel.{Rel}
use Rattle.castor_alg.specs.FreeScopes.{is_free}
use Rattle.castor_alg.specs.FreshScope.{scope_numbers}

-- the scope number is in the relation, bound or free
abbrev pub occurs : ℕ → Rel → Bool
occurs k q = list_any (λ j. j == k) (scope_numbers q)

-- the number is above all that occur, so that it occurs nowhere and isn't free
pub record IsFresh (k : ℕ) (q : Rel) : Type 0 where
  pub above : All (λ j. j < k) (scope_numbers q)
  pub absent : occurs k q ≡ false
  pub unread : is_free k q ≡ false

-- a number that is above all that occur is fresh
abbrev pub FreshIfAbove : ℕ → Rel → Type 0
FreshIfAbove k q = All (λ j. j < k) (scope_numbers q) → IsFresh k q
