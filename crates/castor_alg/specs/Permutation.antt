-- Lists with the same elements, and outcomes that are the same up to the order of rows.
use Rattle.std.specs.Prelude.{◌≡◌, List, [], ◌∷◌}
use Rattle.castor_alg.specs.declared.out.Out.{Out}

-- each is the other in another order
pub data Permutes {X : Type 0} : List X → List X → Type 0 where
  nil : Permutes [] []
  skip : {x : X} {xs ys : List X} → Permutes xs ys → Permutes (x ∷ xs) (x ∷ ys)
  swap : {x y : X} {xs : List X} → Permutes (x ∷ y ∷ xs) (y ∷ x ∷ xs)
  trans : {xs ys zs : List X} → Permutes xs ys → Permutes ys zs → Permutes xs zs

-- the same rows in any order, and the same faults
pub record SameUpToOrder (a b : Out) : Type 0 where
  pub rows : Permutes a.rows b.rows
  pub faults : a.faults ≡ b.faults
