-- What the derived comparisons and hashes of cells compute, in terms of the values that they hold.
use Rattle.std.proofs.Common.{◌≡◌, ◌∙◌, List, [], ◌∷◌, map, ◌&&◌, refl, ap}
use Rattle.std.specs.declared.cmp.Ordering.{Ordering}
use Rattle.std.specs.declared.cmp.Ordering.TheVariants.{Less, Equal, Greater}
use Rattle.std.specs.Ordering.{is_eq, ordering_then}
use Rattle.std.specs.Cmp.Lexicographic.{slice_cmp}
use Rattle.castor_val.specs.declared.value.Cell.{Cell}
use Rattle.castor_val.specs.declared.value.Cell.TheVariants.{Int, Bool, Text}
use Rattle.castor_val.specs.contracts.value.CellOrd.TheImpl as ord
use Rattle.castor_val.specs.contracts.value.CellOrd.TheImpl.Laws as ord_laws
use Rattle.castor_val.specs.contracts.value.CellPartialEq.TheImpl as eq
use Rattle.castor_val.specs.Values.{value_of, value_cmp, row_cmp, same_value, same_row}
use lib.Pointwise.{pointwise}

-- the order of cells is that of their values
pub cell_cmp : (a b : Cell) → ord.ghosts.cmp a b ≡ value_cmp (value_of a) (value_of b)
cell_cmp (Int x) (Int y) = refl
cell_cmp (Int x) (Bool y) = refl
cell_cmp (Int x) (Text y) = refl
cell_cmp (Bool x) (Int y) = refl
cell_cmp (Bool x) (Bool y) = refl
cell_cmp (Bool x) (Text y) = refl
cell_cmp (Text x) (Int y) = refl
cell_cmp (Text x) (Bool y) = refl
cell_cmp (Text x) (Text y) = refl

-- and so is the order of rows of cells
pub cells_cmp : (a b : List Cell) → slice_cmp ord.ghosts.cmp a b ≡ row_cmp (map value_of a) (map value_of b)
cells_cmp [] [] = refl
cells_cmp [] (y ∷ b) = refl
cells_cmp (x ∷ a) [] = refl
cells_cmp (x ∷ a) (y ∷ b) = λ i. ordering_then (cell_cmp x y i) (cells_cmp a b i)

-- the equality of cells is that of their values
pub cell_eq : (a b : Cell) → eq.ghosts.eq a b ≡ same_value (value_of a) (value_of b)
cell_eq a b = ord_laws.matches_eq-law a b ∙ ap is_eq (cell_cmp a b)

is_eq-then : (o p : Ordering) → (is_eq o && is_eq p) ≡ is_eq (ordering_then o p)
is_eq-then Less p = refl
is_eq-then Equal p = refl
is_eq-then Greater p = refl

-- and so is that of rows of cells
pub cells_eq : (a b : List Cell) → pointwise eq.ghosts.eq a b ≡ same_row (map value_of a) (map value_of b)
cells_eq [] [] = refl
cells_eq [] (y ∷ b) = refl
cells_eq (x ∷ a) [] = refl
cells_eq (x ∷ a) (y ∷ b) = (λ i. cell_eq x y i && cells_eq a b i) ∙ is_eq-then (value_cmp (value_of x) (value_of y)) (row_cmp (map value_of a) (map value_of b))
