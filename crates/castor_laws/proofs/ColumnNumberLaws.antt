-- Columns taken by their numbers, one after the other, and columns side by side.
use Rattle.std.proofs.Common.{◌≡◌, ◌∙◌, ℕ, zero, suc, ◌+◌, ◌-◌, ◌<◌, ◌≤◌, List, [], ◌∷◌, ◌++◌, length, map, refl, ap, Ok, Some, slice_get, arith}
use Rattle.std.specs.List.{range_with_len}
use Rattle.castor_val.specs.declared.row.Row.{Row}
use Rattle.castor_val.specs.declared.value.Ty.{Ty}
use Rattle.castor_val.specs.Values.{column}
use Rattle.castor_alg.specs.declared.context.Context.{Context}
use Rattle.castor_alg.specs.declared.expr.Expr.{Col}
use Rattle.castor_alg.specs.Expression.{expr_values, put_front}
use Rattle.castor_alg.specs.Groups.{key_of}
use Rattle.castor_alg.specs.Scopes.{Scopes}
use Rattle.castor_alg.specs.Typing.{each, types_of_each, with_both}
use Rattle.castor_laws.proofs.ExprClauseLaws.{expr_value-Col}
use Rattle.castor_laws.proofs.TypeClauseLaws.{type_under-Col}

pub values_of_columns : (row : Row) (env : Scopes) (p : Row) (ns : List ℕ) → expr_values (map Col ns) row env p ≡ Ok (key_of ns row)
values_of_columns row env p [] = refl
values_of_columns row env p (n ∷ ns) = λ i. put_front (expr_value-Col row env p n i) (values_of_columns row env p ns i)

pub types_of_columns : (columns : List Ty) (context : Context) (ns : List ℕ) → types_of_each (map Col ns) columns context ≡ each (map (λ n. slice_get columns n) ns)
types_of_columns columns context [] = refl
types_of_columns columns context (n ∷ ns) = λ i. with_both (λ t ts. t ∷ ts) (type_under-Col columns context n i) (types_of_columns columns context ns i)

-- a column of two rows side by side is one of the first, or of the second
pub column_left : (a b : Row) (i : ℕ) → i < length a → column (a ++ b) i ≡ column a i
column_left [] b i below = absurd (omega arith)
column_left (v ∷ a) b zero below = refl
column_left (v ∷ a) b (suc i) below = column_left a b i (omega arith)

pub column_right : (a b : Row) (i : ℕ) → length a ≤ i → column (a ++ b) i ≡ column b (i - length a)
column_right [] b i above = let same : i ≡ i - 0 = omega arith in ap (column b) same
column_right (v ∷ a) b zero above = absurd (omega arith)
column_right (v ∷ a) b (suc i) above =
    let same : i - length a ≡ suc i - suc (length a) = omega arith in
    column_right a b i (omega arith) ∙ ap (column b) same

-- and so of types
pub type_left : (a b : List Ty) (i : ℕ) → i < length a → slice_get (a ++ b) i ≡ slice_get a i
type_left [] b i below = absurd (omega arith)
type_left (t ∷ a) b zero below = refl
type_left (t ∷ a) b (suc i) below = type_left a b i (omega arith)

pub type_right : (a b : List Ty) (i : ℕ) → length a ≤ i → slice_get (a ++ b) i ≡ slice_get b (i - length a)
type_right [] b i above = let same : i ≡ i - 0 = omega arith in ap (slice_get b) same
type_right (t ∷ a) b zero above = absurd (omega arith)
type_right (t ∷ a) b (suc i) above =
    let same : i - length a ≡ suc i - suc (length a) = omega arith in
    type_right a b i (omega arith) ∙ ap (slice_get b) same

-- columns from one on are a row where they have its values
module _ (row : Row) where
  columns_from : (at : ℕ) (rest : Row) → ((i : ℕ) → i < length rest → column row (at + i) ≡ column rest i) → key_of (range_with_len at (length rest)) row ≡ rest
  columns_from at [] same = refl
  columns_from at (v ∷ rest) same =
      let here : at ≡ at + 0 = omega arith in
      let first : column row at ≡ v = ap (column row) here ∙ same 0 (omega arith) in
      λ i. first i ∷ columns_from (at + 1) rest (λ j below. further j below) i
    where
      further : (j : ℕ) → j < length rest → column row (at + 1 + j) ≡ column rest j
      further j below = let next : at + 1 + j ≡ at + suc j = omega arith in ap (column row) next ∙ same (suc j) (omega arith)

module _ (columns : List Ty) where
  types_from : (at : ℕ) (rest : List Ty) → ((i : ℕ) → i < length rest → slice_get columns (at + i) ≡ slice_get rest i) → each (map (λ n. slice_get columns n) (range_with_len at (length rest))) ≡ Some rest
  types_from at [] same = refl
  types_from at (t ∷ rest) same =
      let here : at ≡ at + 0 = omega arith in
      let first : slice_get columns at ≡ Some t = ap (slice_get columns) here ∙ same 0 (omega arith) in
      λ i. with_both (λ t ts. t ∷ ts) (first i) (types_from (at + 1) rest (λ j below. further j below) i)
    where
      further : (j : ℕ) → j < length rest → slice_get columns (at + 1 + j) ≡ slice_get rest j
      further j below = let next : at + 1 + j ≡ at + suc j = omega arith in ap (slice_get columns) next ∙ same (suc j) (omega arith)

-- all columns, those of the first of two rows, and those of the second
pub all_columns : (row : Row) → key_of (range_with_len 0 (length row)) row ≡ row
all_columns row = columns_from row 0 row (λ i below. let first : 0 + i ≡ i = omega arith in ap (column row) first)

pub all_types : (columns : List Ty) → each (map (λ n. slice_get columns n) (range_with_len 0 (length columns))) ≡ Some columns
all_types columns = types_from columns 0 columns (λ i below. let first : 0 + i ≡ i = omega arith in ap (slice_get columns) first)

pub left_columns : (a b : Row) → key_of (range_with_len 0 (length a)) (a ++ b) ≡ a
left_columns a b =
    columns_from (a ++ b) 0 a (λ i below. let first : 0 + i ≡ i = omega arith in ap (column (a ++ b)) first ∙ column_left a b i below)

pub right_columns : (a b : Row) → key_of (range_with_len (length a) (length b)) (a ++ b) ≡ b
right_columns a b =
    columns_from (a ++ b) (length a) b
    (λ i below. let rest : length a + i - length a ≡ i = omega arith in column_right a b (length a + i) (omega arith) ∙ ap (column b) rest)

pub left_types : (a b : List Ty) → each (map (λ n. slice_get (a ++ b) n) (range_with_len 0 (length a))) ≡ Some a
left_types a b =
    types_from (a ++ b) 0 a (λ i below. let first : 0 + i ≡ i = omega arith in ap (slice_get (a ++ b)) first ∙ type_left a b i below)

pub right_types : (a b : List Ty) → each (map (λ n. slice_get (a ++ b) n) (range_with_len (length a) (length b))) ≡ Some b
right_types a b =
    types_from (a ++ b) (length a) b
    (λ i below. let rest : length a + i - length a ≡ i = omega arith in type_right a b (length a + i) (omega arith) ∙ ap (slice_get b) rest)
