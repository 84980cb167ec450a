-- Equations of values, and of rows value by value.
use Rattle.std.proofs.Common.{◌≡◌, ◌∙◌, [], ◌∷◌, ◌++◌, length, Bool, true, false, ◌&&◌, refl, sym, ap, Ok, arith}
use Rattle.std.specs.Ordering.{is_eq, ordering_then}
use Rattle.std.specs.declared.cmp.Ordering.{Ordering}
use Rattle.std.specs.declared.cmp.Ordering.TheVariants.{Less, Equal, Greater}
use Rattle.castor_val.specs.declared.row.Row.{Row}
use Rattle.castor_val.specs.declared.value.Value.{Value}
use Rattle.castor_val.specs.declared.value.Value.TheVariants.{Int, Bool as Truth, Text}
use Rattle.castor_val.specs.Values.{row_cmp, same_row, same_value, value_cmp}
use Rattle.castor_val.proofs.OrderLaws.{equal_from_same_value, same_value-refl}
use Rattle.castor_alg.specs.Expression.{compared}
use Rattle.castor_laws.proofs.DistinctLaws.{IsEqualityTest, test_sym}

-- an equation is true of equal values alone, whatever their types are
pub equation : (a b : Value) → compared is_eq a b ≡ Ok (Truth (same_value a b))
equation (Int x) (Int y) = refl
equation (Int x) (Truth y) = refl
equation (Int x) (Text y) = refl
equation (Truth x) (Int y) = refl
equation (Truth x) (Truth y) = refl
equation (Truth x) (Text y) = refl
equation (Text x) (Int y) = refl
equation (Text x) (Truth y) = refl
equation (Text x) (Text y) = refl

same_value-IsEqualityTest : IsEqualityTest same_value
same_value-IsEqualityTest = record { itself = same_value-refl; only = equal_from_same_value }

pub same_value-sym : (a b : Value) → same_value a b ≡ same_value b a
same_value-sym a b = test_sym same_value same_value-IsEqualityTest a b

first_equal : (order rest : Ordering) → is_eq (ordering_then order rest) ≡ (is_eq order && is_eq rest)
first_equal Less rest = refl
first_equal Equal rest = refl
first_equal Greater rest = refl

pub and_assoc : (a b c : Bool) → ((a && b) && c) ≡ (a && (b && c))
and_assoc true b c = refl
and_assoc false b c = refl

-- rows are equal where their first values and the rest are
pub same_row-cons : (v w : Value) (a b : Row) → same_row (v ∷ a) (w ∷ b) ≡ (same_value v w && same_row a b)
same_row-cons v w a b = first_equal (value_cmp v w) (row_cmp a b)

pub and_true : (b : Bool) → (b && true) ≡ b
and_true true = refl
and_true false = refl

pub same_row-one : (v w : Value) → same_row (v ∷ []) (w ∷ []) ≡ same_value v w
same_row-one v w = same_row-cons v w [] [] ∙ and_true (same_value v w)

pub same_row-append : (a b c d : Row) → length a ≡ length b → same_row (a ++ c) (b ++ d) ≡ (same_row a b && same_row c d)
same_row-append [] [] c d long = refl
same_row-append [] (w ∷ b) c d long = absurd (omega arith)
same_row-append (v ∷ a) [] c d long = absurd (omega arith)
same_row-append (v ∷ a) (w ∷ b) c d long =
    same_row-cons v w (a ++ c) (b ++ d)
    ∙ ap (λ t. same_value v w && t) (same_row-append a b c d (omega arith))
    ∙ sym (and_assoc (same_value v w) (same_row a b) (same_row c d))
    ∙ sym (ap (λ t. t && same_row c d) (same_row-cons v w a b))
