-- The laws of the order of values and rows.
use Rattle.std.proofs.Common.{◌≡◌, ℕ, ℤ, pos, List, [], ◌∷◌, Bool, true, false, refl, sym, ap, subst}
use Rattle.std.specs.declared.cmp.Ordering.{Ordering}
use Rattle.std.specs.declared.cmp.Ordering.TheVariants.{Less, Equal, Greater}
use Rattle.std.specs.Ordering.{is_eq, nat_cmp, int_cmp, bool_cmp, on, then_cmp, ordering_then}
use Rattle.std.specs.Cmp.{IsTotalOrder, bool_cmp_total}
use Rattle.std.specs.Cmp.Lexicographic.{slice_cmp}
use Rattle.std.proofs.lemmas.Cmp.{then_total, on_total, nat_cmp_total, int_cmp_total, lists_total, ranked, int_ranked, tied_itself}
use Rattle.castor_val.specs.declared.value.Value.{Value}
use Rattle.castor_val.specs.declared.value.Value.TheVariants as is
use Rattle.castor_val.specs.declared.row.Row.{Row}
use Rattle.castor_val.specs.Values.{class, value_cmp, row_cmp, same_value, same_row, IsValueOrder, IsRowOrder}

abbrev number : Value → ℤ
number (is.Int z) = z
number (is.Bool b) = pos 0
number (is.Text t) = pos 0

abbrev truth : Value → Bool
truth (is.Int z) = false
truth (is.Bool b) = b
truth (is.Text t) = false

abbrev bytes : Value → List ℕ
bytes (is.Int z) = []
bytes (is.Bool b) = []
bytes (is.Text t) = t

abbrev chain : Value → Value → Ordering
chain = then_cmp (on class nat_cmp) (then_cmp (on number int_cmp) (then_cmp (on truth bool_cmp) (on bytes (slice_cmp nat_cmp))))

then_equal : (o : Ordering) → ordering_then o Equal ≡ o
then_equal Less = refl
then_equal Equal = refl
then_equal Greater = refl

same : (a b : Value) → chain a b ≡ value_cmp a b
same (is.Int x) (is.Int y) = then_equal (int_cmp x y)
same (is.Bool x) (is.Bool y) = then_equal (bool_cmp x y)
same (is.Text x) (is.Text y) = refl
same (is.Int x) (is.Bool y) = refl
same (is.Int x) (is.Text y) = refl
same (is.Bool x) (is.Int y) = refl
same (is.Bool x) (is.Text y) = refl
same (is.Text x) (is.Int y) = refl
same (is.Text x) (is.Bool y) = refl

chain_total : IsTotalOrder chain
chain_total = then_total (on_total class nat_cmp_total) (then_total (on_total number int_cmp_total) (then_total (on_total truth bool_cmp_total) (on_total bytes (lists_total nat_cmp_total))))

cons_tied : (x y : ℕ) (xs ys : List ℕ) (o : Ordering) → o ≡ nat_cmp x y → ordering_then o (slice_cmp nat_cmp xs ys) ≡ Equal → (slice_cmp nat_cmp xs ys ≡ Equal → xs ≡ ys) → x ∷ xs ≡ y ∷ ys
cons_tied x y xs ys Less e h k = cc
cons_tied x y xs ys Equal e h k = let heads : x ≡ y = ranked x y Equal e in let tails = k h in cc
cons_tied x y xs ys Greater e h k = cc

bytes_tied : (xs ys : List ℕ) → slice_cmp nat_cmp xs ys ≡ Equal → xs ≡ ys
bytes_tied [] [] h = refl
bytes_tied [] (y ∷ ys) h = cc
bytes_tied (x ∷ xs) [] h = cc
bytes_tied (x ∷ xs) (y ∷ ys) h = cons_tied x y xs ys (nat_cmp x y) refl h (bytes_tied xs ys)

bools_tied : (x y : Bool) → bool_cmp x y ≡ Equal → x ≡ y
bools_tied true true h = refl
bools_tied true false h = cc
bools_tied false true h = cc
bools_tied false false h = refl

pub values_tied : (a b : Value) → value_cmp a b ≡ Equal → a ≡ b
values_tied (is.Int x) (is.Int y) h = ap is.Int (int_ranked x y Equal (sym h))
values_tied (is.Bool x) (is.Bool y) h = ap is.Bool (bools_tied x y h)
values_tied (is.Text x) (is.Text y) h = ap is.Text (bytes_tied x y h)
values_tied (is.Int x) (is.Bool y) h = cc
values_tied (is.Int x) (is.Text y) h = cc
values_tied (is.Bool x) (is.Int y) h = cc
values_tied (is.Bool x) (is.Text y) h = cc
values_tied (is.Text x) (is.Int y) h = cc
values_tied (is.Text x) (is.Bool y) h = cc

pub value_order : IsValueOrder
value_order = record { total = subst IsTotalOrder (λ i a b. same a b i) chain_total; tied = values_tied }

row_tied : (v w : Value) (a b : Row) (o : Ordering) → o ≡ value_cmp v w → ordering_then o (row_cmp a b) ≡ Equal → (row_cmp a b ≡ Equal → a ≡ b) → v ∷ a ≡ w ∷ b
row_tied v w a b Less e h rest = cc
row_tied v w a b Equal e h rest = let heads : v ≡ w = values_tied v w (sym e) in let tails = rest h in cc
row_tied v w a b Greater e h rest = cc

pub rows_tied : (a b : Row) → row_cmp a b ≡ Equal → a ≡ b
rows_tied [] [] h = refl
rows_tied [] (w ∷ b) h = cc
rows_tied (v ∷ a) [] h = cc
rows_tied (v ∷ a) (w ∷ b) h = row_tied v w a b (value_cmp v w) refl h (rows_tied a b)

pub row_order : IsRowOrder
row_order = record { total = lists_total value_order.total; tied = rows_tied }

equal_from_is_eq : (o : Ordering) → is_eq o ≡ true → o ≡ Equal
equal_from_is_eq Less e = cc
equal_from_is_eq Equal e = refl
equal_from_is_eq Greater e = cc

-- the tests say that values and rows are equal
pub same_value-refl : (v : Value) → same_value v v ≡ true
same_value-refl v = ap is_eq (tied_itself value_order.total v)

pub equal_from_same_value : (v w : Value) → same_value v w ≡ true → v ≡ w
equal_from_same_value v w e = values_tied v w (equal_from_is_eq (value_cmp v w) e)

pub same_row-refl : (a : Row) → same_row a a ≡ true
same_row-refl a = ap is_eq (tied_itself row_order.total a)

pub equal_from_same_row : (a b : Row) → same_row a b ≡ true → a ≡ b
equal_from_same_row a b e = rows_tied a b (equal_from_is_eq (row_cmp a b) e)
