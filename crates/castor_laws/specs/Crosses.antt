-- Combinations of two operands.
use Rattle.std.specs.Prelude.{◌≡◌, [], ◌∷◌, ◌++◌, All, Ok}
use Rattle.castor_val.specs.declared.row.Row.{Row}
use Rattle.castor_val.specs.Values.{no_faults}
use Rattle.castor_alg.specs.declared.out.Out.{Out}
use Rattle.castor_alg.specs.Expression.{Answer}
use Rattle.castor_alg.specs.Rows.{crossed, depjoined, filtered, selected}
use Rattle.castor_laws.specs.Faultless.{HasValue}
use Rattle.castor_alg.specs.Permutation.{SameUpToOrder}

-- combinations are a dependent join, where the second operand has no faults
abbrev pub CrossIsDependent : Type 0
CrossIsDependent = (r s : Out) → s.faults ≡ no_faults → crossed (r ∷ s ∷ []) ≡ depjoined (λ a. selected (λ b. Ok (a ++ b)) s) r

-- two operands change places, up to order, where a projection puts their values back
abbrev pub CrossExchanges : Type 0
CrossExchanges = (r s : Out) (back : Row → Row) → All (λ b. All (λ a. back (b ++ a) ≡ a ++ b) r.rows) s.rows → SameUpToOrder (crossed (r ∷ s ∷ [])) (selected (λ row. Ok (back row)) (crossed (s ∷ r ∷ [])))

-- a filter that says of each pair of rows what a test that never faults says of the first may go to that operand
abbrev pub FilterOnLeft : Type 0
FilterOnLeft = (r s : Out) (over under : Row → Answer) → ((row : Row) → HasValue (under row)) → All (λ a. All (λ b. over (a ++ b) ≡ under a) s.rows) r.rows → filtered over (crossed (r ∷ s ∷ [])) ≡ crossed (filtered under r ∷ s ∷ [])

-- likewise for the second
abbrev pub FilterOnRight : Type 0
FilterOnRight = (r s : Out) (over under : Row → Answer) → ((row : Row) → HasValue (under row)) → All (λ a. All (λ b. over (a ++ b) ≡ under b) s.rows) r.rows → filtered over (crossed (r ∷ s ∷ [])) ≡ crossed (r ∷ filtered under s ∷ [])
