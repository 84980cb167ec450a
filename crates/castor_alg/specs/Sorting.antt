-- Stable sorting by keys.
use Rattle.std.specs.Prelude.{List, [], ◌∷◌, Bool, if◌then◌else◌}
use Rattle.std.specs.Ordering.{is_lt, ordering_then}
use Rattle.std.specs.declared.cmp.Ordering.{Ordering}
use Rattle.std.specs.declared.cmp.Ordering.TheVariants.{Equal}
use Rattle.castor_val.specs.declared.row.Row.{Row}
use Rattle.castor_val.specs.Values.{column, row_cmp, value_cmp}
use Rattle.castor_alg.specs.declared.out.Out.{Out}
use Rattle.castor_alg.specs.declared.rel.Key.{Key}

-- put into a sorted list, in front of all that isn't less
abbrev pub inserted : {X : Type 0} → (X → X → Bool) → X → List X → List X
inserted lt a [] = a ∷ []
inserted lt a (b ∷ bs) = if lt b a then b ∷ inserted lt a bs else a ∷ b ∷ bs

-- sorted stably: of two elements neither of which is less, the first stays first
abbrev pub sorted : {X : Type 0} → (X → X → Bool) → List X → List X
sorted lt [] = []
sorted lt (a ∷ xs) = inserted lt a (sorted lt xs)

-- rows by one key
abbrev pub by_key : Key → Row → Row → Ordering
by_key k a b = if k.desc then value_cmp (column b k.col) (column a k.col) else value_cmp (column a k.col) (column b k.col)

-- rows key by key, the first difference deciding
abbrev pub by_keys : List Key → Row → Row → Ordering
by_keys [] a b = Equal
by_keys (k ∷ ks) a b = ordering_then (by_key k a b) (by_keys ks a b)

-- the rows, sorted stably by the keys
abbrev pub sorted_by : List Key → Out → Out
sorted_by ks r = record { rows = sorted (λ a b. is_lt (by_keys ks a b)) r.rows; faults = r.faults }

-- rows value by value, the first difference deciding
abbrev pub row_lt : Row → Row → Bool
row_lt a b = is_lt (row_cmp a b)
