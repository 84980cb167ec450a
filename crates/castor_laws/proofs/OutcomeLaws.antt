-- Equations of outcomes.
use Rattle.std.proofs.Common.{◌≡◌, ◌∙◌, List, [], ◌∷◌, ◌++◌, map, filter, refl, ap, Bool, true, false, ◌||◌, Ok}
use Rattle.std.specs.List.{list_any, flat_map}
use Rattle.castor_val.specs.declared.fault.Faults.{Faults}
use Rattle.castor_val.specs.declared.row.Row.{Row}
use Rattle.castor_val.specs.declared.value.Value.TheVariants.{Bool as Truth}
use Rattle.castor_val.specs.Values.{no_faults, union}
use Rattle.castor_val.proofs.FaultLaws.{union-no_faults}
use Rattle.castor_alg.specs.declared.out.Out.{Out}
use Rattle.castor_alg.specs.Expression.{Answer}
use Rattle.castor_alg.specs.Rows.{depjoined, filtered, selected, union_over}
use Rattle.castor_laws.proofs.EachLaws.{Each, none, one, each_all}
use Rattle.castor_laws.proofs.TotalRelLaws.{no_union_over}

-- outcomes with equal rows and equal faults are equal
pub outcome_by : (a b : Out) → a.rows ≡ b.rows → a.faults ≡ b.faults → a ≡ b
outcome_by a b rows faults = λ i. record { rows = rows i; faults = faults i }

-- where nothing faults
pub union_over-none : {X : Type 0} (xs : List X) → union_over (λ x. no_faults) xs ≡ no_faults
union_over-none xs = no_union_over (λ x. no_faults) (each_all _ (λ x. refl) xs)

pub no_more_faults : {X : Type 0} (f : Faults) (xs : List X) → union f (union_over (λ x. no_faults) xs) ≡ f
no_more_faults f xs = ap (union f) (union_over-none xs) ∙ union-no_faults f

alone : {X : Type 0} (f : X → Row) (xs : List X) → flat_map (λ x. f x ∷ []) xs ≡ map f xs
alone f [] = refl
alone f (x ∷ xs) = ap (λ rows. f x ∷ rows) (alone f xs)

-- a projection that never faults
pub selected_values : (f : Row → Row) (r : Out) → selected (λ row. Ok (f row)) r ≡ record { rows = map f r.rows; faults = r.faults }
selected_values f r = outcome_by _ _ (alone f r.rows) (no_more_faults r.faults r.rows)

-- a filter by a test that is given as what holds
pub tested : (holds : Row → Bool) (r : Out) → filtered (λ row. Ok (Truth (holds row))) r ≡ record { rows = filter holds r.rows; faults = r.faults }
tested holds r = outcome_by _ _ refl (no_more_faults r.faults r.rows)

-- bodies that are equal under each row of the source
module _ (body other : Row → Out) where
  same_rows : {rows : List Row} → Each (λ row. body row ≡ other row) rows → flat_map (λ row. (body row).rows) rows ≡ flat_map (λ row. (other row).rows) rows
  same_rows none = refl
  same_rows (one first rest) = λ i. (first i).rows ++ same_rows rest i

  same_faults : {rows : List Row} → Each (λ row. body row ≡ other row) rows → union_over (λ row. (body row).faults) rows ≡ union_over (λ row. (other row).faults) rows
  same_faults none = refl
  same_faults (one first rest) = λ i. union (first i).faults (same_faults rest i)

  pub depjoined_same : (r : Out) → Each (λ row. body row ≡ other row) r.rows → depjoined body r ≡ depjoined other r
  depjoined_same r same = outcome_by _ _ (same_rows same) (ap (union r.faults) (same_faults same))

or_more : {X : Type 0} (b : Bool) (g : X → Bool) (xs : List X) → (b || list_any (λ x. b || g x) xs) ≡ (b || list_any g xs)
or_more true g xs = refl
or_more false g xs = refl

-- faults that are counted already count once
pub union_over-more : {X : Type 0} (f : Faults) (g : X → Faults) (xs : List X) → union f (union_over (λ x. union f (g x)) xs) ≡ union f (union_over g xs)
union_over-more f g xs = λ i. record {
  division = or_more f.division (λ x. (g x).division) xs i;
  overflow = or_more f.overflow (λ x. (g x).overflow) xs i;
  norows = or_more f.norows (λ x. (g x).norows) xs i;
}
