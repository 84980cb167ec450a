-- Filters and projections move into operands and bodies.
use Rattle.std.proofs.Common.{◌≡◌, ◌∙◌, List, [], ◌∷◌, ◌++◌, map, filter, refl, sym, ap, Bool, true, false, ◌&&◌, ◌||◌, Result, Ok, Err}
use Rattle.std.specs.List.{list_any, flat_map}
use Rattle.std.proofs.lemmas.List.Elements.{filter-append}
use Rattle.std.proofs.lemmas.List.Folds.{flat_map-map}
use Rattle.castor_val.specs.declared.fault.Faults.{Faults}
use Rattle.castor_val.specs.declared.row.Row.{Row}
use Rattle.castor_val.specs.declared.value.Value.{Value}
use Rattle.castor_val.specs.Values.{column, same_row, union}
use Rattle.castor_val.proofs.FaultLaws.{union-no_faults, union_assoc}
use Rattle.castor_alg.specs.declared.out.Out.{Out}
use Rattle.castor_alg.specs.Distinct.{distinct}
use Rattle.castor_alg.specs.Expression.{Answer}
use Rattle.castor_alg.specs.Indexes.{found, hashed, ranged, refused}
use Rattle.castor_alg.specs.Rows.{concatenated, depjoined, faults_in, filtered, is_true, row_in, selected, union_over}
use Rattle.castor_alg.specs.Sorting.{row_lt, sorted}
use Rattle.castor_laws.specs.Rearrangements.{AfterProjection, MovesInto}
use Rattle.castor_laws.proofs.GroupFilterLaws.{map-filter}
use Rattle.castor_laws.proofs.LoopLaws.{faults_along, flat_map-append}
use Rattle.castor_laws.proofs.OutcomeLaws.{outcome_by, selected_values}

list_any-map : {X Y : Type 0} (p : Y → Bool) (f : X → Y) (xs : List X) → list_any p (map f xs) ≡ list_any (λ x. p (f x)) xs
list_any-map p f [] = refl
list_any-map p f (x ∷ xs) = ap (λ b. p (f x) || b) (list_any-map p f xs)

pub union_over-map : {X Y : Type 0} (g : Y → Faults) (f : X → Y) (xs : List X) → union_over g (map f xs) ≡ union_over (λ x. g (f x)) xs
union_over-map g f xs = λ i. record {
  division = list_any-map (λ y. (g y).division) f xs i;
  overflow = list_any-map (λ y. (g y).overflow) f xs i;
  norows = list_any-map (λ y. (g y).norows) f xs i;
}

-- an operator that goes over the rows, one by one
module _ (over : List Row → List Row) (over_none : over [] ≡ []) (over_both : (xs ys : List Row) → over (xs ++ ys) ≡ over xs ++ over ys) (g : Row → Faults) where
  abbrev operator : Out → Out
  operator r = record { rows = over r.rows; faults = union r.faults (union_over g r.rows) }

  over-flat_map : {X : Type 0} (f : X → List Row) (xs : List X) → over (flat_map f xs) ≡ flat_map (λ x. over (f x)) xs
  over-flat_map f [] = over_none
  over-flat_map f (x ∷ xs) = over_both (f x) (flat_map f xs) ∙ ap (λ rows. over (f x) ++ rows) (over-flat_map f xs)

  into_concat : (rs : List Out) → operator (concatenated rs) ≡ concatenated (map operator rs)
  into_concat rs =
      outcome_by (operator (concatenated rs)) (concatenated (map operator rs))
      (over-flat_map (λ (r : Out). r.rows) rs ∙ sym (flat_map-map (λ (r : Out). r.rows) operator rs))
      (faults_along (λ (r : Out). r) g rs ∙ sym (union_over-map (λ (r : Out). r.faults) operator rs))

  module _ (body : Row → Out) (r : Out) where
    abbrev moved : Row → Out
    moved row = operator (body row)

    into_refused : (f : Faults) → operator (refused r f) ≡ refused r f
    into_refused f = outcome_by (operator (refused r f)) (refused r f) over_none (union-no_faults (union r.faults f))

    into_found : (key : Row) (t : Bool) → operator (found body r key t) ≡ found moved r key t
    into_found key true = outcome_by (operator (found body r key true)) (found moved r key true) refl (union_assoc r.faults (body key).faults (union_over g (body key).rows))
    into_found key false = outcome_by (operator (found body r key false)) (found moved r key false) over_none (union-no_faults r.faults)

    into_hash : (key : Result Row Faults) → operator (hashed body r key) ≡ hashed moved r key
    into_hash (Ok key) = into_found key (list_any (same_row key) r.rows)
    into_hash (Err f) = into_refused f

  into_depjoin : (body : Row → Out) (r : Out) → operator (depjoined body r) ≡ depjoined (λ row. operator (body row)) r
  into_depjoin body r =
      outcome_by (operator (depjoined body r)) (depjoined (λ row. operator (body row)) r) (over-flat_map (λ row. (body row).rows) r.rows)
      (union_assoc r.faults (union_over (λ row. (body row).faults) r.rows) (union_over g (flat_map (λ row. (body row).rows) r.rows)) ∙ ap (union r.faults) (faults_along body g r.rows))

  into_ordered : (body : Row → Out) (r : Out) (from to : Result (Value → Bool) Faults) → operator (ranged body r from to) ≡ ranged (λ row. operator (body row)) r from to
  into_ordered body r (Ok f) (Ok h) = into_depjoin body (record { rows = sorted row_lt (filter (λ a. f (column a 0) && h (column a 0)) (distinct same_row r.rows)); faults = r.faults })
  into_ordered body r (Ok f) (Err h) = into_refused body r h
  into_ordered body r (Err f) (Ok h) = into_refused body r f
  into_ordered body r (Err f) (Err h) = into_refused body r (union f h)

  pub moves_into : MovesInto operator
  moves_into = record { concat = into_concat; depjoin = into_depjoin; hash = into_hash; ordered = into_ordered }

pub filter_moves_into : (f : Row → Answer) → MovesInto (filtered f)
filter_moves_into f = moves_into (filter (λ row. is_true (f row))) refl (filter-append (λ row. is_true (f row))) (λ row. faults_in (f row))

pub select_moves_into : (f : Row → Result Row Faults) → MovesInto (selected f)
select_moves_into f = moves_into (flat_map (λ row. row_in (f row))) refl (flat_map-append (λ row. row_in (f row))) (λ row. faults_in (f row))

-- after a projection that never faults
module _ (g : Row → Row) (r : Out) where
  abbrev projected : Out
  projected = record { rows = map g r.rows; faults = r.faults }

  filter_after : (f : Row → Answer) → filtered f (selected (λ row. Ok (g row)) r) ≡ selected (λ row. Ok (g row)) (filtered (λ row. f (g row)) r)
  filter_after f =
      ap (filtered f) (selected_values g r)
      ∙ outcome_by (filtered f projected) (record { rows = map g (filter (λ row. is_true (f (g row))) r.rows); faults = union r.faults (union_over (λ row. faults_in (f (g row))) r.rows) })
      (sym (map-filter g (λ row. is_true (f row)) r.rows)) (ap (union r.faults) (union_over-map (λ row. faults_in (f row)) g r.rows))
      ∙ sym (selected_values g (filtered (λ row. f (g row)) r))

  select_after : (f : Row → Result Row Faults) → selected f (selected (λ row. Ok (g row)) r) ≡ selected (λ row. f (g row)) r
  select_after f =
      ap (selected f) (selected_values g r)
      ∙ outcome_by (selected f projected) (selected (λ row. f (g row)) r) (flat_map-map (λ row. row_in (f row)) g r.rows) (ap (union r.faults) (union_over-map (λ row. faults_in (f row)) g r.rows))

  depjoin_after : (body : Row → Out) → depjoined body (selected (λ row. Ok (g row)) r) ≡ depjoined (λ row. body (g row)) r
  depjoin_after body =
      ap (depjoined body) (selected_values g r)
      ∙ outcome_by (depjoined body projected) (depjoined (λ row. body (g row)) r) (flat_map-map (λ row. (body row).rows) g r.rows) (ap (union r.faults) (union_over-map (λ row. (body row).faults) g r.rows))

  pub after_projection : AfterProjection g r
  after_projection = record { filter = filter_after; select = select_after; depjoin = depjoin_after }
