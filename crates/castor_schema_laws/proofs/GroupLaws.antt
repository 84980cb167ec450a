-- The keys and aggregates of a grouping have the types that they put out, and sorting keys are on columns that are there.
use Rattle.std.proofs.Common.{◌≡◌, ◌∙◌, ℕ, zero, suc, ◌+◌, ◌<◌, arith, refl, sym, ap, subst, List, [], ◌∷◌, ◌++◌, map, length, Bool, true, false, ◌&&◌, Option, Some, None, Result, Ok, Err, slice_get, nat_lt}
use Rattle.std.specs.List.{list_all}
use Rattle.std.specs.Prelude.{ok_or, position, count_by, if◌then◌else◌}
use Rattle.std.specs.Option.{option_map_or, option_map}
use Rattle.std.proofs.lemmas.List.{append-nil, append_assoc, length-append, length-map, map_push}
use Rattle.std.proofs.lemmas.Bool.{lt-ltb, ltb-true}
use Rattle.std.proofs.lemmas.List.Folds.{list_all-append}
use Rattle.std.proofs.lemmas.List.Quantifiers.{position-Some}
use Rattle.std.proofs.lemmas.Option.{slice_get-map, slice_get_within}
use Rattle.castor_val.specs.declared.value.Ty.{Ty}
use Rattle.castor_val.specs.declared.value.Ty.TheVariants as ty
use Rattle.castor_alg.specs.declared.rel.Agg.{Agg}
use Rattle.castor_alg.specs.declared.rel.Agg.TheVariants.{Count, Sum, Min, Max}
use Rattle.castor_alg.specs.declared.rel.Key.{Key}
use Rattle.castor_alg.specs.Typing.{aggregate_type, allowed, each, is_of, same_type, with_both}
use Rattle.castor_tree.specs.declared.tree.PAgg.{PAgg}
use Rattle.castor_tree.specs.declared.tree.PAgg.TheVariants as named
use Rattle.castor_tree.specs.declared.tree.PCol.{PCol}
use Rattle.castor_tree.specs.declared.tree.PCol.TheVariants.{Name, Dotted, Number}
use Rattle.castor_tree.specs.declared.tree.Word.{Word}
use Rattle.castor_names.proofs.Outcomes.{Through, left_true, ok_same, right_true, some_from_ok, through, unless, where_true}
use Rattle.castor_names.specs.Names.{by_name, by_number, by_qualifier, called_or_numbered, column_number, has_both, has_name, none_of_both, the_column, the_one, types_of}
use Rattle.castor_names.specs.Turns.{and_then, in_order}
use Rattle.castor_names.specs.declared.column.NamedColumn.{NamedColumn}
use Rattle.castor_names.specs.declared.error.SchemaError.{SchemaError}
use Rattle.castor_names.specs.declared.error.SchemaError.TheVariants.{Ambiguous, UnknownColumn}
use Rattle.castor_exprs.specs.Groups.{aggregate_found, grouping_found, sorting_keys, sums_ints, with_aggregate, with_group_key, with_sorting_key}
use Rattle.castor_exprs.specs.declared.groups.Aggregate.{Aggregate}
use Rattle.castor_exprs.specs.declared.groups.Grouping.{Grouping}
use Rattle.castor_schema_laws.proofs.Gathered.{each-more}

abbrev ty_of : NamedColumn → Ty
ty_of c = c.ty

-- a place that a search finds is one of the list
place_within : {X : Type 0} (p : X → Bool) (xs : List X) (i : ℕ) → position p xs ≡ Some i → i < length xs
place_within p [] i is = absurd cc
place_within p (x ∷ xs) i is = (position-Some p (x ∷ xs) i x is).0

the_one_within : (is_meant : NamedColumn → Bool) (none : SchemaError) (columns : List NamedColumn) (n : ℕ) → the_one is_meant none columns ≡ Ok n → n < length columns
the_one_within is_meant none columns n is =
    let f = unless (nat_lt 1 (count_by is_meant columns)) Ambiguous (ok_or (position is_meant columns) none) n is in
    place_within is_meant columns n (some_from_ok (position is_meant columns) none n f.rest)

-- the column that a name means is there
pub number_within : (columns : List NamedColumn) (c : PCol) (n : ℕ) → column_number columns c ≡ Ok n → n < length columns
unfolding by_name by_qualifier by_number
number_within columns (Name word) n is = the_one_within (has_name word.text) UnknownColumn columns n is
number_within columns (Dotted first second) n is = the_one_within (has_both first.text second.text) (none_of_both columns first.text) columns n is
number_within columns (Number number) n is =
    let f = where_true (nat_lt number (length columns)) UnknownColumn (Ok number) n is in
    subst (λ (k : ℕ). k < length columns) (ok_same _ _ f.rest) (ltb-true number (length columns) f.holds)

-- and it has the type of its place
the_column-ty : (columns : List NamedColumn) (n : ℕ) (c : NamedColumn) → the_column columns n ≡ Ok c → slice_get (types_of columns) n ≡ Some c.ty
the_column-ty columns n c is = slice_get-map ty_of columns n ∙ ap (option_map ty_of) (some_from_ok (slice_get columns n) UnknownColumn c is)

module _ (from : List NamedColumn) where
  -- the keys of a grouping, while there are no aggregates
  pub record AreKeys (g : Grouping) : Type 0 where
    pub typed : each (map (λ k. slice_get (types_of from) k) g.keys) ≡ Some (types_of g.columns)
    pub aggs : g.aggs ≡ []

  with_key-typed : (start more : Grouping) (key : PCol) → AreKeys start → with_group_key from start key ≡ Ok more → AreKeys more
  unfolding with_group_key
  with_key-typed start more key are is =
      let f = through (column_number from key) (λ number. and_then (the_column from number) (λ column. Ok (record start { keys = start.keys ++ number ∷ []; columns = start.columns ++ column ∷ [] }))) more is in
      let g = through (the_column from f.first) (λ column. Ok (record start { keys = start.keys ++ f.first ∷ []; columns = start.columns ++ column ∷ [] })) more f.rest in
      let e : record start { keys = start.keys ++ f.first ∷ []; columns = start.columns ++ g.first ∷ [] } ≡ more = ok_same _ _ g.rest in
      subst AreKeys e (record {
        typed = each-more (λ k. slice_get (types_of from) k) start.keys f.first (types_of start.columns) g.first.ty are.typed (the_column-ty from f.first g.first g.is)
            ∙ ap Some (sym (map_push ty_of start.columns g.first));
        aggs = are.aggs;
      })

  with_keys-typed : (keys : List PCol) (start all : Grouping) → AreKeys start → in_order (with_group_key from) start keys ≡ Ok all → AreKeys all
  with_keys-typed [] start all are is = subst AreKeys (ok_same _ _ is) are
  with_keys-typed (key ∷ keys) start all are is =
      let f = through (with_group_key from start key) (λ more. in_order (with_group_key from) more keys) all is in
      with_keys-typed keys f.first all (with_key-typed start f.first key are f.is) f.rest

  -- an aggregate has its type, where it sums no other columns than ints
  aggregate-typed : (agg : PAgg) (one : Aggregate) → aggregate_found from agg ≡ Ok one → sums_ints from one.agg ≡ true → aggregate_type (types_of from) one.agg ≡ Some one.ty
  unfolding aggregate_found sums_ints
  aggregate-typed named.Count one is sums = subst (λ (a : Aggregate). aggregate_type (types_of from) a.agg ≡ Some a.ty) (ok_same _ _ is) refl
  aggregate-typed (named.Sum col) one is sums =
      let f = through (column_number from col) (λ number. Ok (record { agg = Sum number; ty = ty.Int })) one is in
      let e : record { agg = Sum f.first; ty = ty.Int } ≡ one = ok_same _ _ f.rest in
      subst (λ (a : Aggregate). sums_ints from a.agg ≡ true → aggregate_type (types_of from) a.agg ≡ Some a.ty) e
      (λ s. ap (λ (o : Option Ty). allowed (is_of ty.Int o) ty.Int) (slice_get-map ty_of from f.first) ∙ ap (λ (b : Bool). allowed b ty.Int) (of_column (slice_get from f.first) ∙ s))
      sums
    where
      of_column : (o : Option NamedColumn) → is_of ty.Int (option_map ty_of o) ≡ option_map_or (λ (c : NamedColumn). same_type ty.Int c.ty) o false
      of_column None = refl
      of_column (Some c) = refl
  aggregate-typed (named.Min col) one is sums =
      let f = through (column_number from col) (λ number. and_then (the_column from number) (λ (c : NamedColumn). Ok (record { agg = Min number; ty = c.ty }))) one is in
      let g = through (the_column from f.first) (λ (c : NamedColumn). Ok (record { agg = Min f.first; ty = c.ty })) one f.rest in
      let e : record { agg = Min f.first; ty = g.first.ty } ≡ one = ok_same _ _ g.rest in
      subst (λ (a : Aggregate). aggregate_type (types_of from) a.agg ≡ Some a.ty) e (the_column-ty from f.first g.first g.is)
  aggregate-typed (named.Max col) one is sums =
      let f = through (column_number from col) (λ number. and_then (the_column from number) (λ (c : NamedColumn). Ok (record { agg = Max number; ty = c.ty }))) one is in
      let g = through (the_column from f.first) (λ (c : NamedColumn). Ok (record { agg = Max f.first; ty = c.ty })) one f.rest in
      let e : record { agg = Max f.first; ty = g.first.ty } ≡ one = ok_same _ _ g.rest in
      subst (λ (a : Aggregate). aggregate_type (types_of from) a.agg ≡ Some a.ty) e (the_column-ty from f.first g.first g.is)

  -- the keys of a grouping, then its aggregates so far
  pub record AreGrouped (keys : List Ty) (g : Grouping) : Type 0 where
    pub values : List Ty
    pub columns : types_of g.columns ≡ keys ++ values
    pub keys_typed : each (map (λ k. slice_get (types_of from) k) g.keys) ≡ Some keys
    pub values_typed : list_all (sums_ints from) g.aggs ≡ true → each (map (aggregate_type (types_of from)) g.aggs) ≡ Some values

  called-ty : (name : Option Word) (number : ℕ) (type : Ty) → (called_or_numbered name number type).ty ≡ type
  called-ty None number type = refl
  called-ty (Some word) number type = refl

  with_aggregate-typed : (keys : List Ty) (start more : Grouping) (agg : PAgg × Option Word) → AreGrouped keys start → with_aggregate from start agg ≡ Ok more → AreGrouped keys more
  unfolding with_aggregate
  with_aggregate-typed keys start more (agg, name) are is =
      let f = through (aggregate_found from agg) (λ (one : Aggregate). Ok (record start { aggs = start.aggs ++ one.agg ∷ []; columns = start.columns ++ called_or_numbered name (length start.columns) one.ty ∷ [] })) more is in
      let e : record start { aggs = start.aggs ++ f.first.agg ∷ []; columns = start.columns ++ called_or_numbered name (length start.columns) f.first.ty ∷ [] } ≡ more = ok_same _ _ f.rest in
      subst (AreGrouped keys) e (record {
        values = are.values ++ f.first.ty ∷ [];
        columns = map_push ty_of start.columns (called_or_numbered name (length start.columns) f.first.ty)
            ∙ (λ i. are.columns i ++ called-ty name (length start.columns) f.first.ty i ∷ [])
            ∙ append_assoc keys are.values (f.first.ty ∷ []);
        keys_typed = are.keys_typed;
        values_typed = λ sums.
            let both = sym (list_all-append (sums_ints from) start.aggs (f.first.agg ∷ [])) ∙ sums in
            each-more (aggregate_type (types_of from)) start.aggs f.first.agg are.values f.first.ty
            (are.values_typed (left_true (list_all (sums_ints from) start.aggs) (list_all (sums_ints from) (f.first.agg ∷ [])) both))
            (aggregate-typed agg f.first f.is (left_true (sums_ints from f.first.agg) true (right_true (list_all (sums_ints from) start.aggs) (list_all (sums_ints from) (f.first.agg ∷ [])) both)));
      })

  with_aggregates-typed : (keys : List Ty) (aggs : List (PAgg × Option Word)) (start all : Grouping) → AreGrouped keys start → in_order (with_aggregate from) start aggs ≡ Ok all → AreGrouped keys all
  with_aggregates-typed keys [] start all are is = subst (AreGrouped keys) (ok_same _ _ is) are
  with_aggregates-typed keys (agg ∷ aggs) start all are is =
      let f = through (with_aggregate from start agg) (λ more. in_order (with_aggregate from) more aggs) all is in
      with_aggregates-typed keys aggs f.first all (with_aggregate-typed keys start f.first agg are f.is) f.rest

  -- a grouping that isn't refused: its keys and aggregates have the types of its columns, and it has a column for each
  pub record IsGrouping (g : Grouping) : Type 0 where
    pub typed : list_all (sums_ints from) g.aggs ≡ true
        → with_both (λ keys values. keys ++ values) (each (map (λ k. slice_get (types_of from) k) g.keys)) (each (map (aggregate_type (types_of from)) g.aggs)) ≡ Some (types_of g.columns)

  pub grouping-typed : (keys : List PCol) (aggs : List (PAgg × Option Word)) (all : Grouping) → grouping_found from keys aggs ≡ Ok all → IsGrouping all
  unfolding grouping_found
  grouping-typed keys aggs all is =
      let f = through (in_order (with_group_key from) (record { keys = []; aggs = []; columns = [] }) keys) (λ found. in_order (with_aggregate from) found aggs) all is in
      let k = with_keys-typed keys (record { keys = []; aggs = []; columns = [] }) f.first (record { typed = refl; aggs = refl }) f.is in
      let start : AreGrouped (types_of f.first.columns) f.first = record {
        values = [];
        columns = sym (append-nil (types_of f.first.columns));
        keys_typed = k.typed;
        values_typed = λ sums. ap (λ (gs : List Agg). each (map (aggregate_type (types_of from)) gs)) k.aggs;
      } in
      let g = with_aggregates-typed (types_of f.first.columns) aggs f.first all start f.rest in
      record { typed = λ sums. (λ i. with_both (λ keys values. keys ++ values) (g.keys_typed i) (g.values_typed sums i)) ∙ ap Some (sym g.columns) }

  -- sorting keys
  abbrev is_there : Key → Bool
  is_there k = nat_lt k.col (length (types_of from))

  with_sorting-typed : (keys : List (PCol × Bool)) (start all : List Key) → list_all is_there start ≡ true → in_order (with_sorting_key from) start keys ≡ Ok all
      → (list_all is_there all ≡ true) × (length all ≡ length start + length keys)
  with_sorting-typed [] start all are is =
      let e = ok_same _ _ is in
      (subst (λ (ks : List Key). list_all is_there ks ≡ true) e are, ap (λ (ks : List Key). length ks) (sym e) ∙ sym (omega arith))
  with_sorting-typed ((col, desc) ∷ keys) start all are is =
      let f = through (with_sorting_key from start (col, desc)) (λ more. in_order (with_sorting_key from) more keys) all is in
      let g = through (column_number from col) (λ number. Ok (start ++ record { col = number; desc = desc } ∷ [])) f.first f.is in
      let e : start ++ record { col = g.first; desc = desc } ∷ [] ≡ f.first = ok_same _ _ g.rest in
      let there : nat_lt g.first (length (types_of from)) ≡ true = lt-ltb g.first (length (types_of from)) (subst (λ (n : ℕ). g.first < n) (sym (length-map from ty_of)) (number_within from col g.first g.is)) in
      let key : Key = record { col = g.first; desc = desc } in
      let more = list_all-append is_there start (key ∷ []) ∙ (λ i. are i && (there i && true)) in
      let rest = with_sorting-typed keys f.first all (subst (λ (ks : List Key). list_all is_there ks ≡ true) e more) f.rest in
      let a = rest.1 in
      let b = ap (λ (ks : List Key). length ks) (sym e) ∙ length-append start (key ∷ []) in
      (rest.0, omega arith)

  pub sorting-typed : (keys : List (PCol × Bool)) (all : List Key) → sorting_keys from keys ≡ Ok all → (list_all is_there all ≡ true) × (length all ≡ length keys)
  unfolding sorting_keys
  sorting-typed keys all is =
      let found = with_sorting-typed keys [] all refl is in
      (found.0, let a = found.1 in omega arith)
