-- One more row in the groups that a program holds.
use Rattle.std.proofs.Common.{◌≡◌, ◌∙◌, ℕ, List, [], ◌∷◌, ◌++◌, map, filter, Bool, true, false, not, cond, get_or, set, refl, sym, ap, subst}
use Rattle.std.specs.List.{position_or_len}
use Rattle.std.proofs.lemmas.List.{map-append}
use Rattle.castor_val.specs.declared.row.Row.{Row}
use Rattle.castor_val.specs.Values.{same_row}
use Rattle.castor_alg.specs.Distinct.{distinct}
use Rattle.castor_alg.specs.Groups.{group_keys, key_of}
use Rattle.castor_eval.specs.Grouping.{IsGrouped, opened}
use Rattle.castor_laws.proofs.DistinctLaws.{same_row-IsEqualityTest}
use Rattle.castor_eval.proofs.DistinctLaws.{distinct-push}
use Rattle.castor_eval.proofs.GroupLaws.{Once, members-more, once-distinct, opened_for, rows_of, rows_of-none}
use Rattle.castor_eval.proofs.ViewLaws.{holds}

keys_more : (ks : List ℕ) (rows : List Row) (row : Row) → cond (holds (key_of ks row) (group_keys ks rows)) (group_keys ks rows) (group_keys ks rows ++ key_of ks row ∷ []) ≡ group_keys ks (rows ++ row ∷ [])
keys_more [] rows row = refl
keys_more (k ∷ ks) rows row = sym (ap (distinct same_row) (map-append (key_of (k ∷ ks)) rows (row ∷ [])) ∙ distinct-push same_row same_row-IsEqualityTest (map (key_of (k ∷ ks)) rows) (key_of (k ∷ ks) row))

once_key : (ks : List ℕ) (rows : List Row) (row : Row) → Once {R = Row} same_row same_row-IsEqualityTest (key_of ks) (key_of ks row) (group_keys ks rows)
once_key [] rows row = refl
once_key (k ∷ ks) rows row = once-distinct same_row same_row-IsEqualityTest (key_of (k ∷ ks)) (map (key_of (k ∷ ks)) rows) (key_of (k ∷ ks) row)

none_key : (ks : List ℕ) (rows : List Row) (row : Row) → holds (key_of ks row) (group_keys ks rows) ≡ false → rows_of same_row same_row-IsEqualityTest (key_of ks) (key_of ks row) rows ≡ []
none_key [] rows row h = cc
none_key (k ∷ ks) rows row h = rows_of-none same_row same_row-IsEqualityTest (key_of (k ∷ ks)) (key_of (k ∷ ks) row) rows h

opened_same : (members : List (List Row)) (is_new : Bool) → opened members is_new ≡ opened_for members is_new
opened_same members true = refl
opened_same members false = refl

pub grouped-more : (ks : List ℕ) (keys keys' : List Row) (members members' opened' : List (List Row)) (rows : List Row) (row : Row) (at : ℕ) (is_new : Bool) → IsGrouped ks keys members rows
    → keys' ≡ cond (holds (key_of ks row) keys) keys (keys ++ key_of ks row ∷ []) → is_new ≡ not (holds (key_of ks row) keys) → at ≡ position_or_len (same_row (key_of ks row)) keys
    → opened' ≡ opened members is_new → members' ≡ set opened' at (get_or opened' at [] ++ row ∷ []) → IsGrouped ks keys' members' (rows ++ row ∷ [])
grouped-more ks keys keys' members members' opened' rows row at is_new g k new e o m =
    let once = subst (λ (js : List Row). Once {R = Row} same_row same_row-IsEqualityTest (key_of ks) (key_of ks row) js) (sym g.keys_are) (once_key ks rows row) in
    let none = subst (λ (js : List Row). holds (key_of ks row) js ≡ false → rows_of same_row same_row-IsEqualityTest (key_of ks) (key_of ks row) rows ≡ []) (sym g.keys_are) (none_key ks rows row) in
    let open_is = o ∙ opened_same members is_new in
    record {
      keys_are = k ∙ (λ i. cond (holds (key_of ks row) (g.keys_are i)) (g.keys_are i) (g.keys_are i ++ key_of ks row ∷ [])) ∙ keys_more ks rows row;
      members_are =
          m ∙ (λ i. set (open_is i) at (get_or (open_is i) at [] ++ row ∷ []))
          ∙ members-more same_row same_row-IsEqualityTest (key_of ks) keys members rows row at is_new g.members_are once none new e
          ∙ ap (λ js. map (λ key. filter (λ r. same_row (key_of ks r) key) (rows ++ row ∷ [])) js) (sym k);
    }

pub grouped-none : (k : ℕ) (ks : List ℕ) → IsGrouped (k ∷ ks) [] [] []
grouped-none k ks = record { keys_are = refl; members_are = refl }

pub grouped-one : IsGrouped [] ([] ∷ []) ([] ∷ []) []
grouped-one = record { keys_are = refl; members_are = refl }
