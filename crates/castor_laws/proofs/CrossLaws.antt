-- Combinations of two operands.
use Rattle.std.proofs.Common.{◌≡◌, ◌∙◌, List, [], ◌∷◌, ◌++◌, map, filter, refl, sym, ap, subst, cond, Bool, true, false, Ok}
use Rattle.std.specs.Prelude.{All}
use Rattle.std.specs.List.{flat_map}
use Rattle.std.proofs.lemmas.List.{append-nil}
use Rattle.std.proofs.lemmas.List.Elements.{filter-append}
use Rattle.castor_val.specs.declared.row.Row.{Row}
use Rattle.castor_val.specs.Values.{no_faults, union}
use Rattle.castor_val.proofs.FaultLaws.{union-no_faults, union_comm}
use Rattle.castor_alg.specs.declared.out.Out.{Out}
use Rattle.castor_alg.specs.Expression.{Answer}
use Rattle.castor_alg.specs.Rows.{crossed, depjoined, faults_in, filtered, is_true, selected, union_over}
use Rattle.castor_laws.specs.Faultless.{HasValue}
use Rattle.castor_alg.specs.Permutation.{SameUpToOrder}
use Rattle.castor_laws.proofs.DecidingLaws.{filtered_values}
use Rattle.castor_laws.proofs.EachLaws.{Each, none, one, each_flat_map, each_from_All, each_map, each_weaker}
use Rattle.castor_laws.proofs.GroupFilterLaws.{filter-flat_map}
use Rattle.castor_laws.proofs.LoopLaws.{loops_exchange}
use Rattle.castor_laws.proofs.OutcomeLaws.{no_more_faults, outcome_by, selected_values}
use Rattle.castor_laws.proofs.TotalRelLaws.{no_union_over}

-- the rows of two tables, side by side
abbrev pub pairs : List Row → List Row → List Row
pairs rows others = flat_map (λ a. map (λ b. a ++ b) others) rows

last_alone : (others : List Row) → flat_map (λ b. map (λ c. b ++ c) ([] ∷ [])) others ≡ others
last_alone [] = refl
last_alone (b ∷ others) = λ i. append-nil b i ∷ last_alone others i

pub crossed_two : (r s : Out) → crossed (r ∷ s ∷ []) ≡ record { rows = pairs r.rows s.rows; faults = union r.faults s.faults }
crossed_two r s =
    outcome_by (crossed (r ∷ s ∷ [])) (record { rows = pairs r.rows s.rows; faults = union r.faults s.faults })
    (ap (λ others. pairs r.rows others) (last_alone s.rows)) (ap (union r.faults) (union-no_faults s.faults))

pub cross_is_dependent : (r s : Out) → s.faults ≡ no_faults → crossed (r ∷ s ∷ []) ≡ depjoined (λ a. selected (λ b. Ok (a ++ b)) s) r
cross_is_dependent r s faultless =
    crossed_two r s
    ∙ outcome_by (record { rows = pairs r.rows s.rows; faults = union r.faults s.faults }) (depjoined (λ a. record { rows = map (λ b. a ++ b) s.rows; faults = s.faults }) r) refl
    (ap (union r.faults) faultless ∙ union-no_faults r.faults
    ∙ sym ((λ i. union r.faults (union_over (λ (a : Row). faultless i) r.rows)) ∙ no_more_faults r.faults r.rows))
    ∙ (λ i. depjoined (λ a. sym (selected_values (λ b. a ++ b) s) i) r)

alone : {X : Type 0} (f : X → Row) (xs : List X) → map f xs ≡ flat_map (λ x. f x ∷ []) xs
alone f [] = refl
alone f (x ∷ xs) = ap (λ rows. f x ∷ rows) (alone f xs)

map-append : (f : Row → Row) (xs ys : List Row) → map f (xs ++ ys) ≡ map f xs ++ map f ys
map-append f [] ys = refl
map-append f (x ∷ xs) ys = ap (λ rows. f x ∷ rows) (map-append f xs ys)

put_back : (back : Row → Row) (b : Row) {rows : List Row} → Each (λ a. back (b ++ a) ≡ a ++ b) rows → map back (map (λ a. b ++ a) rows) ≡ flat_map (λ a. (a ++ b) ∷ []) rows
put_back back b none = refl
put_back back b (one first rest) = λ i. first i ∷ put_back back b rest i

all_put_back : (back : Row → Row) (rows : List Row) {others : List Row} → Each (λ b. Each (λ a. back (b ++ a) ≡ a ++ b) rows) others → map back (pairs others rows) ≡ flat_map (λ b. flat_map (λ a. (a ++ b) ∷ []) rows) others
all_put_back back rows none = refl
all_put_back back rows (one {x} {xs} first rest) = map-append back (map (λ a. x ++ a) rows) (pairs xs rows) ∙ (λ i. put_back back x first i ++ all_put_back back rows rest i)

each_pair : (P : Row → Row → Type 0) (rows others : List Row) → All (λ a. All (λ b. P a b) others) rows → Each (λ a. Each (λ b. P a b) others) rows
each_pair P rows others all = each_weaker (λ a. All (λ b. P a b) others) (λ a. Each (λ b. P a b) others) (λ a also. each_from_All (λ b. P a b) others also) (each_from_All (λ a. All (λ b. P a b) others) rows all)

pub cross_exchanges : (r s : Out) (back : Row → Row) → All (λ b. All (λ a. back (b ++ a) ≡ a ++ b) r.rows) s.rows → SameUpToOrder (crossed (r ∷ s ∷ [])) (selected (λ row. Ok (back row)) (crossed (s ∷ r ∷ [])))
cross_exchanges r s back puts_back =
    let left : crossed (r ∷ s ∷ []) ≡ record { rows = flat_map (λ a. flat_map (λ b. (a ++ b) ∷ []) s.rows) r.rows; faults = union r.faults s.faults } =
    crossed_two r s ∙ (λ i. record { rows = flat_map (λ a. alone (λ b. a ++ b) s.rows i) r.rows; faults = union r.faults s.faults }) in
    let right : selected (λ row. Ok (back row)) (crossed (s ∷ r ∷ [])) ≡ record { rows = flat_map (λ b. flat_map (λ a. (a ++ b) ∷ []) r.rows) s.rows; faults = union r.faults s.faults } =
    ap (selected (λ row. Ok (back row))) (crossed_two s r)
    ∙ selected_values back (record { rows = pairs s.rows r.rows; faults = union s.faults r.faults })
    ∙ (λ i. record { rows = all_put_back back r.rows (each_pair (λ b a. back (b ++ a) ≡ a ++ b) s.rows r.rows puts_back) i; faults = union_comm s.faults r.faults i }) in
    subst (λ out. SameUpToOrder out (selected (λ row. Ok (back row)) (crossed (s ∷ r ∷ [])))) (sym left)
    (subst (λ out. SameUpToOrder (record { rows = flat_map (λ a. flat_map (λ b. (a ++ b) ∷ []) s.rows) r.rows; faults = union r.faults s.faults }) out) (sym right)
    record { rows = loops_exchange (λ a b. (a ++ b) ∷ []) r.rows s.rows; faults = refl })

-- a filter of pairs that never faults
no_faults_on_pairs : (over : Row → Answer) (rows others : List Row) → Each (λ a. Each (λ b. faults_in (over (a ++ b)) ≡ no_faults) others) rows → union_over (λ row. faults_in (over row)) (pairs rows others) ≡ no_faults
no_faults_on_pairs over rows others none_on =
    let quiet = λ (row : Row). faults_in (over row) ≡ no_faults in
    no_union_over (λ row. faults_in (over row))
    (each_flat_map quiet (λ a. map (λ b. a ++ b) others) (each_weaker _ _ (λ a also. each_map quiet (λ b. a ++ b) also) none_on))

all_or_none : (over : Row → Answer) (a : Row) (t : Bool) {others : List Row} → Each (λ b. is_true (over (a ++ b)) ≡ t) others → filter (λ row. is_true (over row)) (map (λ b. a ++ b) others) ≡ cond t (map (λ b. a ++ b) others) []
all_or_none over a true none = refl
all_or_none over a false none = refl
all_or_none over a true (one {x} {xs} first rest) = λ i. cond (first i) ((a ++ x) ∷ all_or_none over a true rest i) (all_or_none over a true rest i)
all_or_none over a false (one {x} {xs} first rest) = λ i. cond (first i) ((a ++ x) ∷ all_or_none over a false rest i) (all_or_none over a false rest i)

map_cond : (f : Row → Row) (x : Row) (xs : List Row) (t : Bool) → cond t (f x ∷ map f xs) (map f xs) ≡ map f (cond t (x ∷ xs) xs)
map_cond f x xs true = refl
map_cond f x xs false = refl

those_that_hold : (over : Row → Answer) (a : Row) (holds : Row → Bool) {others : List Row} → Each (λ b. is_true (over (a ++ b)) ≡ holds b) others → filter (λ row. is_true (over row)) (map (λ b. a ++ b) others) ≡ map (λ b. a ++ b) (filter holds others)
those_that_hold over a holds none = refl
those_that_hold over a holds (one {x} {xs} first rest) =
    (λ i. cond (first i) ((a ++ x) ∷ those_that_hold over a holds rest i) (those_that_hold over a holds rest i)) ∙ map_cond (λ b. a ++ b) x (filter holds xs) (holds x)

all_that_hold : (over : Row → Answer) (holds : Row → Bool) (others : List Row) {rows : List Row} → Each (λ a. Each (λ b. is_true (over (a ++ b)) ≡ holds b) others) rows → filter (λ row. is_true (over row)) (pairs rows others) ≡ pairs rows (filter holds others)
all_that_hold over holds others none = refl
all_that_hold over holds others (one {x} {xs} first rest) =
    filter-append (λ row. is_true (over row)) (map (λ b. x ++ b) others) (pairs xs others) ∙ (λ i. those_that_hold over x holds first i ++ all_that_hold over holds others rest i)

module _ (r s : Out) (over under : Row → Answer) (values : (row : Row) → HasValue (under row)) where
  abbrev holds : Row → Bool
  holds row = is_true (under row)

  -- what the filter says of a pair is what the test says of this row
  abbrev Says : (Row → Row → Row) → Type 0
  Says which = Each (λ a. Each (λ b. over (a ++ b) ≡ under (which a b)) s.rows) r.rows

  filtered_pairs : (which : Row → Row → Row) → Says which → (rows : List Row) → filter (λ row. is_true (over row)) (pairs r.rows s.rows) ≡ rows → filtered over (crossed (r ∷ s ∷ [])) ≡ record { rows = rows; faults = union r.faults s.faults }
  filtered_pairs which says rows is =
      let quiet = no_faults_on_pairs over r.rows s.rows (each_weaker _ _ (λ a also. each_weaker _ _ (λ b same. ap faults_in (same ∙ (values (which a b)).1)) also) says) in
      ap (filtered over) (crossed_two r s)
      ∙ outcome_by (filtered over (record { rows = pairs r.rows s.rows; faults = union r.faults s.faults })) (record { rows = rows; faults = union r.faults s.faults }) is
      (ap (union (union r.faults s.faults)) quiet ∙ union-no_faults (union r.faults s.faults))

  pub filter_on_left : All (λ a. All (λ b. over (a ++ b) ≡ under a) s.rows) r.rows → filtered over (crossed (r ∷ s ∷ [])) ≡ crossed (filtered under r ∷ s ∷ [])
  filter_on_left all =
      let says = each_pair (λ a b. over (a ++ b) ≡ under a) r.rows s.rows all in
      filtered_pairs (λ a b. a) says (pairs (filter holds r.rows) s.rows)
      (filter-flat_map (λ row. is_true (over row)) holds (λ a. map (λ b. a ++ b) s.rows) (each_weaker _ _ (λ a also. all_or_none over a (holds a) (each_weaker _ _ (λ b same. ap is_true same) also)) says))
      ∙ sym (ap (λ (o : Out). crossed (o ∷ s ∷ [])) (filtered_values under values r) ∙ crossed_two (record { rows = filter holds r.rows; faults = r.faults }) s)

  pub filter_on_right : All (λ a. All (λ b. over (a ++ b) ≡ under b) s.rows) r.rows → filtered over (crossed (r ∷ s ∷ [])) ≡ crossed (r ∷ filtered under s ∷ [])
  filter_on_right all =
      let says = each_pair (λ a b. over (a ++ b) ≡ under b) r.rows s.rows all in
      filtered_pairs (λ a b. b) says (pairs r.rows (filter holds s.rows))
      (all_that_hold over holds s.rows (each_weaker _ _ (λ a also. each_weaker _ _ (λ b same. ap is_true same) also) says))
      ∙ sym (ap (λ (o : Out). crossed (r ∷ o ∷ [])) (filtered_values under values s) ∙ crossed_two r (record { rows = filter holds s.rows; faults = s.faults }))
