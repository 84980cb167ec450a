-- Equivalence under replacement at a place.
use Rattle.std.proofs.Common.{◌≡◌, ◌∙◌, ℕ, zero, suc, List, [], ◌∷◌, map, Bool, true, false, refl, sym, ap, subst, Option, Some, None, slice_get, option_and_then, option_map, if◌then◌else◌}
use Rattle.std.specs.Prelude.{is_some}
use Rattle.std.specs.List.{AllZip, flat_map}
use Rattle.castor_val.specs.declared.value.Ty.{Ty}
use Rattle.castor_val.specs.declared.value.Ty.TheVariants.{Bool as Truth}
use Rattle.castor_alg.specs.declared.context.Context.{Context}
use Rattle.castor_alg.specs.declared.expr.Expr.{Expr}
use Rattle.castor_alg.specs.declared.rel.Rel.{Rel, out-Rel, roll-Rel, roll-out-Rel}
use Rattle.castor_alg.specs.declared.rel.Rel as R
use Rattle.castor_alg.specs.declared.rel.Rel.TheVariants.{rolls-Table, rolls-Scalar, rolls-Cross, rolls-Concat, rolls-Select, rolls-Filter, rolls-Join, rolls-DepJoin, rolls-Group, rolls-Order, rolls-Dedup, rolls-List, rolls-Hash, rolls-Ord}
use Rattle.castor_alg.specs.declared.rel.Rel.TheOpen.{Rel-F}
use Rattle.castor_alg.specs.declared.rel.Rel.TheOpen as F
use Rattle.castor_alg.specs.Typing.{Typed, allowed, are_hash_keys, are_sorting_keys, common_types, cross_types, each, extended, group_types, is_context, is_of, is_range, type_under, types_of_each, types_under, within_limits}
use Rattle.castor_alg.specs.Equivalence.{Equivalent}
use Rattle.castor_laws.specs.Congruence.{EquivalentUnder}
use Rattle.castor_alg.specs.Places.{at_path, binder_context, context_at, of_one, of_two, on_each, on_first, on_operand, on_second, operand, operand_context, replaced}
use Rattle.castor_laws.specs.Replacement.{ReplacementKeeps}
use Rattle.castor_laws.proofs.ColumnCountLaws.{extended-is_context, has_columns}
use Rattle.castor_laws.proofs.EquivalenceLaws.{equivalent_refl, cross_equivalent, concat_equivalent, select_equivalent, filter_equivalent, join_equivalent, depjoin_equivalent, group_equivalent, order_equivalent, dedup_equivalent, list_equivalent, hash_equivalent, ordered_equivalent}
use Rattle.castor_laws.proofs.PlaceTypingLaws.{typed_from, typed_parts}
use Rattle.castor_laws.proofs.TypeClauseLaws.{types_under-Cross, types_under-Concat, types_under-Select, types_under-Filter, types_under-Join, types_under-DepJoin, types_under-Group, types_under-Order, types_under-Dedup, types_under-List, types_under-Hash, types_under-Ord}
use Rattle.castor_laws.proofs.TypePartLaws.{and_then_parts, both_parts, if_parts, limited_parts, map_parts}

-- a context in which an operand stands, where there is one
abbrev Stands : Option Rel → Option Context → (Rel → Context → Type 0) → Type 0
Stands found at P = (x : Rel) (c : Context) → found ≡ Some x → at ≡ Some c → P x c

-- a change that gives an equivalent relation in the place of the operand of this number
module _ (change : Rel → Rel) where
  -- what is well typed is equivalent to what the change makes of it
  abbrev Kept : Rel → Context → Type 0
  Kept x c = Typed x c → Equivalent c x (change x)

  module _ (context : Context) where
    abbrev TypesOf : Rel → List Ty → Type 0
    TypesOf r types = types_under r context ≡ Some types

    typed_operand : (r : Rel) (types : List Ty) → is_context context ≡ true → TypesOf r types → Typed r context
    typed_operand r types within is = typed_from (is_context context) (types_under r context) types within is

    first_of_one : (i : ℕ) (r : Rel) → Typed r context → Stands (of_one i r) (Some context) Kept → Equivalent context r (on_first i change r)
    first_of_one zero r typed keeps = keeps r context refl refl typed
    first_of_one (suc i) r typed keeps = equivalent_refl context r typed

    first_of_two : (i : ℕ) (r s : Rel) → Typed r context → Stands (of_two i r s) (Some context) Kept → Equivalent context r (on_first i change r)
    first_of_two zero r s typed keeps = keeps r context refl refl typed
    first_of_two (suc i) r s typed keeps = equivalent_refl context r typed

    second_of_two : (i : ℕ) (r s : Rel) → Typed s context → Stands (of_two i r s) (Some context) Kept → Equivalent context s (on_second i change s)
    second_of_two zero r s typed keeps = equivalent_refl context s typed
    second_of_two (suc zero) r s typed keeps = keeps s context refl refl typed
    second_of_two (suc (suc i)) r s typed keeps = equivalent_refl context s typed

    source_of_binder : (i k : ℕ) (r s : Rel) → Typed r context → Stands (of_two i r s) (binder_context i context k r) Kept → Equivalent context r (on_first i change r)
    source_of_binder zero k r s typed keeps = keeps r context refl refl typed
    source_of_binder (suc i) k r s typed keeps = equivalent_refl context r typed

    body_of_binder : (i k : ℕ) (r s : Rel) (types : List Ty) → TypesOf r types → Typed s (extended context k types) → Stands (of_two i r s) (binder_context i context k r) Kept → Equivalent (extended context k types) s (on_second i change s)
    body_of_binder zero k r s types is typed keeps = equivalent_refl (extended context k types) s typed
    body_of_binder (suc zero) k r s types is typed keeps = keeps s (extended context k types) refl (ap (option_map (extended context k)) is) typed
    body_of_binder (suc (suc i)) k r s types is typed keeps = equivalent_refl (extended context k types) s typed

    all_refl : (rs : List Rel) (all : List (List Ty)) → is_context context ≡ true → each (map (λ (r : Rel). types_under r context) rs) ≡ Some all → AllZip (Equivalent context) rs rs
    all_refl [] all within typed = tt
    all_refl (r ∷ rs) all within typed =
        let parts = both_parts (λ t ts. t ∷ ts) (types_under r context) (each (map (λ (r : Rel). types_under r context) rs)) all typed in
        (equivalent_refl context r (typed_operand r parts.0 within parts.2), all_refl rs parts.1 within parts.3)

    one_of_all : (i : ℕ) (rs : List Rel) (all : List (List Ty)) → is_context context ≡ true → each (map (λ (r : Rel). types_under r context) rs) ≡ Some all → Stands (slice_get rs i) (Some context) Kept → AllZip (Equivalent context) rs (on_each i change rs)
    one_of_all i [] all within typed keeps = tt
    one_of_all zero (r ∷ rs) all within typed keeps =
        let parts = both_parts (λ t ts. t ∷ ts) (types_under r context) (each (map (λ (r : Rel). types_under r context) rs)) all typed in
        (keeps r context refl refl (typed_operand r parts.0 within parts.2), all_refl rs parts.1 within parts.3)
    one_of_all (suc i) (r ∷ rs) all within typed keeps =
        let parts = both_parts (λ t ts. t ∷ ts) (types_under r context) (each (map (λ (r : Rel). types_under r context) rs)) all typed in
        (equivalent_refl context r (typed_operand r parts.0 within parts.2), one_of_all i rs parts.1 within parts.3 keeps)

  module _ (context : Context) (i : ℕ) where
    -- the operand of an operator over one
    one_operand : (r : Rel) (g : List Ty → Option (List Ty)) (x : Rel) → types_under x context ≡ option_and_then g (types_under r context) → Typed x context → Stands (of_one i r) (Some context) Kept → Equivalent context r (on_first i change r)
    one_operand r g x is typed keeps =
        let parts = typed_parts (is_context context) (types_under x context) typed in
        let source = and_then_parts g (types_under r context) parts.1.0 (sym is ∙ parts.1.1) in
        first_of_one context i r (typed_operand context r source.0 parts.0 source.1) keeps

    -- the source of a binder
    source_operand : (k : ℕ) (r s : Rel) (g : List Ty → Option (List Ty)) (x : Rel) → types_under x context ≡ option_and_then g (types_under r context) → Typed x context → Stands (of_two i r s) (binder_context i context k r) Kept → Equivalent context r (on_first i change r)
    source_operand k r s g x is typed keeps =
        let parts = typed_parts (is_context context) (types_under x context) typed in
        let source = and_then_parts g (types_under r context) parts.1.0 (sym is ∙ parts.1.1) in
        source_of_binder context i k r s (typed_operand context r source.0 parts.0 source.1) keeps

    -- its body, which has types wherever the binder has them
    body_operand : (k : ℕ) (r s : Rel) (g : List Ty → Option (List Ty)) → ((columns types : List Ty) → g columns ≡ Some types → types_under s (extended context k columns) ≡ Some types) → (x : Rel) → types_under x context ≡ option_and_then g (types_under r context) → Typed x context → Stands (of_two i r s) (binder_context i context k r) Kept → EquivalentUnder context k r s (on_second i change s)
    body_operand k r s g body x is typed keeps types source_is =
        let parts = typed_parts (is_context context) (types_under x context) typed in
        let source = if_parts (is_context context) (types_under r context) types source_is in
        let body_is = body types parts.1.0 (sym (is ∙ ap (option_and_then g) source.1) ∙ parts.1.1) in
        let within = extended-is_context context k types parts.0 (has_columns r context types parts.0 source.1) in
        body_of_binder context i k r s types source.1 (typed_operand (extended context k types) s parts.1.0 within body_is) keeps

    operands_typed : (x : Rel) (rs : List Rel) (g : List (List Ty) → Option (List Ty)) → types_under x context ≡ option_and_then g (each (map (λ (r : Rel). types_under r context) rs)) → Typed x context → Stands (slice_get rs i) (Some context) Kept → AllZip (Equivalent context) rs (on_each i change rs)
    operands_typed x rs g is typed keeps =
        let parts = typed_parts (is_context context) (types_under x context) typed in
        let all = and_then_parts g (each (map (λ (r : Rel). types_under r context) rs)) parts.1.0 (sym is ∙ parts.1.1) in
        one_of_all context i rs all.0 parts.0 all.1 keeps

    cross_operands : (rs : List Rel) → Typed (R.Cross rs) context → Stands (slice_get rs i) (Some context) Kept → AllZip (Equivalent context) rs (on_each i change rs)
    cross_operands rs typed keeps =
        let parts = typed_parts (is_context context) (types_under (R.Cross rs) context) typed in
        let all = map_parts (λ all. flat_map (λ types. types) all) (each (map (λ (r : Rel). types_under r context) rs)) parts.1.0 (limited_parts _ parts.1.0 (sym (types_under-Cross context rs) ∙ parts.1.1)) in
        one_of_all context i rs all.0 parts.0 all.1 keeps

    -- both operands of a join
    join_operands : (e : Expr) (r s : Rel) → Typed (R.Join e r s) context → Stands (of_two i r s) (Some context) Kept → Equivalent context r (on_first i change r) × Equivalent context s (on_second i change s)
    join_operands e r s typed keeps =
        let operands = types_under r context ∷ types_under s context ∷ [] in
        let parts = typed_parts (is_context context) (types_under (R.Join e r s) context) typed in
        let columns = and_then_parts (λ columns. allowed (is_of Truth (type_under e columns context)) columns) (cross_types operands) parts.1.0 (sym (types_under-Join context e r s) ∙ parts.1.1) in
        let both = map_parts (λ all. flat_map (λ types. types) all) (each operands) columns.0 (limited_parts _ columns.0 columns.1) in
        let first = both_parts (λ t ts. t ∷ ts) (types_under r context) (each (types_under s context ∷ [])) both.0 both.1 in
        let second = both_parts (λ t ts. t ∷ ts) (types_under s context) (each []) first.1 first.3 in (
          first_of_two context i r s (typed_operand context r first.0 parts.0 first.2) keeps,
          second_of_two context i r s (typed_operand context s second.0 parts.0 second.2) keeps,
        )

    opened : (x y : Rel) → x ≡ y → Typed x context → Typed y context
    opened x y is typed = subst (λ q. Typed q context) is typed

    layer_equivalent : (y : F.Rel-F Rel) → Typed (roll-Rel y) context → Stands (operand i y) (operand_context i context y) Kept → Equivalent context (roll-Rel y) (on_operand i change y)
    layer_equivalent (F.Table n) typed keeps = rw rolls-Table (equivalent_refl context (R.Table n) (opened _ _ (rolls-Table n) typed))
    layer_equivalent (F.Scalar e) typed keeps = rw rolls-Scalar (equivalent_refl context (R.Scalar e) (opened _ _ (rolls-Scalar e) typed))
    layer_equivalent (F.Cross rs) typed keeps =
        let whole = opened _ _ (rolls-Cross rs) typed in
        rw rolls-Cross (cross_equivalent context rs (on_each i change rs) (cross_operands rs whole keeps) whole)
    layer_equivalent (F.Concat rs) typed keeps =
        let whole = opened _ _ (rolls-Concat rs) typed in
        rw rolls-Concat (concat_equivalent context rs (on_each i change rs) (operands_typed (R.Concat rs) rs common_types (types_under-Concat context rs) whole keeps) whole)
    layer_equivalent (F.Select es r) typed keeps =
        let whole = opened _ _ (rolls-Select es r) typed in
        let same = one_operand r (λ columns. within_limits (types_of_each es columns context)) (R.Select es r) (types_under-Select context es r) whole keeps in
        rw rolls-Select (select_equivalent context es r (on_first i change r) same whole)
    layer_equivalent (F.Filter e r) typed keeps =
        let whole = opened _ _ (rolls-Filter e r) typed in
        let same = one_operand r (λ columns. allowed (is_of Truth (type_under e columns context)) columns) (R.Filter e r) (types_under-Filter context e r) whole keeps in
        rw rolls-Filter (filter_equivalent context e r (on_first i change r) same whole)
    layer_equivalent (F.Join e r s) typed keeps =
        let whole = opened _ _ (rolls-Join e r s) typed in
        let same = join_operands e r s whole keeps in
        rw rolls-Join (join_equivalent context e r (on_first i change r) s (on_second i change s) same.0 same.1 whole)
    layer_equivalent (F.DepJoin k r s) typed keeps =
        let whole = opened _ _ (rolls-DepJoin k r s) typed in
        let g = λ (columns : List Ty). types_under s (extended context k columns) in
        let same = source_operand k r s g (R.DepJoin k r s) (types_under-DepJoin context k r s) whole keeps in
        let under = body_operand k r s g (λ columns types is. is) (R.DepJoin k r s) (types_under-DepJoin context k r s) whole keeps in
        rw rolls-DepJoin (depjoin_equivalent context k r (on_first i change r) s (on_second i change s) same under whole)
    layer_equivalent (F.Group ks aggs r) typed keeps =
        let whole = opened _ _ (rolls-Group ks aggs r) typed in
        let same = one_operand r (λ columns. group_types ks aggs columns) (R.Group ks aggs r) (types_under-Group context ks aggs r) whole keeps in
        rw rolls-Group (group_equivalent context ks aggs r (on_first i change r) same whole)
    layer_equivalent (F.Order ks r) typed keeps =
        let whole = opened _ _ (rolls-Order ks r) typed in
        let same = one_operand r (λ columns. allowed (are_sorting_keys ks columns) columns) (R.Order ks r) (types_under-Order context ks r) whole keeps in
        rw rolls-Order (order_equivalent context ks r (on_first i change r) same whole)
    layer_equivalent (F.Dedup r) typed keeps =
        let whole = opened _ _ (rolls-Dedup r) typed in
        let parts = typed_parts (is_context context) (types_under (R.Dedup r) context) whole in
        let same = first_of_one context i r (typed_operand context r parts.1.0 parts.0 (sym (types_under-Dedup context r) ∙ parts.1.1)) keeps in
        rw rolls-Dedup (dedup_equivalent context r (on_first i change r) same whole)
    layer_equivalent (F.List k r s) typed keeps =
        let whole = opened _ _ (rolls-List k r s) typed in
        let g = λ (columns : List Ty). types_under s (extended context k columns) in
        let same = source_operand k r s g (R.List k r s) (types_under-List context k r s) whole keeps in
        let under = body_operand k r s g (λ columns types is. is) (R.List k r s) (types_under-List context k r s) whole keeps in
        rw rolls-List (list_equivalent context k r (on_first i change r) s (on_second i change s) same under whole)
    layer_equivalent (F.Hash k r s es) typed keeps =
        let whole = opened _ _ (rolls-Hash k r s es) typed in
        let g = λ (columns : List Ty). (if are_hash_keys columns (types_of_each es [] context) then types_under s (extended context k columns) else None) in
        let same = source_operand k r s g (R.Hash k r s es) (types_under-Hash context k r s es) whole keeps in
        let under = body_operand k r s g (λ columns types is. (if_parts (are_hash_keys columns (types_of_each es [] context)) (types_under s (extended context k columns)) types is).1) (R.Hash k r s es) (types_under-Hash context k r s es) whole keeps in
        rw rolls-Hash (hash_equivalent context k r (on_first i change r) s (on_second i change s) same under es whole)
    layer_equivalent (F.Ord k r s lo hi) typed keeps =
        let whole = opened _ _ (rolls-Ord k r s lo hi) typed in
        let g = λ (columns : List Ty). (if is_range columns lo hi context then types_under s (extended context k columns) else None) in
        let same = source_operand k r s g (R.Ord k r s lo hi) (types_under-Ord context k r s lo hi) whole keeps in
        let under = body_operand k r s g (λ columns types is. (if_parts (is_range columns lo hi context) (types_under s (extended context k columns)) types is).1) (R.Ord k r s lo hi) (types_under-Ord context k r s lo hi) whole keeps in
        rw rolls-Ord (ordered_equivalent context k r (on_first i change r) s (on_second i change s) same under lo hi whole)

    pub operand_equivalent : (q : Rel) → Typed q context → Stands (operand i (out-Rel q)) (operand_context i context (out-Rel q)) Kept → Equivalent context q (on_operand i change (out-Rel q))
    operand_equivalent q typed keeps =
        subst (λ r. Equivalent context r (on_operand i change (out-Rel q))) (roll-out-Rel q)
        (layer_equivalent (out-Rel q) (opened q (roll-Rel (out-Rel q)) (sym (roll-out-Rel q)) typed) keeps)

pub replaced_equivalent : (path : List ℕ) (new q : Rel) (context : Context) → ReplacementKeeps path new q context
replaced_equivalent [] new q context typed r inner found at same =
    let here : q ≡ r = cc in
    let within : context ≡ inner = cc in
    subst (λ x. Equivalent context x new) (sym here) (subst (λ c. Equivalent c r new) (sym within) same)
replaced_equivalent (i ∷ path) new q context typed r inner found at same =
    let below = λ (x : Rel). option_and_then (context_at path x) (operand_context i context (out-Rel q)) in
    let keeps = λ (x : Rel) (c : Context) (is : operand i (out-Rel q) ≡ Some x) (stands : operand_context i context (out-Rel q) ≡ Some c) (typed_there : Typed x c).
    replaced_equivalent path new x c typed_there r inner
    (sym (ap (option_and_then (at_path path)) is) ∙ found)
    (sym (ap (option_and_then (context_at path x)) stands) ∙ sym (ap (option_and_then below) is) ∙ at)
    same in
    operand_equivalent (replaced path new) context i q typed keeps
