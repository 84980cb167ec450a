-- What stands in a well-typed relation is well typed in its place.
use Rattle.std.proofs.Common.{◌≡◌, ◌∙◌, ℕ, zero, suc, List, [], ◌∷◌, map, Bool, true, false, refl, sym, ap, subst, Option, Some, None, slice_get, option_and_then, option_map, if◌then◌else◌}
use Rattle.std.specs.Prelude.{is_some}
use Rattle.std.specs.List.{flat_map}
use Rattle.castor_val.specs.declared.value.Ty.{Ty}
use Rattle.castor_val.specs.declared.value.Ty.TheVariants.{Bool as Truth}
use Rattle.castor_alg.specs.declared.context.Context.{Context}
use Rattle.castor_alg.specs.declared.expr.Expr.{Expr}
use Rattle.castor_alg.specs.declared.rel.Rel.{Rel, out-Rel, roll-Rel, roll-out-Rel}
use Rattle.castor_alg.specs.declared.rel.Rel as R
use Rattle.castor_alg.specs.declared.rel.Rel.TheVariants.{rolls-Cross, rolls-Concat, rolls-Select, rolls-Filter, rolls-Join, rolls-DepJoin, rolls-Group, rolls-Order, rolls-Dedup, rolls-List, rolls-Hash, rolls-Ord}
use Rattle.castor_alg.specs.declared.rel.Rel.TheOpen.{Rel-F}
use Rattle.castor_alg.specs.declared.rel.Rel.TheOpen as F
use Rattle.castor_alg.specs.Places.{at_path, binder_context, context_at, of_one, of_two, operand, operand_context}
use Rattle.castor_alg.specs.Typing.{Typed, allowed, are_hash_keys, are_sorting_keys, common_types, cross_types, each, extended, group_types, is_context, is_of, is_range, type_under, types_of_each, types_under, within_limits}
use Rattle.castor_laws.specs.Replacement.{TypedAt}
use Rattle.castor_laws.proofs.ColumnCountLaws.{extended-is_context, has_columns}
use Rattle.castor_laws.proofs.TypeClauseLaws.{types_under-Cross, types_under-Concat, types_under-Select, types_under-Filter, types_under-Join, types_under-DepJoin, types_under-Group, types_under-Order, types_under-Dedup, types_under-List, types_under-Hash, types_under-Ord}
use Rattle.castor_laws.proofs.TypePartLaws.{and_then_parts, both_parts, if_parts, limited_parts, map_parts}

-- what is well typed has types, under a context within limits
pub typed_parts : (b : Bool) (o : Option (List Ty)) → is_some (if b then o else None) ≡ true → (b ≡ true) × ((types : List Ty) × (o ≡ Some types))
typed_parts true None is = cc
typed_parts true (Some types) is = (refl, (types, refl))
typed_parts false o is = cc

pub typed_from : (b : Bool) (o : Option (List Ty)) (types : List Ty) → b ≡ true → o ≡ Some types → is_some (if b then o else None) ≡ true
typed_from true o types within is = ap is_some is
typed_from false o types within is = cc

-- there is a context here, under which the relation is well typed
abbrev StandsTyped : Option Context → Rel → Type 0
StandsTyped at x = (c : Context) × (at ≡ Some c) × Typed x c

stands : (c : Context) (x y : Rel) → Some x ≡ Some y → Typed x c → Typed y c
stands c x y same typed = let is : x ≡ y = cc in subst (λ z. Typed z c) is typed

module _ (context : Context) where
  typed_operand : (r : Rel) (types : List Ty) → is_context context ≡ true → types_under r context ≡ Some types → Typed r context
  typed_operand r types within is = typed_from (is_context context) (types_under r context) types within is

  one_stands : (i : ℕ) (r x : Rel) → Typed r context → of_one i r ≡ Some x → StandsTyped (Some context) x
  one_stands zero r x typed found = (context, refl, stands context r x found typed)
  one_stands (suc i) r x typed found = cc

  two_stand : (i : ℕ) (r s x : Rel) → Typed r context → Typed s context → of_two i r s ≡ Some x → StandsTyped (Some context) x
  two_stand zero r s x first second found = (context, refl, stands context r x found first)
  two_stand (suc zero) r s x first second found = (context, refl, stands context s x found second)
  two_stand (suc (suc i)) r s x first second found = cc

  under_binder : (i k : ℕ) (r s x : Rel) (types : List Ty) → Typed r context → types_under r context ≡ Some types → Typed s (extended context k types) → of_two i r s ≡ Some x → StandsTyped (binder_context i context k r) x
  under_binder zero k r s x types source is body found = (context, refl, stands context r x found source)
  under_binder (suc zero) k r s x types source is body found = (extended context k types, ap (option_map (extended context k)) is, stands (extended context k types) s x found body)
  under_binder (suc (suc i)) k r s x types source is body found = cc

  some_stands : (i : ℕ) (rs : List Rel) (x : Rel) (all : List (List Ty)) → is_context context ≡ true → each (map (λ (r : Rel). types_under r context) rs) ≡ Some all → slice_get rs i ≡ Some x → StandsTyped (Some context) x
  some_stands i [] x all within typed found = cc
  some_stands zero (r ∷ rs) x all within typed found =
      let parts = both_parts (λ t ts. t ∷ ts) (types_under r context) (each (map (λ (r : Rel). types_under r context) rs)) all typed in
      (context, refl, stands context r x found (typed_operand r parts.0 within parts.2))
  some_stands (suc i) (r ∷ rs) x all within typed found =
      let parts = both_parts (λ t ts. t ∷ ts) (types_under r context) (each (map (λ (r : Rel). types_under r context) rs)) all typed in
      some_stands i rs x parts.1 within parts.3 found

  -- of an operator over one
  only_stands : (i : ℕ) (r x : Rel) (g : List Ty → Option (List Ty)) (q : Rel) → types_under q context ≡ option_and_then g (types_under r context) → Typed q context → of_one i r ≡ Some x → StandsTyped (Some context) x
  only_stands i r x g q is typed found =
      let parts = typed_parts (is_context context) (types_under q context) typed in
      let source = and_then_parts g (types_under r context) parts.1.0 (sym is ∙ parts.1.1) in
      one_stands i r x (typed_operand r source.0 parts.0 source.1) found

  -- of a binder, whose body has types wherever the binder has them
  bound_stands : (i k : ℕ) (r s x : Rel) (g : List Ty → Option (List Ty)) → ((columns types : List Ty) → g columns ≡ Some types → types_under s (extended context k columns) ≡ Some types) → (q : Rel) → types_under q context ≡ option_and_then g (types_under r context) → Typed q context → of_two i r s ≡ Some x → StandsTyped (binder_context i context k r) x
  bound_stands i k r s x g body q is typed found =
      let parts = typed_parts (is_context context) (types_under q context) typed in
      let source = and_then_parts g (types_under r context) parts.1.0 (sym is ∙ parts.1.1) in
      let within = extended-is_context context k source.0 parts.0 (has_columns r context source.0 parts.0 source.1) in
      let body_typed = typed_from (is_context (extended context k source.0)) (types_under s (extended context k source.0)) parts.1.0 within (body source.0 parts.1.0 source.2) in
      under_binder i k r s x source.0 (typed_operand r source.0 parts.0 source.1) source.1 body_typed found

  cross_stands : (i : ℕ) (rs : List Rel) (x : Rel) → Typed (R.Cross rs) context → slice_get rs i ≡ Some x → StandsTyped (Some context) x
  cross_stands i rs x typed found =
      let parts = typed_parts (is_context context) (types_under (R.Cross rs) context) typed in
      let all = map_parts (λ all. flat_map (λ types. types) all) (each (map (λ (r : Rel). types_under r context) rs)) parts.1.0 (limited_parts _ parts.1.0 (sym (types_under-Cross context rs) ∙ parts.1.1)) in
      some_stands i rs x all.0 parts.0 all.1 found

  concat_stands : (i : ℕ) (rs : List Rel) (x : Rel) → Typed (R.Concat rs) context → slice_get rs i ≡ Some x → StandsTyped (Some context) x
  concat_stands i rs x typed found =
      let parts = typed_parts (is_context context) (types_under (R.Concat rs) context) typed in
      let all = and_then_parts common_types (each (map (λ (r : Rel). types_under r context) rs)) parts.1.0 (sym (types_under-Concat context rs) ∙ parts.1.1) in
      some_stands i rs x all.0 parts.0 all.1 found

  join_stands : (i : ℕ) (e : Expr) (r s x : Rel) → Typed (R.Join e r s) context → of_two i r s ≡ Some x → StandsTyped (Some context) x
  join_stands i e r s x typed found =
      let operands = types_under r context ∷ types_under s context ∷ [] in
      let parts = typed_parts (is_context context) (types_under (R.Join e r s) context) typed in
      let columns = and_then_parts (λ columns. allowed (is_of Truth (type_under e columns context)) columns) (cross_types operands) parts.1.0 (sym (types_under-Join context e r s) ∙ parts.1.1) in
      let both = map_parts (λ all. flat_map (λ types. types) all) (each operands) columns.0 (limited_parts _ columns.0 columns.1) in
      let first = both_parts (λ t ts. t ∷ ts) (types_under r context) (each (types_under s context ∷ [])) both.0 both.1 in
      let second = both_parts (λ t ts. t ∷ ts) (types_under s context) (each []) first.1 first.3 in
      two_stand i r s x (typed_operand r first.0 parts.0 first.2) (typed_operand s second.0 parts.0 second.2) found

  opened : (x y : Rel) → x ≡ y → Typed x context → Typed y context
  opened x y is typed = subst (λ q. Typed q context) is typed

  layer_stands : (i : ℕ) (x : Rel) (y : F.Rel-F Rel) → Typed (roll-Rel y) context → operand i y ≡ Some x → StandsTyped (operand_context i context y) x
  layer_stands i x (F.Table n) typed found = cc
  layer_stands i x (F.Scalar e) typed found = cc
  layer_stands i x (F.Cross rs) typed found = cross_stands i rs x (opened _ _ (rolls-Cross rs) typed) found
  layer_stands i x (F.Concat rs) typed found = concat_stands i rs x (opened _ _ (rolls-Concat rs) typed) found
  layer_stands i x (F.Select es r) typed found = only_stands i r x (λ columns. within_limits (types_of_each es columns context)) (R.Select es r) (types_under-Select context es r) (opened _ _ (rolls-Select es r) typed) found
  layer_stands i x (F.Filter e r) typed found = only_stands i r x (λ columns. allowed (is_of Truth (type_under e columns context)) columns) (R.Filter e r) (types_under-Filter context e r) (opened _ _ (rolls-Filter e r) typed) found
  layer_stands i x (F.Join e r s) typed found = join_stands i e r s x (opened _ _ (rolls-Join e r s) typed) found
  layer_stands i x (F.DepJoin k r s) typed found = bound_stands i k r s x (λ (columns : List Ty). types_under s (extended context k columns)) (λ columns types is. is) (R.DepJoin k r s) (types_under-DepJoin context k r s) (opened _ _ (rolls-DepJoin k r s) typed) found
  layer_stands i x (F.Group ks aggs r) typed found = only_stands i r x (λ columns. group_types ks aggs columns) (R.Group ks aggs r) (types_under-Group context ks aggs r) (opened _ _ (rolls-Group ks aggs r) typed) found
  layer_stands i x (F.Order ks r) typed found = only_stands i r x (λ columns. allowed (are_sorting_keys ks columns) columns) (R.Order ks r) (types_under-Order context ks r) (opened _ _ (rolls-Order ks r) typed) found
  layer_stands i x (F.Dedup r) typed found =
      let parts = typed_parts (is_context context) (types_under (R.Dedup r) context) (opened _ _ (rolls-Dedup r) typed) in
      one_stands i r x (typed_operand r parts.1.0 parts.0 (sym (types_under-Dedup context r) ∙ parts.1.1)) found
  layer_stands i x (F.List k r s) typed found = bound_stands i k r s x (λ (columns : List Ty). types_under s (extended context k columns)) (λ columns types is. is) (R.List k r s) (types_under-List context k r s) (opened _ _ (rolls-List k r s) typed) found
  layer_stands i x (F.Hash k r s es) typed found = bound_stands i k r s x (λ (columns : List Ty). (if are_hash_keys columns (types_of_each es [] context) then types_under s (extended context k columns) else None)) (λ columns types is. (if_parts (are_hash_keys columns (types_of_each es [] context)) (types_under s (extended context k columns)) types is).1) (R.Hash k r s es) (types_under-Hash context k r s es) (opened _ _ (rolls-Hash k r s es) typed) found
  layer_stands i x (F.Ord k r s lo hi) typed found = bound_stands i k r s x (λ (columns : List Ty). (if is_range columns lo hi context then types_under s (extended context k columns) else None)) (λ columns types is. (if_parts (is_range columns lo hi context) (types_under s (extended context k columns)) types is).1) (R.Ord k r s lo hi) (types_under-Ord context k r s lo hi) (opened _ _ (rolls-Ord k r s lo hi) typed) found

  operand_stands : (i : ℕ) (q x : Rel) → Typed q context → operand i (out-Rel q) ≡ Some x → StandsTyped (operand_context i context (out-Rel q)) x
  operand_stands i q x typed found = layer_stands i x (out-Rel q) (opened q (roll-Rel (out-Rel q)) (sym (roll-out-Rel q)) typed) found

pub typed_at : (path : List ℕ) (q : Rel) (context : Context) → TypedAt path q context
typed_at [] q context typed r found = (context, refl, stands context q r found typed)
typed_at (i ∷ path) q context typed r found =
    let parts = and_then_parts (at_path path) (operand i (out-Rel q)) r found in
    let here = operand_stands context i q parts.0 typed parts.1 in
    let below = typed_at path parts.0 here.0 here.2 r parts.2 in
    let step = λ (x : Rel). option_and_then (context_at path x) (operand_context i context (out-Rel q)) in
    (below.0, ap (option_and_then step) parts.1 ∙ ap (option_and_then (context_at path parts.0)) here.1 ∙ below.1, below.2)
