-- A relation that is well typed under a context reads no scope that isn't in the context.
use Rattle.std.proofs.Common.{◌≡◌, ◌∙◌, ℕ, ◌==◌, refl, sym, ap, subst, List, [], ◌∷◌, map, Bool, true, false, not, ◌&&◌, ◌||◌, Option, Some, None, slice_get, is_some, option_and_then, option_map, if◌then◌else◌}
use Rattle.std.specs.List.{flat_map, list_all, list_any}
use Rattle.std.proofs.lemmas.Bool.{eqb-true}
use Rattle.castor_val.specs.declared.value.Value.{Value}
use Rattle.castor_val.specs.declared.value.Ty.{Ty}
use Rattle.castor_val.specs.declared.value.Ty.TheVariants.{Int, Bool as Truth, Text}
use Rattle.castor_alg.specs.declared.context.Context.{Context}
use Rattle.castor_alg.specs.declared.expr.Op.{Op}
use Rattle.castor_alg.specs.declared.expr.Op.TheVariants.{Or, And, Eq, Ne, Lt, Le, Gt, Ge, Add, Sub, Mul, Div, Rem}
use Rattle.castor_alg.specs.declared.expr.Expr.{Expr}
use Rattle.castor_alg.specs.declared.expr.Expr as E
use Rattle.castor_alg.specs.declared.rel.Agg.{Agg}
use Rattle.castor_alg.specs.declared.rel.Bound.{Bound}
use Rattle.castor_alg.specs.declared.rel.Bound.TheVariants.{Any, Incl, Excl}
use Rattle.castor_alg.specs.declared.rel.Key.{Key}
use Rattle.castor_alg.specs.declared.rel.Rel.{Rel}
use Rattle.castor_alg.specs.declared.rel.Rel as R
use Rattle.castor_alg.specs.FreeScopes.{bound_reads, free_step, is_free, passes, reads, reads_step}
use Rattle.castor_alg.specs.Typing.{ExprTyping, RelTyping, agreed, allowed, are_hash_keys, are_sorting_keys, choice_type, column_types_step, common_types, cross_types, each, expr_type_step, extended, group_types, is_bound, is_of, is_range, negation_type, operator_type, scope_types, type_under, types_of_each, types_under, with_both, within_limits}
use Rattle.castor_alg.proofs.ExprInduction.{ExprCases, expr_induction, fold-Bin, fold-Col, fold-If, fold-Lit, fold-Not, fold-Param, fold-Scope}
use Rattle.castor_alg.proofs.RelInduction.{RelCases, With, rel_induction, relations}
use Rattle.castor_alg.proofs.RelInduction as F
use Rattle.castor_alg.proofs.TypingLaws.{scope_types-extended}
use Rattle.castor_names.proofs.Outcomes.{left_true, right_true}

-- what was needed to find a value
pub record IsThen {X Y : Type 0} (f : X → Option Y) (o : Option X) (y : Y) : Type 0 where
  pub first : X
  pub is : o ≡ Some first
  pub rest : f first ≡ Some y

and_then_parts : {X Y : Type 0} (f : X → Option Y) (o : Option X) (y : Y) → option_and_then f o ≡ Some y → IsThen f o y
and_then_parts f None y is = absurd cc
and_then_parts f (Some x) y is = record { first = x; is = refl; rest = is }

pub record HasBoth (a b : Option Ty) : Type 0 where
  pub left : Ty
  pub is_left : a ≡ Some left
  pub right : Ty
  pub is_right : b ≡ Some right

-- both values that give one
pub record IsOfBoth {X Y : Type 0} (a : Option X) (b : Option Y) : Type 0 where
  pub left : X
  pub is_left : a ≡ Some left
  pub right : Y
  pub is_right : b ≡ Some right

parts_of_both : {X Y Z : Type 0} (f : X → Y → Z) (a : Option X) (b : Option Y) (z : Z) → with_both f a b ≡ Some z → IsOfBoth a b
parts_of_both f None b z is = absurd cc
parts_of_both f (Some x) None z is = absurd cc
parts_of_both f (Some x) (Some y) z is = record { left = x; is_left = refl; right = y; is_right = refl }

of_both : (takes gives : Ty) (a b : Option Ty) (t : Ty) → allowed (is_of takes a && is_of takes b) gives ≡ Some t → HasBoth a b
of_both takes gives None b t is = absurd cc
of_both takes gives (Some x) None t is = none_right (is_of takes (Some x)) is
  where
    none_right : (c : Bool) → allowed (c && false) gives ≡ Some t → HasBoth (Some x) None
    none_right true is = absurd cc
    none_right false is = absurd cc
of_both takes gives (Some x) (Some y) t is = record { left = x; is_left = refl; right = y; is_right = refl }

agreeing : (gives : Ty) (a b : Option Ty) (t : Ty) → allowed (is_some (agreed a b)) gives ≡ Some t → HasBoth a b
agreeing gives None b t is = absurd cc
agreeing gives (Some x) None t is = absurd cc
agreeing gives (Some x) (Some y) t is = record { left = x; is_left = refl; right = y; is_right = refl }

operands : (op : Op) (a b : Option Ty) (t : Ty) → operator_type op a b ≡ Some t → HasBoth a b
operands Or a b t is = of_both Truth Truth a b t is
operands And a b t is = of_both Truth Truth a b t is
operands Eq a b t is = agreeing Truth a b t is
operands Ne a b t is = agreeing Truth a b t is
operands Lt a b t is = agreeing Truth a b t is
operands Le a b t is = agreeing Truth a b t is
operands Gt a b t is = agreeing Truth a b t is
operands Ge a b t is = agreeing Truth a b t is
operands Add a b t is = of_both Int Int a b t is
operands Sub a b t is = of_both Int Int a b t is
operands Mul a b t is = of_both Int Int a b t is
operands Div a b t is = of_both Int Int a b t is
operands Rem a b t is = of_both Int Int a b t is

operand : (a : Option Ty) (t : Ty) → negation_type a ≡ Some t → (x : Ty) × (a ≡ Some x)
operand None t is = absurd cc
operand (Some x) t is = (x, refl)

chosen : (c a b : Option Ty) (t : Ty) → choice_type c a b ≡ Some t → ((x : Ty) × (c ≡ Some x)) × HasBoth a b
chosen None a b t is = absurd cc
chosen (Some x) a b t is = ((x, refl), by_test (is_of Truth (Some x)) a b is)
  where
    by_test : (test : Bool) (a b : Option Ty) → (if test then agreed a b else None) ≡ Some t → HasBoth a b
    by_test false a b is = absurd cc
    by_test true None b is = absurd cc
    by_test true (Some y) None is = absurd cc
    by_test true (Some y) (Some z) is = record { left = y; is_left = refl; right = z; is_right = refl }

module _ (k : ℕ) where
  abbrev ReadsNone : Expr → Type 0
  ReadsNone e = (columns : List Ty) (context : Context) (t : Ty) → scope_types context.scopes k ≡ None → type_under e columns context ≡ Some t → reads k e ≡ false

  other_scope : (j i : ℕ) (context : Context) (t : Ty) (same : Bool) → j == k ≡ same → scope_types context.scopes k ≡ None → option_and_then (λ types. slice_get types i) (scope_types context.scopes j) ≡ Some t → same ≡ false
  other_scope j i context t false is none typed = refl
  other_scope j i context t true is none typed =
      let e = eqb-true j k is in
      let gone = ap (option_and_then (λ types. slice_get types i)) (ap (scope_types context.scopes) e ∙ none) in
      absurd cc

  scope_reads : (j i : ℕ) → ReadsNone (E.Scope j i)
  scope_reads j i columns context t none typed =
      fold-Scope Bool (reads_step k) j i
      ∙ other_scope j i context t (j == k) refl none (sym (ap (λ (m : ExprTyping). m columns context) (fold-Scope ExprTyping expr_type_step j i)) ∙ typed)

  bin_reads : (op : Op) (a b : Expr) → ReadsNone a → ReadsNone b → ReadsNone (E.Bin op a b)
  bin_reads op a b ra rb columns context t none typed =
      let both = operands op (type_under a columns context) (type_under b columns context) t (sym (ap (λ (m : ExprTyping). m columns context) (fold-Bin ExprTyping expr_type_step op a b)) ∙ typed) in
      fold-Bin Bool (reads_step k) op a b ∙ (λ i. ra columns context both.left none both.is_left i || rb columns context both.right none both.is_right i)

  not_reads : (a : Expr) → ReadsNone a → ReadsNone (E.Not a)
  not_reads a ra columns context t none typed =
      let side = operand (type_under a columns context) t (sym (ap (λ (m : ExprTyping). m columns context) (fold-Not ExprTyping expr_type_step a)) ∙ typed) in
      fold-Not Bool (reads_step k) a ∙ ra columns context side.0 none side.1

  cond_reads : (c a b : Expr) → ReadsNone c → ReadsNone a → ReadsNone b → ReadsNone (E.If c a b)
  cond_reads c a b rc ra rb columns context t none typed =
      let parts = chosen (type_under c columns context) (type_under a columns context) (type_under b columns context) t (sym (ap (λ (m : ExprTyping). m columns context) (fold-If ExprTyping expr_type_step c a b)) ∙ typed) in
      fold-If Bool (reads_step k) c a b
      ∙ (λ i. rc columns context parts.0.0 none parts.0.1 i || (ra columns context parts.1.left none parts.1.is_left i || rb columns context parts.1.right none parts.1.is_right i))

  reads_none : (e : Expr) → ReadsNone e
  reads_none = expr_induction ReadsNone (record {
    col = λ i columns context t none typed. fold-Col Bool (reads_step k) i;
    scope = scope_reads;
    param = λ i columns context t none typed. fold-Param Bool (reads_step k) i;
    lit = λ v columns context t none typed. fold-Lit Bool (reads_step k) v;
    bin = bin_reads;
    not = not_reads;
    cond = cond_reads;
  })

  -- of a list of expressions each has a type
  all_read_none : (es : List Expr) (columns : List Ty) (context : Context) (types : List Ty) → scope_types context.scopes k ≡ None → types_of_each es columns context ≡ Some types → list_any (reads k) es ≡ false
  all_read_none [] columns context types none typed = refl
  all_read_none (e ∷ es) columns context types none typed =
      let both = parts_of_both (λ t ts. t ∷ ts) (type_under e columns context) (types_of_each es columns context) types typed in
      λ i. reads_none e columns context both.left none both.is_left i || all_read_none es columns context both.right none both.is_right i

  abbrev ReadsNoneFree : Rel → Type 0
  ReadsNoneFree q = (context : Context) (types : List Ty) → scope_types context.scopes k ≡ None → types_under q context ≡ Some types → is_free k q ≡ false

  abbrev typed_in : Context → RelTyping → Option (List Ty)
  typed_in context m = m context

  none_free : (rs : List (With ReadsNoneFree)) (context : Context) (types : List (List Ty)) → scope_types context.scopes k ≡ None
      → each (map (λ (m : RelTyping). m context) (map types_under (relations rs))) ≡ Some types → list_any (λ b. b) (map (is_free k) (relations rs)) ≡ false
  none_free [] context types none typed = refl
  none_free (r ∷ rs) context types none typed =
      let both = parts_of_both (λ t ts. t ∷ ts) (types_under r.0 context) (each (map (λ (m : RelTyping). m context) (map types_under (relations rs)))) types typed in
      λ i. r.1 context both.left none both.is_left i || none_free rs context both.right none both.is_right i

  limited_some : (o : Option (List (List Ty))) (types : List Ty) → within_limits (option_map (λ all. flat_map (λ types. types) all) o) ≡ Some types → (all : List (List Ty)) × (o ≡ Some all)
  limited_some None types is = absurd cc
  limited_some (Some all) types is = (all, refl)

  cross_free : (rs : List (With ReadsNoneFree)) → ReadsNoneFree (R.Cross (relations rs))
  cross_free rs context types none typed =
      let operands = each (map (λ (m : RelTyping). m context) (map types_under (relations rs))) in
      let all = limited_some operands types (sym (ap (typed_in context) (F.fold-Cross RelTyping column_types_step (relations rs))) ∙ typed) in
      F.fold-Cross Bool (free_step k) (relations rs) ∙ none_free rs context all.0 none all.1

  concat_free : (rs : List (With ReadsNoneFree)) → ReadsNoneFree (R.Concat (relations rs))
  concat_free rs context types none typed =
      let operands = each (map (λ (m : RelTyping). m context) (map types_under (relations rs))) in
      let all = and_then_parts common_types operands types (sym (ap (typed_in context) (F.fold-Concat RelTyping column_types_step (relations rs))) ∙ typed) in
      F.fold-Concat Bool (free_step k) (relations rs) ∙ none_free rs context all.first none all.is

  allowed_true : {X : Type 0} (c : Bool) (x y : X) → allowed c x ≡ Some y → c ≡ true
  allowed_true true x y is = refl
  allowed_true false x y is = absurd cc

  of_some : (t : Ty) (o : Option Ty) → is_of t o ≡ true → (x : Ty) × (o ≡ Some x)
  of_some t None is = absurd cc
  of_some t (Some x) is = (x, refl)

  scalar_free : (e : Expr) → ReadsNoneFree (R.Scalar e)
  scalar_free e context types none typed = by_type (type_under e [] context) refl (sym (ap (typed_in context) (F.fold-Scalar RelTyping column_types_step e)) ∙ typed)
    where
      by_type : (o : Option Ty) → type_under e [] context ≡ o → option_map (λ t. t ∷ []) o ≡ Some types → is_free k (R.Scalar e) ≡ false
      by_type None is found = absurd cc
      by_type (Some t) is found = F.fold-Scalar Bool (free_step k) e ∙ reads_none e [] context t none is

  within_some : (o : Option (List Ty)) (types : List Ty) → within_limits o ≡ Some types → (all : List Ty) × (o ≡ Some all)
  within_some None types is = absurd cc
  within_some (Some all) types is = (all, refl)

  select_free : (es : List Expr) (r : Rel) → ReadsNoneFree r → ReadsNoneFree (R.Select es r)
  select_free es r fr context types none typed =
      let from = and_then_parts (λ columns. within_limits (types_of_each es columns context)) (types_under r context) types (sym (ap (typed_in context) (F.fold-Select RelTyping column_types_step es r)) ∙ typed) in
      let all = within_some (types_of_each es from.first context) types from.rest in
      F.fold-Select Bool (free_step k) es r ∙ (λ i. all_read_none es from.first context all.0 none all.1 i || fr context from.first none from.is i)

  filter_free : (e : Expr) (r : Rel) → ReadsNoneFree r → ReadsNoneFree (R.Filter e r)
  filter_free e r fr context types none typed =
      let from = and_then_parts (λ columns. allowed (is_of Truth (type_under e columns context)) columns) (types_under r context) types (sym (ap (typed_in context) (F.fold-Filter RelTyping column_types_step e r)) ∙ typed) in
      let test = of_some Truth (type_under e from.first context) (allowed_true (is_of Truth (type_under e from.first context)) from.first types from.rest) in
      F.fold-Filter Bool (free_step k) e r ∙ (λ i. reads_none e from.first context test.0 none test.1 i || fr context from.first none from.is i)

  join_free : (e : Expr) (r s : Rel) → ReadsNoneFree r → ReadsNoneFree s → ReadsNoneFree (R.Join e r s)
  join_free e r s fr fs context types none typed =
      let sides = types_under r context ∷ types_under s context ∷ [] in
      let from = and_then_parts (λ columns. allowed (is_of Truth (type_under e columns context)) columns) (cross_types sides) types (sym (ap (typed_in context) (F.fold-Join RelTyping column_types_step e r s)) ∙ typed) in
      let test = of_some Truth (type_under e from.first context) (allowed_true (is_of Truth (type_under e from.first context)) from.first types from.rest) in
      let all = limited_some (each sides) from.first from.is in
      let left = parts_of_both (λ t ts. t ∷ ts) (types_under r context) (each (types_under s context ∷ [])) all.0 all.1 in
      let right = parts_of_both (λ t ts. t ∷ ts) (types_under s context) (Some []) left.right left.is_right in
      F.fold-Join Bool (free_step k) e r s ∙ (λ i. reads_none e from.first context test.0 none test.1 i || (fr context left.left none left.is_left i || fs context right.left none right.is_left i))

  passed : (j : ℕ) (b same : Bool) → j == k ≡ same → (same ≡ false → b ≡ false) → passes k j b ≡ false
  passed j b true is inner = λ i. not (is i) && b
  passed j b false is inner = λ i. not (is i) && inner refl i

  -- in the body of a binder
  body_free : (j : ℕ) (s : Rel) (context : Context) (columns types : List Ty) → ReadsNoneFree s → scope_types context.scopes k ≡ None → types_under s (extended context j columns) ≡ Some types → passes k j (is_free k s) ≡ false
  body_free j s context columns types fs none typed =
      passed j (is_free k s) (j == k) refl (λ other. fs (extended context j columns) types
      (scope_types-extended context j columns k ∙ ap (λ (b : Bool). if b then Some columns else scope_types context.scopes k) other ∙ none) typed)

  depjoin_free : (j : ℕ) (r s : Rel) → ReadsNoneFree r → ReadsNoneFree s → ReadsNoneFree (R.DepJoin j r s)
  depjoin_free j r s fr fs context types none typed =
      let from = and_then_parts (λ columns. types_under s (extended context j columns)) (types_under r context) types (sym (ap (typed_in context) (F.fold-DepJoin RelTyping column_types_step j r s)) ∙ typed) in
      F.fold-DepJoin Bool (free_step k) j r s ∙ (λ i. fr context from.first none from.is i || body_free j s context from.first types fs none from.rest i)

  list_free : (j : ℕ) (r s : Rel) → ReadsNoneFree r → ReadsNoneFree s → ReadsNoneFree (R.List j r s)
  list_free j r s fr fs context types none typed =
      let from = and_then_parts (λ columns. types_under s (extended context j columns)) (types_under r context) types (sym (ap (typed_in context) (F.fold-List RelTyping column_types_step j r s)) ∙ typed) in
      F.fold-List Bool (free_step k) j r s ∙ (λ i. fr context from.first none from.is i || body_free j s context from.first types fs none from.rest i)

  where_holds : (c : Bool) (o : Option (List Ty)) (types : List Ty) → (if c then o else None) ≡ Some types → (c ≡ true) × (o ≡ Some types)
  where_holds true o types is = (refl, is)
  where_holds false o types is = absurd cc

  keys_typed : (columns : List Ty) (o : Option (List Ty)) → are_hash_keys columns o ≡ true → (keys : List Ty) × (o ≡ Some keys)
  keys_typed columns None is = absurd cc
  keys_typed columns (Some keys) is = (keys, refl)

  hash_free : (j : ℕ) (r s : Rel) (es : List Expr) → ReadsNoneFree r → ReadsNoneFree s → ReadsNoneFree (R.Hash j r s es)
  hash_free j r s es fr fs context types none typed =
      let from = and_then_parts (λ columns. if are_hash_keys columns (types_of_each es [] context) then types_under s (extended context j columns) else None) (types_under r context) types
      (sym (ap (typed_in context) (F.fold-Hash RelTyping column_types_step j r s es)) ∙ typed) in
      let holds = where_holds (are_hash_keys from.first (types_of_each es [] context)) (types_under s (extended context j from.first)) types from.rest in
      let keys = keys_typed from.first (types_of_each es [] context) holds.0 in
      F.fold-Hash Bool (free_step k) j r s es
      ∙ (λ i. all_read_none es [] context keys.0 none keys.1 i || (fr context from.first none from.is i || body_free j s context from.first types fs none holds.1 i))

  bound_free : (t : Ty) (b : Bound) (context : Context) → scope_types context.scopes k ≡ None → is_bound t b context ≡ true → bound_reads k b ≡ false
  bound_free t Any context none is = refl
  bound_free t (Incl e) context none is = let x = of_some t (type_under e [] context) is in reads_none e [] context x.0 none x.1
  bound_free t (Excl e) context none is = let x = of_some t (type_under e [] context) is in reads_none e [] context x.0 none x.1

  range_free : (columns : List Ty) (lo hi : Bound) (context : Context) → scope_types context.scopes k ≡ None → is_range columns lo hi context ≡ true → (bound_reads k lo || bound_reads k hi) ≡ false
  range_free [] lo hi context none is = absurd cc
  range_free (t ∷ u ∷ types) lo hi context none is = absurd cc
  range_free (t ∷ []) lo hi context none is =
      λ i. bound_free t lo context none (left_true (is_bound t lo context) (is_bound t hi context) is) i || bound_free t hi context none (right_true (is_bound t lo context) (is_bound t hi context) is) i

  ordered_free : (j : ℕ) (r s : Rel) (lo hi : Bound) → ReadsNoneFree r → ReadsNoneFree s → ReadsNoneFree (R.Ord j r s lo hi)
  ordered_free j r s lo hi fr fs context types none typed =
      let from = and_then_parts (λ columns. if is_range columns lo hi context then types_under s (extended context j columns) else None) (types_under r context) types
      (sym (ap (typed_in context) (F.fold-Ord RelTyping column_types_step j r s lo hi)) ∙ typed) in
      let holds = where_holds (is_range from.first lo hi context) (types_under s (extended context j from.first)) types from.rest in
      F.fold-Ord Bool (free_step k) j r s lo hi
      ∙ (λ i. range_free from.first lo hi context none holds.0 i || (fr context from.first none from.is i || body_free j s context from.first types fs none holds.1 i))

  group_free : (ks : List ℕ) (aggs : List Agg) (r : Rel) → ReadsNoneFree r → ReadsNoneFree (R.Group ks aggs r)
  group_free ks aggs r fr context types none typed =
      let from = and_then_parts (λ columns. group_types ks aggs columns) (types_under r context) types (sym (ap (typed_in context) (F.fold-Group RelTyping column_types_step ks aggs r)) ∙ typed) in
      F.fold-Group Bool (free_step k) ks aggs r ∙ fr context from.first none from.is

  order_free : (ks : List Key) (r : Rel) → ReadsNoneFree r → ReadsNoneFree (R.Order ks r)
  order_free ks r fr context types none typed =
      let from = and_then_parts (λ columns. allowed (are_sorting_keys ks columns) columns) (types_under r context) types (sym (ap (typed_in context) (F.fold-Order RelTyping column_types_step ks r)) ∙ typed) in
      F.fold-Order Bool (free_step k) ks r ∙ fr context from.first none from.is

  dedup_free : (r : Rel) → ReadsNoneFree r → ReadsNoneFree (R.Dedup r)
  dedup_free r fr context types none typed = F.fold-Dedup Bool (free_step k) r ∙ fr context types none (sym (ap (typed_in context) (F.fold-Dedup RelTyping column_types_step r)) ∙ typed)

  pub none_read : (q : Rel) → ReadsNoneFree q
  none_read = rel_induction ReadsNoneFree (record {
    table = λ n context types none typed. F.fold-Table Bool (free_step k) n;
    scalar = scalar_free;
    cross = cross_free;
    concat = concat_free;
    select = select_free;
    filter = filter_free;
    join = join_free;
    depjoin = depjoin_free;
    group = group_free;
    order = order_free;
    dedup = dedup_free;
    list = list_free;
    hash = hash_free;
    ordered = ordered_free;
  })
