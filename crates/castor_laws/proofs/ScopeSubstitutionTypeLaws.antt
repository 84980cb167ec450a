-- The column types of a relation in which a scope is replaced.
use Rattle.std.proofs.Common.{◌≡◌, ◌∙◌, ℕ, List, [], ◌∷◌, ◌++◌, map, cond, refl, sym, ap, Bool, true, false, ◌||◌, ◌==◌, Option, Some, None, option_and_then, option_map, slice_get, if◌then◌else◌}
use Rattle.std.specs.List.{flat_map, list_all, list_any}
use Rattle.std.proofs.lemmas.Bool.{and_from, and_parts, or_parts}
use Rattle.std.proofs.lemmas.List.Folds.{list_all-append}
use Rattle.castor_val.specs.declared.value.Ty.{Ty}
use Rattle.castor_val.specs.declared.value.Ty.TheVariants.{Bool as Truth}
use Rattle.castor_alg.specs.declared.context.Context.{Context}
use Rattle.castor_alg.specs.declared.expr.Expr.{Expr}
use Rattle.castor_alg.specs.declared.expr.Expr as E
use Rattle.castor_alg.specs.declared.expr.Expr.TheVariants.{rolls-Col}
use Rattle.castor_alg.specs.declared.rel.Bound.{Bound}
use Rattle.castor_alg.specs.declared.rel.Bound.TheVariants.{Any, Incl, Excl}
use Rattle.castor_alg.specs.declared.rel.Rel.{Rel}
use Rattle.castor_alg.specs.declared.rel.Rel.TheVariants.{rolls-Table, rolls-Scalar, rolls-Cross, rolls-Concat, rolls-Select, rolls-Filter, rolls-Join, rolls-DepJoin, rolls-Group, rolls-Order, rolls-Dedup, rolls-List, rolls-Hash, rolls-Ord}
use Rattle.castor_alg.specs.FreeScopes.{reads}
use Rattle.castor_alg.specs.Substitution.{captured_by, captures, captures_step, replacing, subst_scope, subst_scope_bound, subst_scope_expr, subst_scope_expr_step, subst_scope_step}
use Rattle.castor_alg.specs.Typing.{allowed, are_columns, are_hash_keys, are_sorting_keys, common_types, cross_types, each, extended, group_types, is_bound, is_context, is_of, is_range, scope_types, type_under, types_of_each, types_under, within_limits}
use Rattle.castor_alg.proofs.ExprInduction.{fold-Col, fold-Scope}
use Rattle.castor_alg.proofs.RelInduction.{With, relations, rel_induction, fold-Table, fold-Scalar, fold-Cross, fold-Concat, fold-Select, fold-Filter, fold-Join, fold-DepJoin, fold-Group, fold-Order, fold-Dedup, fold-List, fold-Hash, fold-Ord}
use Rattle.castor_alg.proofs.TypingLaws.{scope_types-extended}
use Rattle.castor_laws.specs.SubstitutionTypes.{HaveTypes, ScopeHasColumnTypes, ScopeHasTypes, ScopeIsTyped}
use Rattle.castor_laws.proofs.ColumnFreeLaws.{each_closed_is_column_free, types_without_columns}
use Rattle.castor_laws.proofs.ColumnSubstitutionTypeLaws.{replacing_type}
use Rattle.castor_laws.proofs.LeafChangeLaws.{change_keeps_types, scope_changes}
use Rattle.castor_laws.proofs.PlaceTypingLaws.{typed_from}
use Rattle.castor_laws.proofs.ScopeSubstitutionLaws.{exchanged_at}
use Rattle.castor_laws.proofs.TypeClauseLaws.{type_under-Col, type_under-Scope, types_under-Table, types_under-Scalar, types_under-Cross, types_under-Concat, types_under-Select, types_under-Filter, types_under-Join, types_under-DepJoin, types_under-Group, types_under-Order, types_under-Dedup, types_under-List, types_under-Hash, types_under-Ord}
use Rattle.castor_laws.proofs.TypeKeepLaws.{Keeps, and_then_keeps, both_keep, if_keeps, is_of_keeps, kept_by, kept_same, strict_keeps}
use Rattle.castor_laws.proofs.TypePartLaws.{if_parts, well_typed_parts}
use Rattle.castor_laws.proofs.TypeScopeLaws.{rel_types_rest, types_of_each_ignore}

clash : {P : Type 0} (b : Bool) → b ≡ false → b ≡ true → P
clash b isnt is = cc

hash_keys_keep : (columns : List Ty) (a b : Option (List Ty)) → Keeps a b → are_hash_keys columns a ≡ true → are_hash_keys columns b ≡ true
hash_keys_keep columns None b keeps is = clash false refl is
hash_keys_keep columns (Some keys) b keeps is = ap (are_hash_keys columns) (keeps keys refl) ∙ is

module _ (k : ℕ) (by : List Expr) where
  at_scope : (context : Context) (types columns : List Ty) → HaveTypes by context types → (j i : ℕ) (b : Bool) → Keeps (option_and_then (λ ts. slice_get ts i) (cond b (Some types) (scope_types context.scopes j))) (type_under (cond b (replacing by i) (E.Scope j i)) columns context)
  at_scope context types columns known j i true = λ t. replacing_type by columns types context (known columns) i t
  at_scope context types columns known j i false = kept_same (sym (type_under-Scope columns context j i))

  expr_keeps : (context : Context) (types columns : List Ty) → HaveTypes by context types → (e : Expr) → Keeps (type_under e columns (extended context k types)) (type_under (subst_scope_expr k by e) columns context)
  expr_keeps context types columns known =
      change_keeps_types (subst_scope_expr k by) (scope_changes k by) columns columns (extended context k types) context refl
      (λ i. kept_same (type_under-Col columns (extended context k types) i ∙ sym (ap (λ (e : Expr). type_under e columns context) (fold-Col Expr (subst_scope_expr_step k by) i ∙ rolls-Col i) ∙ type_under-Col columns context i)))
      (λ j i. kept_by (type_under-Scope columns (extended context k types) j i ∙ ap (option_and_then (λ ts. slice_get ts i)) (scope_types-extended context k types j)) (ap (λ (e : Expr). type_under e columns context) (fold-Scope Expr (subst_scope_expr_step k by) j i)) (at_scope context types columns known j i (k == j)))

  exprs_keep : (context : Context) (types columns : List Ty) → HaveTypes by context types → (es : List Expr) → Keeps (types_of_each es columns (extended context k types)) (types_of_each (map (subst_scope_expr k by) es) columns context)
  exprs_keep context types columns known [] = λ ts is. is
  exprs_keep context types columns known (e ∷ es) =
      both_keep (λ t ts. t ∷ ts) (type_under e columns (extended context k types)) (types_of_each es columns (extended context k types)) (type_under (subst_scope_expr k by e) columns context) (types_of_each (map (subst_scope_expr k by) es) columns context)
      (expr_keeps context types columns known e) (exprs_keep context types columns known es)

  test_keeps : (context : Context) (types columns : List Ty) → HaveTypes by context types → (e : Expr) → Keeps (allowed (is_of Truth (type_under e columns (extended context k types))) columns) (allowed (is_of Truth (type_under (subst_scope_expr k by e) columns context)) columns)
  test_keeps context types columns known e =
      if_keeps (is_of Truth (type_under e columns (extended context k types))) (is_of Truth (type_under (subst_scope_expr k by e) columns context)) (Some columns) (Some columns)
      (is_of_keeps Truth (type_under e columns (extended context k types)) (type_under (subst_scope_expr k by e) columns context) (expr_keeps context types columns known e)) (λ ts is. is)

  bound_keeps : (context : Context) (types : List Ty) → HaveTypes by context types → (t : Ty) (b : Bound) → is_bound t b (extended context k types) ≡ true → is_bound t (subst_scope_bound k by b) context ≡ true
  bound_keeps context types known t Any is = is
  bound_keeps context types known t (Incl e) is = is_of_keeps t (type_under e [] (extended context k types)) (type_under (subst_scope_expr k by e) [] context) (expr_keeps context types [] known e) is
  bound_keeps context types known t (Excl e) is = is_of_keeps t (type_under e [] (extended context k types)) (type_under (subst_scope_expr k by e) [] context) (expr_keeps context types [] known e) is

  range_keeps : (context : Context) (types : List Ty) → HaveTypes by context types → (columns : List Ty) (lo hi : Bound) → is_range columns lo hi (extended context k types) ≡ true → is_range columns (subst_scope_bound k by lo) (subst_scope_bound k by hi) context ≡ true
  range_keeps context types known [] lo hi is = is
  range_keeps context types known (t ∷ []) lo hi is =
      let parts = and_parts (is_bound t lo (extended context k types)) (is_bound t hi (extended context k types)) is in
      and_from (is_bound t (subst_scope_bound k by lo) context) (is_bound t (subst_scope_bound k by hi) context) (bound_keeps context types known t lo parts.0) (bound_keeps context types known t hi parts.1)
  range_keeps context types known (t ∷ u ∷ ts) lo hi is = is

  -- two scopes that are bound exchange
  types_exchange : (q : Rel) (context : Context) (j : ℕ) (types columns : List Ty) → (j == k) ≡ false → types_under q (extended (extended context k types) j columns) ≡ types_under q (extended (extended context j columns) k types)
  types_exchange q context j types columns other =
      rel_types_rest q (extended (extended context k types) j columns) ((context.scopes ++ (j, columns) ∷ []) ++ (k, types) ∷ [])
      (λ m free.
      scope_types-extended (extended context k types) j columns m
      ∙ ap (λ (o : Option (List Ty)). if j == m then Some columns else o) (scope_types-extended context k types m)
      ∙ exchanged_at k j m (Some columns) (Some types) (scope_types context.scopes m) other (k == m) refl (j == m) refl
      ∙ sym (scope_types-extended (extended context j columns) k types m ∙ ap (λ (o : Option (List Ty)). if k == m then Some types else o) (scope_types-extended context j columns m)))

  abbrev Holds : Rel → Type 0
  Holds q = ScopeHasTypes k by q

  abbrev before : Context → List Ty → Rel → Option (List Ty)
  before context types q = types_under q (extended context k types)

  abbrev after : Context → Rel → Option (List Ty)
  after context q = types_under (subst_scope k by q) context

  -- the body of a binder that doesn't capture
  body_keeps : (j : ℕ) (s : Rel) → Holds s → captured_by k by j ≡ false → captures k by s ≡ false → (context : Context) (types : List Ty) → HaveTypes by context types → (columns : List Ty) → Keeps (types_under s (extended (extended context k types) j columns)) (types_under (subst_scope k by s) (extended context j columns))
  body_keeps j s holds free none context types known columns =
      let parts = or_parts (j == k) (list_any (reads j) by) free in
      kept_by (types_exchange s context j types columns parts.0) refl
      (holds none (extended context j columns) types (λ others. types_of_each_ignore by j parts.1 others context columns ∙ known others))

  all_keep : (rs : List (With Holds)) → list_any (λ r. r) (map (captures k by) (relations rs)) ≡ false → (context : Context) (types : List Ty) → HaveTypes by context types → Keeps (each (map (λ (r : Rel). types_under r (extended context k types)) (relations rs))) (each (map (λ (r : Rel). types_under r context) (map (subst_scope k by) (relations rs))))
  all_keep [] none context types known = λ ts is. is
  all_keep (r ∷ rs) none context types known =
      let parts = or_parts (captures k by r.0) (list_any (λ r. r) (map (captures k by) (relations rs))) none in
      both_keep (λ t ts. t ∷ ts) (before context types r.0) (each (map (λ (r : Rel). types_under r (extended context k types)) (relations rs))) (after context r.0) (each (map (λ (r : Rel). types_under r context) (map (subst_scope k by) (relations rs))))
      (r.1 parts.0 context types known) (all_keep rs parts.1 context types known)

  abbrev typing : Context → Rel → Option (List Ty)
  typing context q = types_under q context

  pub scope_has_types : (q : Rel) → ScopeHasTypes k by q
  scope_has_types = rel_induction Holds record {
    table = λ n c context types known.
        kept_same (types_under-Table (extended context k types) n ∙ sym (ap (typing context) (fold-Table Rel (subst_scope_step k by) n ∙ rolls-Table n) ∙ types_under-Table context n));
    scalar = λ e c context types known.
        kept_by (types_under-Scalar (extended context k types) e) (ap (typing context) (fold-Scalar Rel (subst_scope_step k by) e ∙ rolls-Scalar (subst_scope_expr k by e)) ∙ types_under-Scalar context (subst_scope_expr k by e))
        (strict_keeps (option_map (λ t. t ∷ [])) refl (type_under e [] (extended context k types)) (type_under (subst_scope_expr k by e) [] context) (expr_keeps context types [] known e));
    cross = λ rs c context types known.
        let all = all_keep rs (sym (fold-Cross Bool (captures_step k by) (relations rs)) ∙ c) context types known in
        kept_by (types_under-Cross (extended context k types) (relations rs)) (ap (typing context) (fold-Cross Rel (subst_scope_step k by) (relations rs) ∙ rolls-Cross (map (subst_scope k by) (relations rs))) ∙ types_under-Cross context (map (subst_scope k by) (relations rs)))
        (strict_keeps (λ (o : Option (List (List Ty))). within_limits (option_map (λ all. flat_map (λ types. types) all) o)) refl (each (map (λ (r : Rel). types_under r (extended context k types)) (relations rs))) (each (map (λ (r : Rel). types_under r context) (map (subst_scope k by) (relations rs)))) all);
    concat = λ rs c context types known.
        let all = all_keep rs (sym (fold-Concat Bool (captures_step k by) (relations rs)) ∙ c) context types known in
        kept_by (types_under-Concat (extended context k types) (relations rs)) (ap (typing context) (fold-Concat Rel (subst_scope_step k by) (relations rs) ∙ rolls-Concat (map (subst_scope k by) (relations rs))) ∙ types_under-Concat context (map (subst_scope k by) (relations rs)))
        (strict_keeps (option_and_then common_types) refl (each (map (λ (r : Rel). types_under r (extended context k types)) (relations rs))) (each (map (λ (r : Rel). types_under r context) (map (subst_scope k by) (relations rs)))) all);
    select = λ es r x c context types known.
        let source = x (sym (fold-Select Bool (captures_step k by) es r) ∙ c) context types known in
        kept_by (types_under-Select (extended context k types) es r) (ap (typing context) (fold-Select Rel (subst_scope_step k by) es r ∙ rolls-Select (map (subst_scope_expr k by) es) (subst_scope k by r)) ∙ types_under-Select context (map (subst_scope_expr k by) es) (subst_scope k by r))
        (and_then_keeps (λ columns. within_limits (types_of_each es columns (extended context k types))) (λ columns. within_limits (types_of_each (map (subst_scope_expr k by) es) columns context)) (before context types r) (after context r) source
        (λ columns. strict_keeps within_limits refl (types_of_each es columns (extended context k types)) (types_of_each (map (subst_scope_expr k by) es) columns context) (exprs_keep context types columns known es)));
    filter = λ e r x c context types known.
        let source = x (sym (fold-Filter Bool (captures_step k by) e r) ∙ c) context types known in
        kept_by (types_under-Filter (extended context k types) e r) (ap (typing context) (fold-Filter Rel (subst_scope_step k by) e r ∙ rolls-Filter (subst_scope_expr k by e) (subst_scope k by r)) ∙ types_under-Filter context (subst_scope_expr k by e) (subst_scope k by r))
        (and_then_keeps (λ columns. allowed (is_of Truth (type_under e columns (extended context k types))) columns) (λ columns. allowed (is_of Truth (type_under (subst_scope_expr k by e) columns context)) columns) (before context types r) (after context r) source
        (λ columns. test_keeps context types columns known e));
    join = λ e r s x y c context types known.
        let none = or_parts (captures k by r) (captures k by s) (sym (fold-Join Bool (captures_step k by) e r s) ∙ c) in
        let left = x none.0 context types known in
        let right = y none.1 context types known in
        let last = both_keep (λ t ts. t ∷ ts) (before context types s) (Some []) (after context s) (Some []) right (λ ts is. is) in
        let both = both_keep (λ t ts. t ∷ ts) (before context types r) (each (before context types s ∷ [])) (after context r) (each (after context s ∷ [])) left last in
        let columns_keep = strict_keeps (λ (o : Option (List (List Ty))). within_limits (option_map (λ all. flat_map (λ types. types) all) o)) refl (each (before context types r ∷ before context types s ∷ [])) (each (after context r ∷ after context s ∷ [])) both in
        kept_by (types_under-Join (extended context k types) e r s) (ap (typing context) (fold-Join Rel (subst_scope_step k by) e r s ∙ rolls-Join (subst_scope_expr k by e) (subst_scope k by r) (subst_scope k by s)) ∙ types_under-Join context (subst_scope_expr k by e) (subst_scope k by r) (subst_scope k by s))
        (and_then_keeps (λ columns. allowed (is_of Truth (type_under e columns (extended context k types))) columns) (λ columns. allowed (is_of Truth (type_under (subst_scope_expr k by e) columns context)) columns) (cross_types (before context types r ∷ before context types s ∷ [])) (cross_types (after context r ∷ after context s ∷ [])) columns_keep
        (λ columns. test_keeps context types columns known e));
    depjoin = λ j r s x y c context types known.
        let none = or_parts (captured_by k by j) (captures k by r || captures k by s) (sym (fold-DepJoin Bool (captures_step k by) j r s) ∙ c) in
        let parts = or_parts (captures k by r) (captures k by s) none.1 in
        kept_by (types_under-DepJoin (extended context k types) j r s) (ap (typing context) (fold-DepJoin Rel (subst_scope_step k by) j r s ∙ rolls-DepJoin j (subst_scope k by r) (subst_scope k by s)) ∙ types_under-DepJoin context j (subst_scope k by r) (subst_scope k by s))
        (and_then_keeps (λ columns. types_under s (extended (extended context k types) j columns)) (λ columns. types_under (subst_scope k by s) (extended context j columns)) (before context types r) (after context r) (x parts.0 context types known)
        (body_keeps j s y none.0 parts.1 context types known));
    group = λ ks aggs r x c context types known.
        let source = x (sym (fold-Group Bool (captures_step k by) ks aggs r) ∙ c) context types known in
        kept_by (types_under-Group (extended context k types) ks aggs r) (ap (typing context) (fold-Group Rel (subst_scope_step k by) ks aggs r ∙ rolls-Group ks aggs (subst_scope k by r)) ∙ types_under-Group context ks aggs (subst_scope k by r))
        (strict_keeps (option_and_then (λ columns. group_types ks aggs columns)) refl (before context types r) (after context r) source);
    order = λ ks r x c context types known.
        let source = x (sym (fold-Order Bool (captures_step k by) ks r) ∙ c) context types known in
        kept_by (types_under-Order (extended context k types) ks r) (ap (typing context) (fold-Order Rel (subst_scope_step k by) ks r ∙ rolls-Order ks (subst_scope k by r)) ∙ types_under-Order context ks (subst_scope k by r))
        (strict_keeps (option_and_then (λ columns. allowed (are_sorting_keys ks columns) columns)) refl (before context types r) (after context r) source);
    dedup = λ r x c context types known.
        let source = x (sym (fold-Dedup Bool (captures_step k by) r) ∙ c) context types known in
        kept_by (types_under-Dedup (extended context k types) r) (ap (typing context) (fold-Dedup Rel (subst_scope_step k by) r ∙ rolls-Dedup (subst_scope k by r)) ∙ types_under-Dedup context (subst_scope k by r)) source;
    list = λ j r s x y c context types known.
        let none = or_parts (captured_by k by j) (captures k by r || captures k by s) (sym (fold-List Bool (captures_step k by) j r s) ∙ c) in
        let parts = or_parts (captures k by r) (captures k by s) none.1 in
        kept_by (types_under-List (extended context k types) j r s) (ap (typing context) (fold-List Rel (subst_scope_step k by) j r s ∙ rolls-List j (subst_scope k by r) (subst_scope k by s)) ∙ types_under-List context j (subst_scope k by r) (subst_scope k by s))
        (and_then_keeps (λ columns. types_under s (extended (extended context k types) j columns)) (λ columns. types_under (subst_scope k by s) (extended context j columns)) (before context types r) (after context r) (x parts.0 context types known)
        (body_keeps j s y none.0 parts.1 context types known));
    hash = λ j r s es x y c context types known.
        let none = or_parts (captured_by k by j) (captures k by r || captures k by s) (sym (fold-Hash Bool (captures_step k by) j r s es) ∙ c) in
        let parts = or_parts (captures k by r) (captures k by s) none.1 in
        let keys = exprs_keep context types [] known es in
        kept_by (types_under-Hash (extended context k types) j r s es) (ap (typing context) (fold-Hash Rel (subst_scope_step k by) j r s es ∙ rolls-Hash j (subst_scope k by r) (subst_scope k by s) (map (subst_scope_expr k by) es)) ∙ types_under-Hash context j (subst_scope k by r) (subst_scope k by s) (map (subst_scope_expr k by) es))
        (and_then_keeps (λ columns. if are_hash_keys columns (types_of_each es [] (extended context k types)) then types_under s (extended (extended context k types) j columns) else None) (λ columns. if are_hash_keys columns (types_of_each (map (subst_scope_expr k by) es) [] context) then types_under (subst_scope k by s) (extended context j columns) else None) (before context types r) (after context r) (x parts.0 context types known)
        (λ columns. if_keeps (are_hash_keys columns (types_of_each es [] (extended context k types))) (are_hash_keys columns (types_of_each (map (subst_scope_expr k by) es) [] context)) (types_under s (extended (extended context k types) j columns)) (types_under (subst_scope k by s) (extended context j columns))
        (hash_keys_keep columns (types_of_each es [] (extended context k types)) (types_of_each (map (subst_scope_expr k by) es) [] context) keys) (body_keeps j s y none.0 parts.1 context types known columns)));
    ordered = λ j r s lo hi x y c context types known.
        let none = or_parts (captured_by k by j) (captures k by r || captures k by s) (sym (fold-Ord Bool (captures_step k by) j r s lo hi) ∙ c) in
        let parts = or_parts (captures k by r) (captures k by s) none.1 in
        kept_by (types_under-Ord (extended context k types) j r s lo hi) (ap (typing context) (fold-Ord Rel (subst_scope_step k by) j r s lo hi ∙ rolls-Ord j (subst_scope k by r) (subst_scope k by s) (subst_scope_bound k by lo) (subst_scope_bound k by hi)) ∙ types_under-Ord context j (subst_scope k by r) (subst_scope k by s) (subst_scope_bound k by lo) (subst_scope_bound k by hi))
        (and_then_keeps (λ columns. if is_range columns lo hi (extended context k types) then types_under s (extended (extended context k types) j columns) else None) (λ columns. if is_range columns (subst_scope_bound k by lo) (subst_scope_bound k by hi) context then types_under (subst_scope k by s) (extended context j columns) else None) (before context types r) (after context r) (x parts.0 context types known)
        (λ columns. if_keeps (is_range columns lo hi (extended context k types)) (is_range columns (subst_scope_bound k by lo) (subst_scope_bound k by hi) context) (types_under s (extended (extended context k types) j columns)) (types_under (subst_scope k by s) (extended context j columns))
        (range_keeps context types known columns lo hi) (body_keeps j s y none.0 parts.1 context types known columns)));
  }

-- expressions that have types over no columns have them over all
closed_have_types : (by : List Expr) (context : Context) (types : List Ty) → types_of_each by [] context ≡ Some types → HaveTypes by context types
closed_have_types by context types known columns = types_without_columns by (each_closed_is_column_free by context types known) columns [] context ∙ known

-- a context is within limits that is where one scope more is bound
narrowed : (context : Context) (k : ℕ) (types : List Ty) → is_context (extended context k types) ≡ true → is_context context ≡ true
narrowed context k types within =
    let parts = and_parts (list_all are_columns context.tables) (list_all (λ entry. are_columns entry.1) (context.scopes ++ (k, types) ∷ [])) within in
    let scopes = and_parts (list_all (λ entry. are_columns entry.1) context.scopes) (list_all (λ (entry : ℕ × List Ty). are_columns entry.1) ((k, types) ∷ [])) (sym (list_all-append (λ (entry : ℕ × List Ty). are_columns entry.1) context.scopes ((k, types) ∷ [])) ∙ parts.1) in
    and_from (list_all are_columns context.tables) (list_all (λ entry. are_columns entry.1) context.scopes) parts.0 scopes.0

module _ (k : ℕ) (by : List Expr) (q : Rel) where
  pub scope_has_column_types : ScopeHasColumnTypes k by q
  scope_has_column_types none context types known columns typed =
      let parts = if_parts (is_context (extended context k types)) (types_under q (extended context k types)) columns typed in
      ap (λ (b : Bool). if b then types_under (subst_scope k by q) context else None) (narrowed context k types parts.0)
      ∙ scope_has_types k by q none context types (closed_have_types by context types known) columns parts.1

  pub scope_is_typed : ScopeIsTyped k by q
  scope_is_typed none context types known typed =
      let parts = well_typed_parts (is_context (extended context k types)) (types_under q (extended context k types)) typed in
      typed_from (is_context context) (types_under (subst_scope k by q) context) parts.1.0 (narrowed context k types parts.0)
      (scope_has_types k by q none context types (closed_have_types by context types known) parts.1.0 parts.1.1)
