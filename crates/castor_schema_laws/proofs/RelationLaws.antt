-- A relation that isn't refused is well typed, with 1 to 64 columns, and as large as its tree of names.
use Rattle.std.proofs.Common.{◌≡◌, ◌∙◌, ℕ, ◌+◌, ◌<◌, ◌≤◌, max, arith, refl, sym, ap, subst, List, [], ◌∷◌, ◌++◌, map, length, Bool, true, false, ◌&&◌, not, Option, Some, None, Result, Ok, Err, slice_get, nat_lt, nat_le, option_and_then, option_map}
use Rattle.std.specs.List.{flat_map, list_all}
use Rattle.std.specs.Prelude.{if◌then◌else◌, fold, sum}
use Rattle.std.specs.Cmp.Lexicographic.{pointwise}
use Rattle.std.proofs.lemmas.Bool.{le-leb, ltb-false}
use Rattle.std.proofs.lemmas.List.{append-nil, length-append, length-map, map-append, map_push}
use Rattle.std.proofs.lemmas.List.Folds.{list_all-append, list_all-map}
use Rattle.std.proofs.lemmas.List.Sums.{fold-append}
use Rattle.std.proofs.lemmas.Grind.{flat_map-append}
use Rattle.castor_val.specs.declared.value.Ty.{Ty}
use Rattle.castor_val.specs.declared.value.Ty.TheVariants as ty
use Rattle.castor_alg.specs.declared.context.Context.{Context}
use Rattle.castor_alg.specs.declared.rel.Rel.{Rel}
use Rattle.castor_alg.specs.declared.rel.Rel as core
use Rattle.castor_alg.specs.Sizes.{depth, depth_step, nodes, nodes_step}
use Rattle.castor_alg.specs.Typing.{RelTyping, allowed, are_columns, column_types_step, common_types, cross_types, each, same_type, same_types, types_under, within_limits}
use Rattle.castor_alg.proofs.RelInduction as algebra
use Rattle.castor_tree.specs.declared.tree.Item.{Item}
use Rattle.castor_tree.specs.declared.tree.PAgg.{PAgg}
use Rattle.castor_tree.specs.declared.tree.PBound.{PBound}
use Rattle.castor_tree.specs.declared.tree.PCol.{PCol}
use Rattle.castor_tree.specs.declared.tree.PExpr.{PExpr}
use Rattle.castor_tree.specs.declared.tree.PRel.{PRel}
use Rattle.castor_tree.specs.declared.tree.PRel as R
use Rattle.castor_tree.specs.declared.tree.PRel.TheOpen as F
use Rattle.castor_tree.specs.declared.tree.Word.{Word}
use Rattle.castor_tree.specs.Formed.{are_true, formed_step, has_some, is_agg_formed, is_bound_formed, is_col, is_expr_formed, is_formed, is_item_formed, is_key_formed, is_word}
use Rattle.castor_tree.specs.Sizes as names
use Rattle.castor_names.proofs.Outcomes.{Through, left_true, ok_same, right_true, through, unless}
use Rattle.castor_names.specs.Names.{types_of}
use Rattle.castor_names.specs.Turns.{and_then, in_order}
use Rattle.castor_names.specs.declared.column.NamedColumn.{NamedColumn}
use Rattle.castor_names.specs.declared.declarations.Declarations.{Declarations}
use Rattle.castor_names.specs.declared.error.SchemaError.{SchemaError}
use Rattle.castor_names.specs.declared.error.SchemaError.TheVariants.{TypeMismatch, WrongCount}
use Rattle.castor_names.specs.declared.scopes.Scope.{Scope}
use Rattle.castor_exprs.specs.Groups.{grouping_found, sorting_keys}
use Rattle.castor_exprs.specs.Bounds.{range_found}
use Rattle.castor_exprs.specs.Indexes.{index_keys}
use Rattle.castor_exprs.specs.declared.bounds.TypedRange.{TypedRange}
use Rattle.castor_exprs.specs.declared.groups.Grouping.{Grouping}
use Rattle.castor_operators.proofs.RelInduction.{RelCases, With, fold-Concat, fold-Cross, fold-Dedup, fold-DepJoin, fold-Filter, fold-Group, fold-Hash, fold-Join, fold-List, fold-Ord, fold-Order, fold-Scalar, fold-Select, fold-Table, rel_induction, relations}
use Rattle.castor_operators.specs.Operators.{concatenated, deduped, depjoined, filtered, first_columns, grouped, grouped_by, hashed, hashed_by, joined, limited, listed, order_by, order_by_keys, ordered, ordered_by, same_column_types, same_widths, selected}
use Rattle.castor_operators.specs.Relations.{Finding, binding_of, bound_over, relation, relation_step, scope_over, with_crossed, with_operand}
use Rattle.castor_operators.specs.declared.found.Found.{Found}
use Rattle.castor_operators.specs.declared.binders.Binding.{Binding}
use Rattle.castor_operators.specs.declared.operands.Crossing.{Crossing}
use Rattle.castor_operators.specs.declared.operands.Operands.{Operands}
use Rattle.castor_schema_laws.proofs.Contexts.{InForce, context_in, in_force-more}
use Rattle.castor_schema_laws.proofs.FoundLaws.{AreKnown, IsBinding, IsFound, deduped-found, depjoined-found, filtered-found, found_sized, grouped-found, hashed-found, joined-found, listed-found, made, made_limited, order_by-found, ordered-found, scalar-found, selected-found, table-found, true_from_not, wide_some}
use Rattle.castor_schema_laws.proofs.Gathered.{added, deepened, each-more}

-- what holds of each relation
abbrev pub Means : PRel → Type 0
Means q = (known : Declarations) (scopes : List Scope) (next : ℕ) (found : Found) → AreKnown known → InForce next scopes → is_formed q ≡ true → relation q known scopes next ≡ Ok found
    → IsFound (context_in known scopes) next (names.nodes q) (names.depth q) found

-- the list has a member
some_length : {X : Type 0} (xs : List X) → has_some xs ≡ true → 0 < length xs
some_length [] is = absurd cc
some_length (x ∷ xs) is = omega arith

some_of_map : {X Y : Type 0} (f : X → Y) (xs : List X) → has_some (map f xs) ≡ true → 0 < length xs
some_of_map f [] is = absurd cc
some_of_map f (x ∷ xs) is = omega arith

typed_each : (context : Context) (rs : List Rel) → map (λ (r : RelTyping). r context) (map types_under rs) ≡ map (λ r. types_under r context) rs
typed_each context [] = refl
typed_each context (r ∷ rs) = ap (λ os. types_under r context ∷ os) (typed_each context rs)

abbrev flat : List (List Ty) → List Ty
flat types = flat_map (λ types. types) types

flat_push : (types : List (List Ty)) (more : List Ty) → flat (types ++ more ∷ []) ≡ flat types ++ more
flat_push types more = flat_map-append (λ types. types) types (more ∷ []) ∙ ap (λ (ts : List Ty). flat types ++ ts) (append-nil more)

-- the nodes and depths of a list of relations, and one more
nodes_push : (rs : List Rel) (r : Rel) → sum (map nodes (rs ++ r ∷ [])) ≡ sum (map nodes rs) + nodes r
nodes_push rs r = ap (added 0) (map_push nodes rs r) ∙ fold-append (λ a x. a + x) 0 (map nodes rs) (nodes r ∷ [])

depth_push : (rs : List Rel) (r : Rel) → fold max 0 (map depth (rs ++ r ∷ [])) ≡ max (fold max 0 (map depth rs)) (depth r)
depth_push rs r = ap (deepened 0) (map_push depth rs r) ∙ fold-append max 0 (map depth rs) (depth r ∷ [])

module _ (known : Declarations) (scopes : List Scope) (are : AreKnown known) (first : ℕ) (force : InForce first scopes) where
  abbrev here : Context
  here = context_in known scopes

  -- the operands of a cross so far
  record AreCrossed (n d : ℕ) (all : Crossing) : Type 0 where
    types : List (List Ty)
    typed : each (map (λ r. types_under r here) all.queries) ≡ Some types
    columns : flat types ≡ types_of all.columns
    nodes : sum (map nodes all.queries) ≡ n
    depth : fold max 0 (map depth all.queries) ≡ d
    next : first ≤ all.next
    some : 0 < length all.queries → 0 < length all.columns

  crossed-more : (n d : ℕ) (start more : Crossing) (r : PRel) → Means r → is_formed r ≡ true → AreCrossed n d start → with_crossed known scopes start (relation r) ≡ Ok more
      → AreCrossed (n + names.nodes r) (max d (names.depth r)) more × (length more.queries ≡ length start.queries + 1)
  unfolding with_crossed
  crossed-more n d start more r means formed so_far is =
      let f = through (relation r known scopes start.next) (λ (found : Found). Ok (record { queries = start.queries ++ found.query ∷ []; columns = start.columns ++ found.columns; next = found.next })) more is in
      let t = means known scopes start.next f.first are (in_force-more first start.next scopes so_far.next force) formed f.is in
      let e : record { queries = start.queries ++ f.first.query ∷ []; columns = start.columns ++ f.first.columns; next = f.first.next } ≡ more = ok_same _ _ f.rest in (
        subst (AreCrossed (n + names.nodes r) (max d (names.depth r))) e (record {
          types = so_far.types ++ types_of f.first.columns ∷ [];
          typed = each-more (λ r. types_under r here) start.queries f.first.query so_far.types (types_of f.first.columns) so_far.typed t.typed;
          columns = flat_push so_far.types (types_of f.first.columns) ∙ ap (λ (ts : List Ty). ts ++ types_of f.first.columns) so_far.columns ∙ sym (map-append (λ (c : NamedColumn). c.ty) start.columns f.first.columns);
          nodes = nodes_push start.queries f.first.query ∙ (λ i. so_far.nodes i + t.nodes i);
          depth = depth_push start.queries f.first.query ∙ (λ i. max (so_far.depth i) (t.depth i));
          next = (let a = so_far.next in let b = t.next in omega arith);
          some = λ more. (let a = wide_some f.first.columns t.wide in let b = length-append start.columns f.first.columns in omega arith);
        }),
        ap (λ (c : Crossing). length c.queries) (sym e) ∙ length-append start.queries (f.first.query ∷ []),
      )

  crossed-all : (rs : List (With Means)) (n d : ℕ) (start all : Crossing) → are_true (map is_formed (relations rs)) ≡ true → AreCrossed n d start
      → in_order (with_crossed known scopes) start (map relation (relations rs)) ≡ Ok all
      → AreCrossed (added n (map names.nodes (relations rs))) (deepened d (map names.depth (relations rs))) all × (length all.queries ≡ length start.queries + length (relations rs))
  crossed-all [] n d start all formed so_far is =
      let e = ok_same _ _ is in
      (subst (AreCrossed n d) e so_far, ap (λ (c : Crossing). length c.queries) (sym e) ∙ sym (omega arith))
  crossed-all (r ∷ rs) n d start all formed so_far is =
      let f = through (with_crossed known scopes start (relation r.0)) (λ more. in_order (with_crossed known scopes) more (map relation (relations rs))) all is in
      let one = crossed-more n d start f.first r.0 r.1 (left_true (is_formed r.0) (are_true (map is_formed (relations rs))) formed) so_far f.is in
      let rest = crossed-all rs (n + names.nodes r.0) (max d (names.depth r.0)) f.first all (right_true (is_formed r.0) (are_true (map is_formed (relations rs))) formed) one.0 f.rest in
      (rest.0, let a = one.1 in let b = rest.1 in omega arith)

  crossed-found : (rs : List (With Means)) (all : Crossing) (found : Found) → 0 < length (relations rs) → are_true (map is_formed (relations rs)) ≡ true
      → in_order (with_crossed known scopes) (record { queries = []; columns = []; next = first }) (map relation (relations rs)) ≡ Ok all → limited (core.Cross all.queries) all.columns all.next ≡ Ok found
      → IsFound here first (1 + sum (map names.nodes (relations rs))) (1 + names.deepest (map names.depth (relations rs))) found
  crossed-found rs all found some formed is rest =
      let start : AreCrossed 0 0 (record { queries = []; columns = []; next = first }) = record { types = []; typed = refl; columns = refl; nodes = refl; depth = refl; next = omega arith; some = λ none. absurd (omega arith) } in
      let found_all = crossed-all rs 0 0 (record { queries = []; columns = []; next = first }) all formed start is in
      let c = found_all.0 in
      let has : 0 < length all.queries = (let n = found_all.1 in omega arith) in
      made_limited here (core.Cross all.queries) all.columns all.next first (1 + sum (map names.nodes (relations rs))) (1 + names.deepest (map names.depth (relations rs))) found
      (ap (λ (m : RelTyping). m here) (algebra.fold-Cross RelTyping column_types_step all.queries)
      ∙ ap cross_types (typed_each here all.queries)
      ∙ ap (λ (o : Option (List (List Ty))). within_limits (option_map (λ all. flat_map (λ types. types) all) o)) c.typed
      ∙ ap (λ (ts : List Ty). within_limits (Some ts)) c.columns)
      (c.some has)
      (algebra.fold-Cross ℕ nodes_step all.queries ∙ ap (λ (k : ℕ). 1 + k) c.nodes)
      (algebra.fold-Cross ℕ depth_step all.queries ∙ ap (λ (k : ℕ). 1 + k) c.depth)
      c.next rest

  -- the operands of a concat so far
  record AreOperands (n d : ℕ) (all : Operands) : Type 0 where
    typed : each (map (λ r. types_under r here) all.queries) ≡ Some (map types_of all.columns)
    wide : list_all (λ columns. are_columns (types_of columns)) all.columns ≡ true
    nodes : sum (map nodes all.queries) ≡ n
    depth : fold max 0 (map depth all.queries) ≡ d
    next : first ≤ all.next

  operands-more : (n d : ℕ) (start more : Operands) (r : PRel) → Means r → is_formed r ≡ true → AreOperands n d start → with_operand known scopes start (relation r) ≡ Ok more
      → AreOperands (n + names.nodes r) (max d (names.depth r)) more × (length more.columns ≡ length start.columns + 1)
  unfolding with_operand
  operands-more n d start more r means formed so_far is =
      let f = through (relation r known scopes start.next) (λ (found : Found). Ok (record { queries = start.queries ++ found.query ∷ []; columns = start.columns ++ found.columns ∷ []; next = found.next })) more is in
      let t = means known scopes start.next f.first are (in_force-more first start.next scopes so_far.next force) formed f.is in
      let e : record { queries = start.queries ++ f.first.query ∷ []; columns = start.columns ++ f.first.columns ∷ []; next = f.first.next } ≡ more = ok_same _ _ f.rest in (
        subst (AreOperands (n + names.nodes r) (max d (names.depth r))) e (record {
          typed = each-more (λ r. types_under r here) start.queries f.first.query (map types_of start.columns) (types_of f.first.columns) so_far.typed t.typed ∙ ap Some (sym (map_push types_of start.columns f.first.columns));
          wide = list_all-append (λ columns. are_columns (types_of columns)) start.columns (f.first.columns ∷ []) ∙ (λ i. so_far.wide i && (t.wide i && true));
          nodes = nodes_push start.queries f.first.query ∙ (λ i. so_far.nodes i + t.nodes i);
          depth = depth_push start.queries f.first.query ∙ (λ i. max (so_far.depth i) (t.depth i));
          next = (let a = so_far.next in let b = t.next in omega arith);
        }),
        ap (λ (c : Operands). length c.columns) (sym e) ∙ length-append start.columns (f.first.columns ∷ []),
      )

  operands-all : (rs : List (With Means)) (n d : ℕ) (start all : Operands) → are_true (map is_formed (relations rs)) ≡ true → AreOperands n d start
      → in_order (with_operand known scopes) start (map relation (relations rs)) ≡ Ok all
      → AreOperands (added n (map names.nodes (relations rs))) (deepened d (map names.depth (relations rs))) all × (length all.columns ≡ length start.columns + length (relations rs))
  operands-all [] n d start all formed so_far is =
      let e = ok_same _ _ is in
      (subst (AreOperands n d) e so_far, ap (λ (c : Operands). length c.columns) (sym e) ∙ sym (omega arith))
  operands-all (r ∷ rs) n d start all formed so_far is =
      let f = through (with_operand known scopes start (relation r.0)) (λ more. in_order (with_operand known scopes) more (map relation (relations rs))) all is in
      let one = operands-more n d start f.first r.0 r.1 (left_true (is_formed r.0) (are_true (map is_formed (relations rs))) formed) so_far f.is in
      let rest = operands-all rs (n + names.nodes r.0) (max d (names.depth r.0)) f.first all (right_true (is_formed r.0) (are_true (map is_formed (relations rs))) formed) one.0 f.rest in
      (rest.0, let a = one.1 in let b = rest.1 in omega arith)

  -- operands of the same column types have those of the first
  common : (columns : List (List NamedColumn)) → 0 < length columns → same_column_types columns ≡ true → common_types (map types_of columns) ≡ Some (types_of (first_columns columns))
  common [] some same = absurd (omega arith)
  common (c ∷ columns) some same =
      let all = list_all-map (λ types. same_types (types_of c) types) types_of (c ∷ columns) ∙ same in
      ap (λ (b : Bool). allowed b (types_of c)) all

  first_wide : (columns : List (List NamedColumn)) → 0 < length columns → list_all (λ columns. are_columns (types_of columns)) columns ≡ true → are_columns (types_of (first_columns columns)) ≡ true
  first_wide [] some wide = absurd (omega arith)
  first_wide (c ∷ columns) some wide = left_true (are_columns (types_of c)) (list_all (λ columns. are_columns (types_of columns)) columns) wide

  concat-found : (rs : List (With Means)) (all : Operands) (found : Found) → 0 < length (relations rs) → are_true (map is_formed (relations rs)) ≡ true
      → in_order (with_operand known scopes) (record { queries = []; columns = []; next = first }) (map relation (relations rs)) ≡ Ok all → concatenated all ≡ Ok found
      → IsFound here first (1 + sum (map names.nodes (relations rs))) (1 + names.deepest (map names.depth (relations rs))) found
  unfolding concatenated
  concat-found rs all found some formed is rest =
      let start : AreOperands 0 0 (record { queries = []; columns = []; next = first }) = record { typed = refl; wide = refl; nodes = refl; depth = refl; next = omega arith } in
      let found_all = operands-all rs 0 0 (record { queries = []; columns = []; next = first }) all formed start is in
      let c = found_all.0 in
      let has : 0 < length all.columns = (let n = found_all.1 in omega arith) in
      let f = unless (not (same_widths all.columns)) WrongCount
      (if not (same_column_types all.columns) then Err TypeMismatch else Ok (record { query = core.Concat all.queries; columns = first_columns all.columns; next = all.next })) found rest in
      let g = unless (not (same_column_types all.columns)) TypeMismatch (Ok (record { query = core.Concat all.queries; columns = first_columns all.columns; next = all.next })) found f.rest in
      made here (core.Concat all.queries) (first_columns all.columns) all.next first (1 + sum (map names.nodes (relations rs))) (1 + names.deepest (map names.depth (relations rs))) found
      (ap (λ (m : RelTyping). m here) (algebra.fold-Concat RelTyping column_types_step all.queries)
      ∙ ap (λ os. option_and_then common_types (each os)) (typed_each here all.queries)
      ∙ ap (option_and_then common_types) c.typed
      ∙ common all.columns has (true_from_not (same_column_types all.columns) g.passes))
      (first_wide all.columns has c.wide)
      (algebra.fold-Concat ℕ nodes_step all.queries ∙ ap (λ (k : ℕ). 1 + k) c.nodes)
      (algebra.fold-Concat ℕ depth_step all.queries ∙ ap (λ (k : ℕ). 1 + k) c.depth)
      c.next g.rest

  -- a binder
  bound-found : (r s : PRel) (name : List ℕ) (from : Found) (b : Binding) → Means r → Means s → is_formed r ≡ true → is_formed s ≡ true → relation r known scopes (first + 1) ≡ Ok from
      → bound_over (relation s) name known scopes first from ≡ Ok b → IsBinding here first (names.nodes r) (names.nodes s) (names.depth r) (names.depth s) b
  unfolding bound_over binding_of
  bound-found r s name from b mr ms formed_r formed_s is_from is =
      let source = mr known scopes (first + 1) from are (in_force-more first (first + 1) scopes (omega arith) force) formed_r is_from in
      let g = through (relation s known (scope_over first name from ∷ scopes) from.next) (λ body. binding_of (scope_over first name from) from.query body) b is in
      let body = ms known (scope_over first name from ∷ scopes) from.next g.first are ((let a = source.next in omega arith), force) formed_s g.is in
      let e : record { number = first; source = from.query; columns = from.columns; body = g.first } ≡ b = ok_same _ _ g.rest in
      subst (IsBinding here first (names.nodes r) (names.nodes s) (names.depth r) (names.depth s)) e (record {
        source = source.typed;
        body = body.typed;
        wide = body.wide;
        source_nodes = source.nodes;
        body_nodes = body.nodes;
        source_depth = source.depth;
        body_depth = body.depth;
        next = (let a = source.next in let c = body.next in omega arith);
      })

-- each operator
abbrev meaning : Declarations → List Scope → ℕ → Finding → Result Found SchemaError
meaning known scopes next m = m known scopes next

table_means : (w : Word) → Means (R.Table w)
table_means w known scopes next found are force formed is =
    found_sized (context_in known scopes) next 1 (names.nodes (R.Table w)) 1 (names.depth (R.Table w)) found
    (table-found known scopes next force w.text found are (sym (ap (meaning known scopes next) (fold-Table Finding relation_step w)) ∙ is))
    (sym (fold-Table ℕ names.nodes_step w)) (sym (fold-Table ℕ names.depth_step w))

scalar_means : (item : Item) → Means (R.Scalar item)
scalar_means item known scopes next found are force formed is =
    found_sized (context_in known scopes) next (1 + names.item_nodes item) (names.nodes (R.Scalar item)) (1 + names.item_depth item) (names.depth (R.Scalar item)) found
    (scalar-found known scopes next force item found (sym (ap (meaning known scopes next) (fold-Scalar Finding relation_step item)) ∙ is))
    (sym (fold-Scalar ℕ names.nodes_step item)) (sym (fold-Scalar ℕ names.depth_step item))

cross_means : (rs : List (With Means)) → Means (R.Cross (relations rs))
cross_means rs known scopes next found are force formed is =
    let ps = relations rs in
    let f = through (in_order (with_crossed known scopes) (record { queries = []; columns = []; next = next }) (map relation ps)) (λ (all : Crossing). limited (core.Cross all.queries) all.columns all.next) found
    (sym (ap (meaning known scopes next) (fold-Cross Finding relation_step ps)) ∙ is) in
    let parts = sym (fold-Cross Bool formed_step ps) ∙ formed in
    found_sized (context_in known scopes) next (1 + sum (map names.nodes ps)) (names.nodes (R.Cross ps)) (1 + names.deepest (map names.depth ps)) (names.depth (R.Cross ps)) found
    (crossed-found known scopes are next force rs f.first found
    (some_of_map is_formed ps (left_true (has_some (map is_formed ps)) (are_true (map is_formed ps)) parts))
    (right_true (has_some (map is_formed ps)) (are_true (map is_formed ps)) parts) f.is f.rest)
    (sym (fold-Cross ℕ names.nodes_step ps)) (sym (fold-Cross ℕ names.depth_step ps))

concat_means : (rs : List (With Means)) → Means (R.Concat (relations rs))
concat_means rs known scopes next found are force formed is =
    let ps = relations rs in
    let f = through (in_order (with_operand known scopes) (record { queries = []; columns = []; next = next }) (map relation ps)) (λ (all : Operands). concatenated all) found
    (sym (ap (meaning known scopes next) (fold-Concat Finding relation_step ps)) ∙ is) in
    let parts = sym (fold-Concat Bool formed_step ps) ∙ formed in
    found_sized (context_in known scopes) next (1 + sum (map names.nodes ps)) (names.nodes (R.Concat ps)) (1 + names.deepest (map names.depth ps)) (names.depth (R.Concat ps)) found
    (concat-found known scopes are next force rs f.first found
    (some_of_map is_formed ps (left_true (has_some (map is_formed ps)) (are_true (map is_formed ps)) parts))
    (right_true (has_some (map is_formed ps)) (are_true (map is_formed ps)) parts) f.is f.rest)
    (sym (fold-Concat ℕ names.nodes_step ps)) (sym (fold-Concat ℕ names.depth_step ps))

select_means : (items : List Item) (r : PRel) → Means r → Means (R.Select items r)
select_means items r mr known scopes next found are force formed is =
    let f = through (relation r known scopes next) (λ from. selected known scopes items from) found (sym (ap (meaning known scopes next) (fold-Select Finding relation_step items r)) ∙ is) in
    let parts = sym (fold-Select Bool formed_step items r) ∙ formed in
    let rest = right_true (has_some items) (list_all is_item_formed items && is_formed r) parts in
    let operand = mr known scopes next f.first are force (right_true (list_all is_item_formed items) (is_formed r) rest) f.is in
    found_sized (context_in known scopes) next (1 + (names.all_nodes names.item_nodes items + names.nodes r)) (names.nodes (R.Select items r)) (1 + max (names.deepest (map names.item_depth items)) (names.depth r)) (names.depth (R.Select items r)) found
    (selected-found known scopes next force next (names.nodes r) (names.depth r) f.first operand items found (some_length items (left_true (has_some items) (list_all is_item_formed items && is_formed r) parts)) f.rest)
    (sym (fold-Select ℕ names.nodes_step items r)) (sym (fold-Select ℕ names.depth_step items r))

filter_means : (e : PExpr) (r : PRel) → Means r → Means (R.Filter e r)
filter_means e r mr known scopes next found are force formed is =
    let f = through (relation r known scopes next) (λ from. filtered known scopes e from) found (sym (ap (meaning known scopes next) (fold-Filter Finding relation_step e r)) ∙ is) in
    let parts = sym (fold-Filter Bool formed_step e r) ∙ formed in
    let operand = mr known scopes next f.first are force (right_true (is_expr_formed e) (is_formed r) parts) f.is in
    found_sized (context_in known scopes) next (1 + (names.expr_nodes e + names.nodes r)) (names.nodes (R.Filter e r)) (1 + max (names.expr_depth e) (names.depth r)) (names.depth (R.Filter e r)) found
    (filtered-found known scopes next force next (names.nodes r) (names.depth r) f.first operand e found f.rest)
    (sym (fold-Filter ℕ names.nodes_step e r)) (sym (fold-Filter ℕ names.depth_step e r))

join_means : (e : PExpr) (r s : PRel) → Means r → Means s → Means (R.Join e r s)
join_means e r s mr ms known scopes next found are force formed is =
    let f = through (relation r known scopes next) (λ (left : Found). and_then (relation s known scopes left.next) (λ right. joined known scopes e left right)) found
    (sym (ap (meaning known scopes next) (fold-Join Finding relation_step e r s)) ∙ is) in
    let g = through (relation s known scopes f.first.next) (λ right. joined known scopes e f.first right) found f.rest in
    let parts = right_true (is_expr_formed e) (is_formed r && is_formed s) (sym (fold-Join Bool formed_step e r s) ∙ formed) in
    let left = mr known scopes next f.first are force (left_true (is_formed r) (is_formed s) parts) f.is in
    let right = ms known scopes f.first.next g.first are (in_force-more next f.first.next scopes left.next force) (right_true (is_formed r) (is_formed s) parts) g.is in
    found_sized (context_in known scopes) next (1 + (names.expr_nodes e + (names.nodes r + names.nodes s))) (names.nodes (R.Join e r s))
    (1 + max (names.expr_depth e) (max (names.depth r) (names.depth s))) (names.depth (R.Join e r s)) found
    (joined-found known scopes next force e (names.nodes r) (names.nodes s) (names.depth r) (names.depth s) f.first g.first found left right g.rest)
    (sym (fold-Join ℕ names.nodes_step e r s)) (sym (fold-Join ℕ names.depth_step e r s))

depjoin_means : (w : Word) (r s : PRel) → Means r → Means s → Means (R.DepJoin w r s)
depjoin_means w r s mr ms known scopes next found are force formed is =
    let a = through (relation r known scopes (next + 1)) (λ from. and_then (bound_over (relation s) w.text known scopes next from) (λ binding. depjoined binding)) found
    (sym (ap (meaning known scopes next) (fold-DepJoin Finding relation_step w r s)) ∙ is) in
    let f = through (bound_over (relation s) w.text known scopes next a.first) (λ binding. depjoined binding) found a.rest in
    let parts = right_true (is_word w) (is_formed r && is_formed s) (sym (fold-DepJoin Bool formed_step w r s) ∙ formed) in
    let binding = bound-found known scopes are next force r s w.text a.first f.first mr ms (left_true (is_formed r) (is_formed s) parts) (right_true (is_formed r) (is_formed s) parts) a.is f.is in
    found_sized (context_in known scopes) next (1 + (names.nodes r + names.nodes s)) (names.nodes (R.DepJoin w r s)) (1 + max (names.depth r) (names.depth s)) (names.depth (R.DepJoin w r s)) found
    (depjoined-found (context_in known scopes) next (names.nodes r) (names.nodes s) (names.depth r) (names.depth s) f.first binding found f.rest)
    (sym (fold-DepJoin ℕ names.nodes_step w r s)) (sym (fold-DepJoin ℕ names.depth_step w r s))

list_means : (w : Word) (r s : PRel) → Means r → Means s → Means (R.List w r s)
list_means w r s mr ms known scopes next found are force formed is =
    let a = through (relation r known scopes (next + 1)) (λ from. and_then (bound_over (relation s) w.text known scopes next from) (λ binding. listed binding)) found
    (sym (ap (meaning known scopes next) (fold-List Finding relation_step w r s)) ∙ is) in
    let f = through (bound_over (relation s) w.text known scopes next a.first) (λ binding. listed binding) found a.rest in
    let parts = right_true (is_word w) (is_formed r && is_formed s) (sym (fold-List Bool formed_step w r s) ∙ formed) in
    let binding = bound-found known scopes are next force r s w.text a.first f.first mr ms (left_true (is_formed r) (is_formed s) parts) (right_true (is_formed r) (is_formed s) parts) a.is f.is in
    found_sized (context_in known scopes) next (1 + (names.nodes r + names.nodes s)) (names.nodes (R.List w r s)) (1 + max (names.depth r) (names.depth s)) (names.depth (R.List w r s)) found
    (listed-found (context_in known scopes) next (names.nodes r) (names.nodes s) (names.depth r) (names.depth s) f.first binding found f.rest)
    (sym (fold-List ℕ names.nodes_step w r s)) (sym (fold-List ℕ names.depth_step w r s))

hash_means : (w : Word) (r s : PRel) (es : List PExpr) → Means r → Means s → Means (R.Hash w r s es)
unfolding hashed_by
hash_means w r s es mr ms known scopes next found are force formed is =
    let a = through (relation r known scopes (next + 1)) (λ from. and_then (bound_over (relation s) w.text known scopes next from) (λ binding. hashed_by known scopes es binding)) found
    (sym (ap (meaning known scopes next) (fold-Hash Finding relation_step w r s es)) ∙ is) in
    let f = through (bound_over (relation s) w.text known scopes next a.first) (λ binding. hashed_by known scopes es binding) found a.rest in
    let g = through (index_keys known scopes es) (λ keys. hashed f.first keys) found f.rest in
    let inside = is_formed s && (has_some es && list_all is_expr_formed es) in
    let parts = right_true (is_word w) (is_formed r && inside) (sym (fold-Hash Bool formed_step w r s es) ∙ formed) in
    let binding = bound-found known scopes are next force r s w.text a.first f.first mr ms (left_true (is_formed r) inside parts)
    (left_true (is_formed s) (has_some es && list_all is_expr_formed es) (right_true (is_formed r) inside parts)) a.is f.is in
    found_sized (context_in known scopes) next (1 + (names.nodes r + (names.nodes s + names.all_nodes names.expr_nodes es))) (names.nodes (R.Hash w r s es))
    (1 + max (names.depth r) (max (names.depth s) (names.deepest (map names.expr_depth es)))) (names.depth (R.Hash w r s es)) found
    (hashed-found known scopes next force (names.nodes r) (names.nodes s) (names.depth r) (names.depth s) f.first binding es g.first found g.is g.rest)
    (sym (fold-Hash ℕ names.nodes_step w r s es)) (sym (fold-Hash ℕ names.depth_step w r s es))

ordered_means : (w : Word) (r s : PRel) (lo hi : PBound) → Means r → Means s → Means (R.Ord w r s lo hi)
unfolding ordered_by
ordered_means w r s lo hi mr ms known scopes next found are force formed is =
    let a = through (relation r known scopes (next + 1)) (λ from. and_then (bound_over (relation s) w.text known scopes next from) (λ binding. ordered_by known scopes lo hi binding)) found
    (sym (ap (meaning known scopes next) (fold-Ord Finding relation_step w r s lo hi)) ∙ is) in
    let f = through (bound_over (relation s) w.text known scopes next a.first) (λ binding. ordered_by known scopes lo hi binding) found a.rest in
    let g = through (range_found known scopes lo hi) (λ range. ordered f.first range f.first.columns) found f.rest in
    let inside = is_formed s && (is_bound_formed lo && is_bound_formed hi) in
    let parts = right_true (is_word w) (is_formed r && inside) (sym (fold-Ord Bool formed_step w r s lo hi) ∙ formed) in
    let binding = bound-found known scopes are next force r s w.text a.first f.first mr ms (left_true (is_formed r) inside parts)
    (left_true (is_formed s) (is_bound_formed lo && is_bound_formed hi) (right_true (is_formed r) inside parts)) a.is f.is in
    found_sized (context_in known scopes) next (1 + (names.nodes r + (names.nodes s + (names.bound_nodes lo + names.bound_nodes hi)))) (names.nodes (R.Ord w r s lo hi))
    (1 + max (names.depth r) (max (names.depth s) (max (names.bound_depth lo) (names.bound_depth hi)))) (names.depth (R.Ord w r s lo hi)) found
    (ordered-found known scopes next force (names.nodes r) (names.nodes s) (names.depth r) (names.depth s) f.first binding lo hi g.first found g.is g.rest)
    (sym (fold-Ord ℕ names.nodes_step w r s lo hi)) (sym (fold-Ord ℕ names.depth_step w r s lo hi))

group_means : (keys : List PCol) (aggs : List (PAgg × Option Word)) (r : PRel) → Means r → Means (R.Group keys aggs r)
unfolding grouped
group_means keys aggs r mr known scopes next found are force formed is =
    let f = through (relation r known scopes next) (λ from. grouped keys aggs from) found
    (sym (ap (meaning known scopes next) (fold-Group Finding relation_step keys aggs r)) ∙ is) in
    let g = through (grouping_found f.first.columns keys aggs) (λ grouping. grouped_by f.first grouping) found f.rest in
    let rest = right_true (list_all is_col keys) (list_all is_agg_formed aggs && is_formed r) (sym (fold-Group Bool formed_step keys aggs r) ∙ formed) in
    let operand = mr known scopes next f.first are force (right_true (list_all is_agg_formed aggs) (is_formed r) rest) f.is in
    found_sized (context_in known scopes) next (1 + names.nodes r) (names.nodes (R.Group keys aggs r)) (1 + names.depth r) (names.depth (R.Group keys aggs r)) found
    (grouped-found known scopes next force next (names.nodes r) (names.depth r) f.first operand keys aggs g.first found g.is g.rest)
    (sym (fold-Group ℕ names.nodes_step keys aggs r)) (sym (fold-Group ℕ names.depth_step keys aggs r))

order_means : (keys : List (PCol × Bool)) (r : PRel) → Means r → Means (R.Order keys r)
unfolding order_by
order_means keys r mr known scopes next found are force formed is =
    let f = through (relation r known scopes next) (λ from. order_by keys from) found
    (sym (ap (meaning known scopes next) (fold-Order Finding relation_step keys r)) ∙ is) in
    let g = through (sorting_keys f.first.columns keys) (λ all. order_by_keys f.first all) found f.rest in
    let parts = sym (fold-Order Bool formed_step keys r) ∙ formed in
    let rest = right_true (has_some keys) (list_all is_key_formed keys && is_formed r) parts in
    let operand = mr known scopes next f.first are force (right_true (list_all is_key_formed keys) (is_formed r) rest) f.is in
    found_sized (context_in known scopes) next (1 + names.nodes r) (names.nodes (R.Order keys r)) (1 + names.depth r) (names.depth (R.Order keys r)) found
    (order_by-found known scopes next force next (names.nodes r) (names.depth r) f.first operand keys g.first found
    (some_length keys (left_true (has_some keys) (list_all is_key_formed keys && is_formed r) parts)) g.is g.rest)
    (sym (fold-Order ℕ names.nodes_step keys r)) (sym (fold-Order ℕ names.depth_step keys r))

dedup_means : (r : PRel) → Means r → Means (R.Dedup r)
dedup_means r mr known scopes next found are force formed is =
    let f = through (relation r known scopes next) (λ from. deduped from) found (sym (ap (meaning known scopes next) (fold-Dedup Finding relation_step r)) ∙ is) in
    let operand = mr known scopes next f.first are force (sym (fold-Dedup Bool formed_step r) ∙ formed) f.is in
    found_sized (context_in known scopes) next (1 + names.nodes r) (names.nodes (R.Dedup r)) (1 + names.depth r) (names.depth (R.Dedup r)) found
    (deduped-found known scopes next force next (names.nodes r) (names.depth r) f.first operand found f.rest)
    (sym (fold-Dedup ℕ names.nodes_step r)) (sym (fold-Dedup ℕ names.depth_step r))

-- a relation that isn't refused is well typed
pub relation-found : (q : PRel) → Means q
relation-found = rel_induction Means (record {
  table = table_means;
  scalar = scalar_means;
  cross = cross_means;
  concat = concat_means;
  select = select_means;
  filter = filter_means;
  join = join_means;
  depjoin = depjoin_means;
  list = list_means;
  hash = hash_means;
  ordered = ordered_means;
  group = group_means;
  order = order_means;
  dedup = dedup_means;
})
