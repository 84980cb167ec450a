-- The code of a typed query that is staged is well formed.
use Rattle.std.proofs.Common.{◌≡◌, ◌∙◌, ℕ, ◌+◌, ◌*◌, ◌≤◌, max, List, [], ◌∷◌, map, sum, length, refl, sym, ap, subst, Bool, true, ◌&&◌, if◌then◌else◌, arith, nat_le, nat_lt, Option, Some, None, Ok, option_and_then}
use Rattle.std.specs.List.{flat_map, list_all}
use Rattle.std.proofs.lemmas.Bool.{and_from, and_parts, le-leb, leb-true, lt-ltb, ltb-true}
use Rattle.std.proofs.lemmas.List.{length-map}
use Rattle.std.proofs.lemmas.List.Folds.{list_all-map}
use Rattle.std.proofs.lemmas.List.Sums.{sum_by-cons}
use Rattle.castor_val.specs.declared.value.Ty.{Ty}
use Rattle.castor_val.specs.declared.value.Ty.TheVariants as ty
use Rattle.castor_alg.specs.declared.context.Context.{Context}
use Rattle.castor_alg.specs.declared.held.Held.{Held}
use Rattle.castor_alg.specs.declared.rel.Bound.{Bound}
use Rattle.castor_alg.specs.declared.rel.Rel.{Rel}
use Rattle.castor_alg.specs.declared.rel.Rel as R
use Rattle.castor_alg.specs.Sizes.{all_expr_nodes, bound_depth, bound_nodes, deepest, deepest_expr, depth, depth_step, expr_depth, expr_nodes, nodes, nodes_step}
use Rattle.castor_alg.specs.Typing.{allowed, are_hash_keys, are_sorting_keys, common_types, cross_types, each, extended, group_types, is_bound, is_context, is_of, is_range, same_types, type_under, types_of_each, types_under, within_limits}
use Rattle.castor_alg.proofs.RelInduction.{With, relations, rel_induction, fold-Table, fold-Scalar, fold-Cross, fold-Concat, fold-Select, fold-Filter, fold-Join, fold-DepJoin, fold-Group, fold-Order, fold-Dedup, fold-List, fold-Hash, fold-Ord}
use Rattle.castor_laws.proofs.ColumnCountLaws.{extended-is_context, has_columns}
use Rattle.castor_laws.proofs.EachLaws.{Each, one}
use Rattle.castor_laws.proofs.TypeClauseLaws.{types_under-Scalar, types_under-Cross, types_under-Concat, types_under-Select, types_under-Filter, types_under-DepJoin, types_under-Group, types_under-Order, types_under-Dedup, types_under-List, types_under-Hash, types_under-Ord}
use Rattle.castor_laws.proofs.TypePartLaws.{allowed_parts, and_then_parts, both_parts, if_parts, is_of-equal, limited_parts, map_parts, same_types-equal}
use Rattle.castor_alg.specs.declared.phase.Phase.TheVariants.{Build, Run}
use Rattle.castor_alg.specs.Stages.{Phases, Staging, bind_phase, bound_stage, in_turn, no_phases, stage_step, stage_under}
use Rattle.castor_stage.proofs.WalkLaws.{both_left, both_right}
use Rattle.castor_code.specs.declared.code.Code.{Code}
use Rattle.castor_code.specs.declared.code.Code as C
use Rattle.castor_code.specs.CodeForms.{code_form, form_in}
use Rattle.castor_code.specs.Data.{format, writers}
use Rattle.castor_code.specs.Directories.{entry_piece, size}
use Rattle.castor_code.specs.Forms.{in_turn as along}
use Rattle.castor_code.specs.LayoutMeaning.{all_in}
use Rattle.castor_code.specs.Pieces.{one_after_other}
use Rattle.castor_code.specs.Shapes.{leaf_of}
use Rattle.castor_code.proofs.CodeInduction as node
use Rattle.castor_ltype.specs.Formed.{is_sized, is_sized_bound, is_sized_expr, is_sized_range, is_u32, sized_step}
use Rattle.castor_ltype.specs.Generation.{code_for, code_over, hash_code, key_codes, kids, list_code, ord_code, scalar_code}
use Rattle.castor_ltype.specs.Layouts.{IsFormed}
use Rattle.castor_ltype.specs.Places.{children, entries, inner, key_value, part}
use Rattle.castor_ltype.specs.Ranges.{least_range}
use Rattle.castor_ltype.proofs.BoundLaws.{Bounded, bounded_is, bounded_more, bounded_plain, bounded_then, deep_each, few_of_sum}
use Rattle.castor_ltype.proofs.CodeFormLaws.{concat_bounded, cross_bounded, dedup_bounded, dep_bounded, filter_bounded, form_of, group_bounded, hash_bounded, list_bounded, ord_bounded, order_bounded, scalar_formed, select_bounded}
use Rattle.castor_ltype.proofs.ColumnFormLaws.{group_formed, order_formed, selected_formed}
use Rattle.castor_ltype.proofs.ExprFormLaws.{bound_formed, each_length, expr_formed, exprs_formed, some_nodes}
use Rattle.castor_ltype.proofs.GeneratorLaws.{code-Scalar, code-Cross, code-Concat, code-Select, code-Filter, code-DepJoin, code-Group, code-Order, code-Dedup, code-List, code-Hash, code-Ord, codes_of_parts}
use Rattle.castor_stage.proofs.PhaseLaws.{here}

-- each relation has a node and a level
record HasNode (q : Rel) : Type 0 where
  node : 1 ≤ nodes q
  level : 1 ≤ depth q

counted : (q : Rel) (n d : ℕ) → nodes q ≡ 1 + n → depth q ≡ 1 + d → HasNode q
counted q n d count level = record { node = omega arith; level = omega arith }

some_of : (q : Rel) → HasNode q
some_of = rel_induction HasNode record {
  table = λ n. counted _ 0 0 (fold-Table ℕ nodes_step n) (fold-Table ℕ depth_step n);
  scalar = λ e. counted _ _ _ (fold-Scalar ℕ nodes_step e) (fold-Scalar ℕ depth_step e);
  cross = λ rs. counted _ _ _ (fold-Cross ℕ nodes_step (relations rs)) (fold-Cross ℕ depth_step (relations rs));
  concat = λ rs. counted _ _ _ (fold-Concat ℕ nodes_step (relations rs)) (fold-Concat ℕ depth_step (relations rs));
  select = λ es r x. counted _ _ _ (fold-Select ℕ nodes_step es r) (fold-Select ℕ depth_step es r);
  filter = λ e r x. counted _ _ _ (fold-Filter ℕ nodes_step e r) (fold-Filter ℕ depth_step e r);
  join = λ e r s x y. counted _ _ _ (fold-Join ℕ nodes_step e r s) (fold-Join ℕ depth_step e r s);
  depjoin = λ k r s x y. counted _ _ _ (fold-DepJoin ℕ nodes_step k r s) (fold-DepJoin ℕ depth_step k r s);
  group = λ ks aggs r x. counted _ _ _ (fold-Group ℕ nodes_step ks aggs r) (fold-Group ℕ depth_step ks aggs r);
  order = λ ks r x. counted _ _ _ (fold-Order ℕ nodes_step ks r) (fold-Order ℕ depth_step ks r);
  dedup = λ r x. counted _ _ _ (fold-Dedup ℕ nodes_step r) (fold-Dedup ℕ depth_step r);
  list = λ k r s x y. counted _ _ _ (fold-List ℕ nodes_step k r s) (fold-List ℕ depth_step k r s);
  hash = λ k r s es x y. counted _ _ _ (fold-Hash ℕ nodes_step k r s es) (fold-Hash ℕ depth_step k r s es);
  ordered = λ k r s lo hi x y. counted _ _ _ (fold-Ord ℕ nodes_step k r s lo hi) (fold-Ord ℕ depth_step k r s lo hi);
}

abbrev CodeFormed : Rel → Type 0
CodeFormed q = (scopes : Phases) (context : Context) (columns : List Ty) (hs : List Held) → stage_under q Run scopes ≡ Ok tt → is_context context ≡ true → types_under q context ≡ Some columns → nodes q ≤ 4096
    → is_sized (code_over q context hs) ≡ true → Bounded (form_of (code_over q context hs)) (2 * nodes q) (depth q)

formed_is : (c d : Code) (n m e g : ℕ) → c ≡ d → n ≤ m → e ≤ g → Bounded (form_of d) n e → Bounded (form_of c) m g
formed_is c d n m e g is wide deep b = bounded_is (form_of c) (form_of d) n m e g (ap form_of is) wide deep b

-- operands beside one another
operands_formed : (rs : List (With CodeFormed)) (i d : ℕ) (scopes : Phases) (context : Context) (hs : List Held) (all : List (List Ty)) → in_turn (map (λ (r : Staging). r Run scopes) (map stage_under (relations rs))) ≡ Ok tt → is_context context ≡ true
    → each (map (λ (r : Rel). types_under r context) (relations rs)) ≡ Some all → sum (map nodes (relations rs)) ≤ 4096 → Each (λ (r : Rel). depth r ≤ d) (relations rs) → list_all is_sized (codes_of_parts i (relations rs) context hs) ≡ true
    → Bounded (along (map form_in (map code_form (codes_of_parts i (relations rs) context hs)))) (2 * sum (map nodes (relations rs))) d
operands_formed [] i d scopes context hs all staged within typed few deep sized = bounded_plain _ _ _ d refl
operands_formed (r ∷ rs) i d scopes context hs all staged within typed few (one low lows) sized =
    let parts = both_parts (λ t ts. t ∷ ts) (types_under r.0 context) (each (map (λ (r : Rel). types_under r context) (relations rs))) all typed in
    let sizes = and_parts (is_sized (code_over r.0 context (map (part i) hs))) (list_all is_sized (codes_of_parts (i + 1) (relations rs) context hs)) sized in
    let n = nodes r.0 in
    let m = sum (map nodes (relations rs)) in
    let whole : sum (map nodes (r.0 ∷ relations rs)) ≡ n + m = sum_by-cons (λ (k : ℕ). k) n (map nodes (relations rs)) in
    let first = bounded_more _ (2 * n) (2 * n) (depth r.0) d (omega arith) low (r.1 scopes context parts.0 (map (part i) hs) (both_left _ _ staged) within parts.2 (omega arith) sizes.0) in
    let rest = operands_formed rs (i + 1) d scopes context hs parts.1 (both_right _ _ staged) within parts.3 (omega arith) lows sizes.1 in
    bounded_more _ (2 * n + 2 * m) _ d d (omega arith) (omega arith) (bounded_then _ _ (2 * n) (2 * m) d first rest)

length-parts : (i : ℕ) (rs : List Rel) (context : Context) (hs : List Held) → length (codes_of_parts i rs context hs) ≡ length rs
length-parts i [] context hs = refl
length-parts i (r ∷ rs) context hs = let rest = length-parts (i + 1) rs context hs in omega arith

cross_some : (rs : List Rel) (context : Context) (columns : List Ty) → cross_types (map (λ (r : Rel). types_under r context) rs) ≡ Some columns → nat_lt 0 (length rs) ≡ true
cross_some [] context columns typed = absurd cc
cross_some (r ∷ rs) context columns typed = lt-ltb 0 (length (r ∷ rs)) (omega arith)

concat_some : (rs : List Rel) (context : Context) (columns : List Ty) → option_and_then common_types (each (map (λ (r : Rel). types_under r context) rs)) ≡ Some columns → nat_lt 0 (length rs) ≡ true
concat_some [] context columns typed = absurd cc
concat_some (r ∷ rs) context columns typed = lt-ltb 0 (length (r ∷ rs)) (omega arith)

-- as many codes as operands
parts_count : (rs : List Rel) (context : Context) (hs : List Held) → sum (map nodes rs) ≤ 4096 → nat_lt 0 (length rs) ≡ true → (nat_lt 0 (length (codes_of_parts 0 rs context hs)) ≡ true) × (nat_le (length (codes_of_parts 0 rs context hs)) 65535 ≡ true)
parts_count rs context hs few some =
    let count = length-parts 0 rs context hs in
    let most = few_of_sum nodes (λ r. (some_of r).node) rs in
    (ap (λ m. nat_lt 0 m) count ∙ some, le-leb (length (codes_of_parts 0 rs context hs)) 65535 (omega arith))

at_least_one : (n : ℕ) → nat_lt 0 n ≡ true → 1 ≤ n
at_least_one n some = let above = ltb-true 0 n some in omega arith

-- the keys of a hash index
record HashKeys (columns : List Ty) (o : Option (List Ty)) : Type 0 where
  keys : List Ty
  typed : o ≡ Some keys
  few : length columns ≤ 4
  same : columns ≡ keys

hash_keys : (columns : List Ty) (o : Option (List Ty)) → are_hash_keys columns o ≡ true → HashKeys columns o
hash_keys columns None is = absurd cc
hash_keys columns (Some keys) is =
    let parts = and_parts (nat_le (length columns) 4) (same_types columns keys) is in
    record { keys = keys; typed = refl; few = leb-true (length columns) 4 parts.0; same = same_types-equal columns keys parts.1 }

-- the key of an ordered index, and its bounds
record OrdKey (columns : List Ty) (lo hi : Bound) (context : Context) : Type 0 where
  key : Ty
  is : columns ≡ key ∷ []
  lower : is_bound key lo context ≡ true
  upper : is_bound key hi context ≡ true

ord_key : (columns : List Ty) (lo hi : Bound) (context : Context) → is_range columns lo hi context ≡ true → OrdKey columns lo hi context
ord_key [] lo hi context is = absurd cc
ord_key (t ∷ []) lo hi context is = let parts = and_parts (is_bound t lo context) (is_bound t hi context) is in record { key = t; is = refl; lower = parts.0; upper = parts.1 }
ord_key (t ∷ u ∷ types) lo hi context is = absurd cc

query_formed : (q : Rel) → CodeFormed q
query_formed = rel_induction CodeFormed record {
  table = λ n scopes context columns hs staged within typed few sized.
      let refused = sym (ap (here Run scopes) (fold-Table Staging stage_step n)) ∙ staged in
      absurd cc;
  scalar = λ e scopes context columns hs staged within typed few sized.
      let typing = map_parts (λ t. t ∷ []) (type_under e [] context) columns (sym (types_under-Scalar context e) ∙ typed) in
      let is : code_over (R.Scalar e) context hs ≡ scalar_code (Some typing.0) (map leaf_of hs) = code-Scalar context hs e ∙ ap (λ (o : Option Ty). scalar_code o (map leaf_of hs)) typing.1 in
      let n : nodes (R.Scalar e) ≡ 1 + expr_nodes e = fold-Scalar ℕ nodes_step e in
      let d : depth (R.Scalar e) ≡ 1 + expr_depth e = fold-Scalar ℕ depth_step e in
      formed_is _ _ 1 _ 1 _ is (omega arith) (omega arith) (scalar_formed typing.0 (map leaf_of hs) (sym (ap is_sized is) ∙ sized)).bounded;
  cross = λ rs scopes context columns hs staged within typed few sized.
      let parts = sym (ap (here Run scopes) (fold-Cross Staging stage_step (relations rs))) ∙ staged in
      let typing : cross_types (map (λ (r : Rel). types_under r context) (relations rs)) ≡ Some columns = sym (types_under-Cross context (relations rs)) ∙ typed in
      let all = map_parts (λ all. flat_map (λ ts. ts) all) (each (map (λ (r : Rel). types_under r context) (relations rs))) columns (limited_parts _ columns typing) in
      let n : nodes (R.Cross (relations rs)) ≡ 1 + sum (map nodes (relations rs)) = fold-Cross ℕ nodes_step (relations rs) in
      let d : depth (R.Cross (relations rs)) ≡ 1 + deepest (map depth (relations rs)) = fold-Cross ℕ depth_step (relations rs) in
      let total = sum (map nodes (relations rs)) in
      let most = deepest (map depth (relations rs)) in
      let cs = codes_of_parts 0 (relations rs) context hs in
      let is = code-Cross context hs (relations rs) in
      let sizes : list_all is_sized cs ≡ true = sym (list_all-map (λ b. b) is_sized cs) ∙ sym (node.fold-Cross Bool sized_step cs) ∙ sym (ap is_sized is) ∙ sized in
      let count = parts_count (relations rs) context hs (omega arith) (cross_some (relations rs) context columns typing) in
      let kids = operands_formed rs 0 most scopes context hs all.0 parts within all.1 (omega arith) (deep_each depth (relations rs)) sizes in
      formed_is _ _ (1 + 2 * total) _ (1 + most) _ is (omega arith) (omega arith) (cross_bounded (2 * total) most cs count.0 count.1 kids);
  concat = λ rs scopes context columns hs staged within typed few sized.
      let parts = sym (ap (here Run scopes) (fold-Concat Staging stage_step (relations rs))) ∙ staged in
      let typing : option_and_then common_types (each (map (λ (r : Rel). types_under r context) (relations rs))) ≡ Some columns = sym (types_under-Concat context (relations rs)) ∙ typed in
      let all = and_then_parts common_types (each (map (λ (r : Rel). types_under r context) (relations rs))) columns typing in
      let n : nodes (R.Concat (relations rs)) ≡ 1 + sum (map nodes (relations rs)) = fold-Concat ℕ nodes_step (relations rs) in
      let d : depth (R.Concat (relations rs)) ≡ 1 + deepest (map depth (relations rs)) = fold-Concat ℕ depth_step (relations rs) in
      let total = sum (map nodes (relations rs)) in
      let most = deepest (map depth (relations rs)) in
      let cs = codes_of_parts 0 (relations rs) context hs in
      let is = code-Concat context hs (relations rs) in
      let sizes : list_all is_sized cs ≡ true = sym (list_all-map (λ b. b) is_sized cs) ∙ sym (node.fold-Concat Bool sized_step cs) ∙ sym (ap is_sized is) ∙ sized in
      let count = parts_count (relations rs) context hs (omega arith) (concat_some (relations rs) context columns typing) in
      let kids = operands_formed rs 0 most scopes context hs all.0 parts within all.1 (omega arith) (deep_each depth (relations rs)) sizes in
      formed_is _ _ (1 + 2 * total) _ (1 + most) _ is (omega arith) (omega arith) (concat_bounded (2 * total) most cs count.0 count.1 kids);
  select = λ es r x scopes context columns hs staged within typed few sized.
      let parts = sym (ap (here Run scopes) (fold-Select Staging stage_step es r)) ∙ staged in
      let typing = and_then_parts (λ columns. within_limits (types_of_each es columns context)) (types_under r context) columns (sym (types_under-Select context es r) ∙ typed) in
      let n : nodes (R.Select es r) ≡ 1 + (all_expr_nodes es + nodes r) = fold-Select ℕ nodes_step es r in
      let d : depth (R.Select es r) ≡ 1 + max (deepest_expr es) (depth r) = fold-Select ℕ depth_step es r in
      let kid = code_over r context (map inner hs) in
      let is = code-Select context hs es r in
      let sizes = and_parts (list_all is_sized_expr es) (is_sized kid) (sym (node.fold-Select Bool sized_step es kid) ∙ sym (ap is_sized is) ∙ sized) in
      let below = max (deepest_expr es) (depth r) in
      let under = bounded_more (form_of kid) (2 * nodes r) (2 * nodes r) (depth r) below (omega arith) (omega arith) (x scopes context typing.0 (map inner hs) (both_right _ _ parts) within typing.1 (omega arith) sizes.1) in
      formed_is _ _ (1 + (all_expr_nodes es + 2 * nodes r)) _ (1 + below) _ is (omega arith) (omega arith) (select_bounded (2 * nodes r) below (all_expr_nodes es) (deepest_expr es) es kid (selected_formed es typing.0 context columns typing.2 sizes.0) (omega arith) under);
  filter = λ e r x scopes context columns hs staged within typed few sized.
      let parts = sym (ap (here Run scopes) (fold-Filter Staging stage_step e r)) ∙ staged in
      let typing = and_then_parts (λ columns. allowed (is_of ty.Bool (type_under e columns context)) columns) (types_under r context) columns (sym (types_under-Filter context e r) ∙ typed) in
      let test = is_of-equal ty.Bool (type_under e typing.0 context) (allowed_parts (is_of ty.Bool (type_under e typing.0 context)) typing.0 columns typing.2).0 in
      let n : nodes (R.Filter e r) ≡ 1 + (expr_nodes e + nodes r) = fold-Filter ℕ nodes_step e r in
      let d : depth (R.Filter e r) ≡ 1 + max (expr_depth e) (depth r) = fold-Filter ℕ depth_step e r in
      let kid = code_over r context (map inner hs) in
      let is = code-Filter context hs e r in
      let sizes = and_parts (is_sized_expr e) (is_sized kid) (sym (node.fold-Filter Bool sized_step e kid) ∙ sym (ap is_sized is) ∙ sized) in
      let below = max (expr_depth e) (depth r) in
      let under = bounded_more (form_of kid) (2 * nodes r) (2 * nodes r) (depth r) below (omega arith) (omega arith) (x scopes context typing.0 (map inner hs) (both_right _ _ parts) within typing.1 (omega arith) sizes.1) in
      formed_is _ _ (1 + (expr_nodes e + 2 * nodes r)) _ (1 + below) _ is (omega arith) (omega arith) (filter_bounded (2 * nodes r) below (expr_nodes e) (expr_depth e) e kid (expr_formed e typing.0 context ty.Bool test sizes.0) (omega arith) under);
  join = λ e r s x y scopes context columns hs staged within typed few sized.
      let refused = sym (ap (here Run scopes) (fold-Join Staging stage_step e r s)) ∙ staged in
      absurd cc;
  depjoin = λ k r s x y scopes context columns hs staged within typed few sized.
      let parts = sym (ap (here Run scopes) (fold-DepJoin Staging stage_step k r s)) ∙ staged in
      let typing = and_then_parts (λ columns. types_under s (extended context k columns)) (types_under r context) columns (sym (types_under-DepJoin context k r s) ∙ typed) in
      let inside = extended context k typing.0 in
      let n : nodes (R.DepJoin k r s) ≡ 1 + (nodes r + nodes s) = fold-DepJoin ℕ nodes_step k r s in
      let d : depth (R.DepJoin k r s) ≡ 1 + max (depth r) (depth s) = fold-DepJoin ℕ depth_step k r s in
      let first = code_over r context (map (part 0) hs) in
      let second = code_over s inside (map (part 1) hs) in
      let is : code_over (R.DepJoin k r s) context hs ≡ C.Dep k first second = code-DepJoin context hs k r s ∙ ap (λ (ts : List Ty). C.Dep k first (code_over s (extended context k ts) (map (part 1) hs))) (ap all_in typing.1) in
      let sizes = and_parts (is_u32 k) (is_sized first && is_sized second) (sym (node.fold-Dep Bool sized_step k first second) ∙ sym (ap is_sized is) ∙ sized) in
      let others = and_parts (is_sized first) (is_sized second) sizes.1 in
      let below = max (depth r) (depth s) in
      let fore = x scopes context typing.0 (map (part 0) hs) (both_left _ _ parts) within typing.1 (omega arith) others.0 in
      let rest = y (bind_phase scopes k Run) inside columns (map (part 1) hs) (both_right _ _ parts) (extended-is_context context k typing.0 within (has_columns r context typing.0 within typing.1)) typing.2 (omega arith) others.1 in
      formed_is _ _ (1 + (2 * nodes r + 2 * nodes s)) _ (1 + below) _ is (omega arith) (omega arith)
      (dep_bounded (2 * nodes s) below (2 * nodes r) (depth r) k first second sizes.0 fore (omega arith) (bounded_more (form_of second) (2 * nodes s) (2 * nodes s) (depth s) below (omega arith) (omega arith) rest));
  group = λ ks aggs r x scopes context columns hs staged within typed few sized.
      let staging = sym (ap (here Run scopes) (fold-Group Staging stage_step ks aggs r)) ∙ staged in
      let typing = and_then_parts (λ columns. group_types ks aggs columns) (types_under r context) columns (sym (types_under-Group context ks aggs r) ∙ typed) in
      let n : nodes (R.Group ks aggs r) ≡ 1 + nodes r = fold-Group ℕ nodes_step ks aggs r in
      let d : depth (R.Group ks aggs r) ≡ 1 + depth r = fold-Group ℕ depth_step ks aggs r in
      let kid = code_over r context (map inner hs) in
      let is = code-Group context hs ks aggs r in
      let size = sym (node.fold-Group Bool sized_step ks aggs kid) ∙ sym (ap is_sized is) ∙ sized in
      let under = x scopes context typing.0 (map inner hs) staging within typing.1 (omega arith) size in
      formed_is _ _ (1 + 2 * nodes r) _ (1 + depth r) _ is (omega arith) (omega arith) (group_bounded (2 * nodes r) (depth r) ks aggs kid (group_formed ks aggs typing.0 columns (has_columns r context typing.0 within typing.1) typing.2) under);
  order = λ ks r x scopes context columns hs staged within typed few sized.
      let staging = sym (ap (here Run scopes) (fold-Order Staging stage_step ks r)) ∙ staged in
      let typing = and_then_parts (λ columns. allowed (are_sorting_keys ks columns) columns) (types_under r context) columns (sym (types_under-Order context ks r) ∙ typed) in
      let n : nodes (R.Order ks r) ≡ 1 + nodes r = fold-Order ℕ nodes_step ks r in
      let d : depth (R.Order ks r) ≡ 1 + depth r = fold-Order ℕ depth_step ks r in
      let kid = code_over r context (map inner hs) in
      let is = code-Order context hs ks r in
      let size = sym (node.fold-Order Bool sized_step ks kid) ∙ sym (ap is_sized is) ∙ sized in
      let under = x scopes context typing.0 (map inner hs) staging within typing.1 (omega arith) size in
      formed_is _ _ (1 + 2 * nodes r) _ (1 + depth r) _ is (omega arith) (omega arith) (order_bounded (2 * nodes r) (depth r) ks kid (order_formed ks typing.0 (has_columns r context typing.0 within typing.1) (allowed_parts (are_sorting_keys ks typing.0) typing.0 columns typing.2).0) under);
  dedup = λ r x scopes context columns hs staged within typed few sized.
      let staging = sym (ap (here Run scopes) (fold-Dedup Staging stage_step r)) ∙ staged in
      let n : nodes (R.Dedup r) ≡ 1 + nodes r = fold-Dedup ℕ nodes_step r in
      let d : depth (R.Dedup r) ≡ 1 + depth r = fold-Dedup ℕ depth_step r in
      let kid = code_over r context (map inner hs) in
      let is = code-Dedup context hs r in
      let size = sym (node.fold-Dedup Bool sized_step kid) ∙ sym (ap is_sized is) ∙ sized in
      let under = x scopes context columns (map inner hs) staging within (sym (types_under-Dedup context r) ∙ typed) (omega arith) size in
      formed_is _ _ (1 + 2 * nodes r) _ (1 + depth r) _ is (omega arith) (omega arith) (dedup_bounded (2 * nodes r) (depth r) kid under);
  list = λ k r s x y scopes context columns hs staged within typed few sized.
      let parts = sym (ap (here Run scopes) (fold-List Staging stage_step k r s)) ∙ staged in
      let typing = and_then_parts (λ columns. types_under s (extended context k columns)) (types_under r context) columns (sym (types_under-List context k r s) ∙ typed) in
      let inside = extended context k typing.0 in
      let n : nodes (R.List k r s) ≡ 1 + (nodes r + nodes s) = fold-List ℕ nodes_step k r s in
      let d : depth (R.List k r s) ≡ 1 + max (depth r) (depth s) = fold-List ℕ depth_step k r s in
      let kid = code_over s inside (flat_map children hs) in
      let ns = map (λ (h : Held). length (children h)) hs in
      let ms = map (λ (h : Held). length (one_after_other (format kid).write (children h)).bytes) hs in
      let is : code_over (R.List k r s) context hs ≡ C.List (least_range ns) (least_range ms) kid = code-List context hs k r s ∙ ap (λ (ts : List Ty). list_code (code_over s (extended context k ts)) hs) (ap all_in typing.1) in
      let sizes = and_parts (is_sized_range (least_range ns)) (is_sized_range (least_range ms) && is_sized kid) (sym (node.fold-List Bool sized_step (least_range ns) (least_range ms) kid) ∙ sym (ap is_sized is) ∙ sized) in
      let others = and_parts (is_sized_range (least_range ms)) (is_sized kid) sizes.1 in
      let rest = y (bind_phase scopes k Build) inside columns (flat_map children hs) (both_right _ _ parts) (extended-is_context context k typing.0 within (has_columns r context typing.0 within typing.1)) typing.2 (omega arith) others.1 in
      formed_is _ _ (1 + 2 * nodes s) _ (1 + depth s) _ is (omega arith) (omega arith) (list_bounded (2 * nodes s) (depth s) ns ms kid sizes.0 others.0 rest);
  hash = λ k r s es x y scopes context columns hs staged within typed few sized.
      let parts = sym (ap (here Run scopes) (fold-Hash Staging stage_step k r s es)) ∙ staged in
      let typing = and_then_parts (λ columns. if are_hash_keys columns (types_of_each es [] context) then types_under s (extended context k columns) else None) (types_under r context) columns (sym (types_under-Hash context k r s es) ∙ typed) in
      let types = typing.0 in
      let inside = extended context k types in
      let body = if_parts (are_hash_keys types (types_of_each es [] context)) (types_under s inside) columns typing.2 in
      let keys = hash_keys types (types_of_each es [] context) body.0 in
      let within_types = has_columns r context types within typing.1 in
      let some = at_least_one (length types) (and_parts (nat_lt 0 (length types)) (nat_le (length types) 64) within_types).0 in
      let count : length es ≡ length types = sym (length-map es (λ e. type_under e [] context)) ∙ sym (each_length (map (λ e. type_under e [] context) es) keys.keys keys.typed) ∙ ap (λ (ts : List Ty). length ts) (sym keys.same) in
      let most = few_of_sum expr_nodes some_nodes es in
      let n : nodes (R.Hash k r s es) ≡ 1 + (nodes r + (nodes s + all_expr_nodes es)) = fold-Hash ℕ nodes_step k r s es in
      let d : depth (R.Hash k r s es) ≡ 1 + max (depth r) (max (depth s) (deepest_expr es)) = fold-Hash ℕ depth_step k r s es in
      let all = flat_map entries hs in
      let key = key_codes 0 types all in
      let kid = code_over s inside (kids all) in
      let ns = map (λ (h : Held). length (entries h)) hs in
      let ms = map (λ (h : Held). size (entry_piece (writers (map format key)) (format kid).write) (entries h)) hs in
      let is : code_over (R.Hash k r s es) context hs ≡ C.Hash (least_range ns) (least_range ms) key kid es = code-Hash context hs k r s es ∙ ap (λ (ts : List Ty). hash_code ts (code_over s (extended context k ts)) es hs) (ap all_in typing.1) in
      let sizes = and_parts (is_sized_range (least_range ns)) (is_sized_range (least_range ms) && (list_all (λ b. b) (map is_sized key) && (is_sized kid && list_all is_sized_expr es))) (sym (node.fold-Hash Bool sized_step (least_range ns) (least_range ms) key kid es) ∙ sym (ap is_sized is) ∙ sized) in
      let others = and_parts (is_sized_range (least_range ms)) (list_all (λ b. b) (map is_sized key) && (is_sized kid && list_all is_sized_expr es)) sizes.1 in
      let behind = and_parts (list_all (λ b. b) (map is_sized key)) (is_sized kid && list_all is_sized_expr es) others.1 in
      let last = and_parts (is_sized kid) (list_all is_sized_expr es) behind.1 in
      let rest = y (bind_phase scopes k Build) inside columns (kids all) (both_right _ _ (both_right _ _ parts)) (extended-is_context context k types within within_types) body.1 (omega arith) last.0 in
      let below = max (depth r) (max (depth s) (deepest_expr es)) in
      let level = (some_of r).level in
      let over = exprs_formed es [] context keys.keys keys.typed last.1 in
      formed_is _ _ (1 + (length types + (2 * nodes s + all_expr_nodes es))) _ (1 + below) _ is (omega arith) (omega arith)
      (hash_bounded (2 * nodes s) below ns ms types all kid es (all_expr_nodes es) (deepest_expr es) sizes.0 others.0 (sym (list_all-map (λ b. b) is_sized key) ∙ behind.0) some keys.few count
      (bounded_more (form_of kid) (2 * nodes s) (2 * nodes s) (depth s) below (omega arith) (omega arith) rest) over (omega arith) (omega arith));
  ordered = λ k r s lo hi x y scopes context columns hs staged within typed few sized.
      let parts = sym (ap (here Run scopes) (fold-Ord Staging stage_step k r s lo hi)) ∙ staged in
      let typing = and_then_parts (λ columns. if is_range columns lo hi context then types_under s (extended context k columns) else None) (types_under r context) columns (sym (types_under-Ord context k r s lo hi) ∙ typed) in
      let body = if_parts (is_range typing.0 lo hi context) (types_under s (extended context k typing.0)) columns typing.2 in
      let range = ord_key typing.0 lo hi context body.0 in
      let t = range.key in
      let inside = extended context k (t ∷ []) in
      let source : types_under r context ≡ Some (t ∷ []) = typing.1 ∙ ap Some range.is in
      let under : types_under s inside ≡ Some columns = subst (λ (ts : List Ty). types_under s (extended context k ts) ≡ Some columns) range.is body.1 in
      let n : nodes (R.Ord k r s lo hi) ≡ 1 + (nodes r + (nodes s + (bound_nodes lo + bound_nodes hi))) = fold-Ord ℕ nodes_step k r s lo hi in
      let d : depth (R.Ord k r s lo hi) ≡ 1 + max (depth r) (max (depth s) (max (bound_depth lo) (bound_depth hi))) = fold-Ord ℕ depth_step k r s lo hi in
      let all = flat_map entries hs in
      let key = scalar_code (Some t) (map (key_value 0) all) in
      let kid = code_over s inside (kids all) in
      let ns = map (λ (h : Held). length (entries h)) hs in
      let ms = map (λ (h : Held). size (entry_piece (writers (map format (key ∷ []))) (format kid).write) (entries h)) hs in
      let is : code_over (R.Ord k r s lo hi) context hs ≡ C.Ord (least_range ns) (least_range ms) key kid lo hi = code-Ord context hs k r s lo hi ∙ ap (λ (ts : List Ty). ord_code ts (code_over s (extended context k ts)) lo hi hs) (ap all_in source) in
      let sizes = and_parts (is_sized_range (least_range ns)) (is_sized_range (least_range ms) && (is_sized key && (is_sized kid && (is_sized_bound lo && is_sized_bound hi)))) (sym (node.fold-Ord Bool sized_step (least_range ns) (least_range ms) key kid lo hi) ∙ sym (ap is_sized is) ∙ sized) in
      let others = and_parts (is_sized_range (least_range ms)) (is_sized key && (is_sized kid && (is_sized_bound lo && is_sized_bound hi))) sizes.1 in
      let behind = and_parts (is_sized key) (is_sized kid && (is_sized_bound lo && is_sized_bound hi)) others.1 in
      let last = and_parts (is_sized kid) (is_sized_bound lo && is_sized_bound hi) behind.1 in
      let bounds = and_parts (is_sized_bound lo) (is_sized_bound hi) last.1 in
      let staging : stage_under s Run (bind_phase scopes k Build) ≡ Ok tt = both_right (stage_under r Build scopes) _ (both_right (bound_stage hi Run scopes) _ (both_right (bound_stage lo Run scopes) _ parts)) in
      let rest = y (bind_phase scopes k Build) inside columns (kids all) staging (extended-is_context context k (t ∷ []) within (has_columns r context (t ∷ []) within source)) under (omega arith) last.0 in
      let below = max (depth r) (max (depth s) (max (bound_depth lo) (bound_depth hi))) in
      let level = (some_of r).level in
      formed_is _ _ (1 + (1 + (2 * nodes s + (bound_nodes lo + bound_nodes hi)))) _ (1 + below) _ is (omega arith) (omega arith)
      (ord_bounded (2 * nodes s) below (bound_nodes lo) (bound_nodes hi) ns ms key kid lo hi (bound_depth lo) (bound_depth hi) sizes.0 others.0 (scalar_formed t (map (key_value 0) all) behind.0)
      (bounded_more (form_of kid) (2 * nodes s) (2 * nodes s) (depth s) below (omega arith) (omega arith) rest) (bound_formed lo t context range.lower bounds.0) (bound_formed hi t context range.upper bounds.1) (omega arith) (omega arith) (omega arith));
}

-- the code of a query whose numbers have their sizes is well formed
pub code_formed : (q : Rel) (types : Context) (held : Held) → is_sized (code_for q types held) ≡ true → IsFormed q types (code_for q types held)
code_formed q types held sized staged columns typed few low =
    let parts = if_parts (is_context types) (types_under q types) columns typed in
    let b = query_formed q no_phases types columns (held ∷ []) staged parts.0 parts.1 few sized in
    let count = b.nodes in
    let level = b.depth in
    and_from _ _ b.sound (and_from _ _ (le-leb (form_of (code_for q types held)).nodes 8192 (omega arith)) (le-leb (form_of (code_for q types held)).depth 64 (omega arith)))
