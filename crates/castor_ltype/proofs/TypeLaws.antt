-- The code of a query has its column types.
use Rattle.std.proofs.Common.{◌≡◌, ◌∙◌, ℕ, ℤ, pos, List, [], ◌∷◌, map, fold, refl, sym, ap, Bool, true, false, ◌&&◌, ◌==◌, ◌+◌, if◌then◌else◌, Option, Some, None, Ok, slice_get, option_and_then, option_map}
use Rattle.std.specs.List.{flat_map}
use Rattle.std.proofs.lemmas.Simd.{map-map}
use Rattle.castor_val.specs.declared.value.Ty.{Ty}
use Rattle.castor_val.specs.declared.value.Ty.TheVariants as ty
use Rattle.castor_val.specs.declared.value.Ty.TheVariants.{Bool as Truth}
use Rattle.castor_val.specs.declared.value.Value.{Value}
use Rattle.castor_alg.specs.declared.context.Context.{Context}
use Rattle.castor_alg.specs.declared.expr.Expr.{Expr}
use Rattle.castor_alg.specs.declared.held.Entry.{Entry}
use Rattle.castor_alg.specs.declared.held.Held.{Held}
use Rattle.castor_alg.specs.declared.rel.Bound.{Bound}
use Rattle.castor_alg.specs.declared.rel.Bound.TheVariants.{Any, Incl, Excl}
use Rattle.castor_alg.specs.declared.rel.Rel.{Rel}
use Rattle.castor_alg.specs.Typing.{RelTyping, allowed, are_columns, are_hash_keys, are_sorting_keys, choice_type, common_types, cross_types, each, extended, group_types, is_bound, is_context, is_of, is_range, negation_type, operator_type, scope_types, type_under, types_of_each, types_under, with_both, within_limits}
use Rattle.castor_alg.proofs.ExprInduction.{expr_induction, fold-Scope, fold-Bin, fold-Not, fold-If}
use Rattle.castor_alg.proofs.RelInduction.{With, relations, rel_induction, fold-Table, fold-Cross, fold-Concat, fold-Select, fold-Filter, fold-Join, fold-DepJoin, fold-Group, fold-Order, fold-Dedup, fold-List, fold-Hash, fold-Ord}
use Rattle.castor_alg.proofs.TypingLaws.{scope_types-extended}
use Rattle.castor_laws.proofs.ColumnCountLaws.{extended-is_context, has_columns}
use Rattle.castor_laws.proofs.TypeClauseLaws.{type_under-Col, type_under-Scope, type_under-Param, type_under-Lit, type_under-Bin, type_under-Not, type_under-If, types_under-Scalar, types_under-Cross, types_under-Concat, types_under-Select, types_under-Filter, types_under-DepJoin, types_under-Group, types_under-Order, types_under-Dedup, types_under-List, types_under-Hash, types_under-Ord}
use Rattle.castor_laws.proofs.TypePartLaws.{and_then_parts, both_parts, if_parts, limited_parts, map_parts}
use Rattle.castor_alg.specs.declared.phase.Phase.{Phase}
use Rattle.castor_alg.specs.declared.phase.Phase.TheVariants.{Build, Run}
use Rattle.castor_alg.specs.Stages.{Phases, Staging, bind_phase, bound_stage, expr_stage, expr_stage_step, exprs_stage, in_turn, no_phases, stage_step, stage_under}
use Rattle.castor_stage.proofs.WalkLaws.{both_left, both_right}
use Rattle.castor_code.specs.declared.code.Code.{Code, fold-Code}
use Rattle.castor_code.specs.CodeTyping.{code_types_step}
use Rattle.castor_code.specs.LayoutMeaning.{all_in}
use Rattle.castor_code.specs.Shapes.{leaf_of}
use Rattle.castor_code.proofs.CodeInduction as node
use Rattle.castor_ltype.specs.Generation.{code_over, key_codes, kids, scalar_code}
use Rattle.castor_ltype.specs.Layouts.{HasTypes}
use Rattle.castor_ltype.specs.Places.{entries, int_in, key_value, part}
use Rattle.castor_ltype.specs.Ranges.{greater, int_code, lesser}
use Rattle.castor_ltype.proofs.GeneratorLaws.{body_code, code-Scalar, code-Cross, code-Concat, code-Select, code-Filter, code-DepJoin, code-Group, code-Order, code-Dedup, code-List, code-Hash, code-Ord, codes_of_parts}
use Rattle.castor_stage.proofs.PhaseLaws.{here, known_scope}

-- two contexts have the same parameters, and the same columns for each scope that is known at run
pub record AgreeTypes (scopes : Phases) (context other : Context) : Type 0 where
  pub params : context.params ≡ other.params
  pub at_run : (k : ℕ) → scopes k ≡ Some Run → scope_types context.scopes k ≡ scope_types other.scopes k

abbrev ExprTyped : Expr → Type 0
ExprTyped e = (scopes : Phases) (context other : Context) (columns : List Ty) → expr_stage e Run scopes ≡ Ok tt → AgreeTypes scopes context other → type_under e columns context ≡ type_under e columns other

expr_typed : (e : Expr) → ExprTyped e
expr_typed = expr_induction ExprTyped record {
  col = λ i scopes context other columns staged agree. type_under-Col columns context i ∙ sym (type_under-Col columns other i);
  scope = λ k i scopes context other columns staged agree.
      let known = known_scope Run (scopes k) (sym (ap (here Run scopes) (fold-Scope Staging expr_stage_step k i)) ∙ staged) in
      type_under-Scope columns context k i ∙ ap (option_and_then (λ types. slice_get types i)) (agree.at_run k known) ∙ sym (type_under-Scope columns other k i);
  param = λ i scopes context other columns staged agree. type_under-Param columns context i ∙ ap (λ (types : List Ty). slice_get types i) agree.params ∙ sym (type_under-Param columns other i);
  lit = λ v scopes context other columns staged agree. type_under-Lit columns context v ∙ sym (type_under-Lit columns other v);
  bin = λ op a b x y scopes context other columns staged agree.
      let parts = sym (ap (here Run scopes) (fold-Bin Staging expr_stage_step op a b)) ∙ staged in
      let left = x scopes context other columns (both_left _ _ parts) agree in
      let right = y scopes context other columns (both_right _ _ parts) agree in
      type_under-Bin columns context op a b ∙ (λ i. operator_type op (left i) (right i)) ∙ sym (type_under-Bin columns other op a b);
  not = λ a x scopes context other columns staged agree.
      let part = sym (ap (here Run scopes) (fold-Not Staging expr_stage_step a)) ∙ staged in
      type_under-Not columns context a ∙ ap negation_type (x scopes context other columns part agree) ∙ sym (type_under-Not columns other a);
  cond = λ c a b w x y scopes context other columns staged agree.
      let parts = sym (ap (here Run scopes) (fold-If Staging expr_stage_step c a b)) ∙ staged in
      let test = w scopes context other columns (both_left _ _ parts) agree in
      let left = x scopes context other columns (both_left _ _ (both_right _ _ parts)) agree in
      let right = y scopes context other columns (both_right _ _ (both_right _ _ parts)) agree in
      type_under-If columns context c a b ∙ (λ i. choice_type (test i) (left i) (right i)) ∙ sym (type_under-If columns other c a b);
}

module _ (scopes : Phases) (context other : Context) (agree : AgreeTypes scopes context other) where
  exprs_typed : (es : List Expr) (columns : List Ty) → exprs_stage es Run scopes ≡ Ok tt → types_of_each es columns context ≡ types_of_each es columns other
  exprs_typed [] columns staged = refl
  exprs_typed (e ∷ es) columns staged =
      let first = expr_typed e scopes context other columns (both_left _ _ staged) agree in
      let rest = exprs_typed es columns (both_right _ _ staged) in
      λ i. with_both (λ x xs. x ∷ xs) (first i) (rest i)

  bound_typed : (t : Ty) (b : Bound) → bound_stage b Run scopes ≡ Ok tt → is_bound t b context ≡ is_bound t b other
  bound_typed t Any staged = refl
  bound_typed t (Incl e) staged = ap (is_of t) (expr_typed e scopes context other [] staged agree)
  bound_typed t (Excl e) staged = ap (is_of t) (expr_typed e scopes context other [] staged agree)

  range_typed : (columns : List Ty) (lo hi : Bound) → bound_stage lo Run scopes ≡ Ok tt → bound_stage hi Run scopes ≡ Ok tt → is_range columns lo hi context ≡ is_range columns lo hi other
  range_typed [] lo hi first second = refl
  range_typed (t ∷ []) lo hi first second = (λ i. bound_typed t lo first i && bound_typed t hi second i)
  range_typed (t ∷ u ∷ types) lo hi first second = refl

same_columns : (b : Bool) (columns : List Ty) (x y : Option (List Ty)) (o : Option Phase) → (if b then Some Run else o) ≡ Some Run → (o ≡ Some Run → x ≡ y) → (if b then Some columns else x) ≡ (if b then Some columns else y)
same_columns true columns x y o is agree = refl
same_columns false columns x y o is agree = agree is

other_columns : (b : Bool) (columns : List Ty) (x y : Option (List Ty)) (o : Option Phase) → (if b then Some Build else o) ≡ Some Run → (o ≡ Some Run → x ≡ y) → (if b then Some columns else x) ≡ y
other_columns true columns x y o is agree = cc
other_columns false columns x y o is agree = agree is

agree_in_run : (scopes : Phases) (context other : Context) → AgreeTypes scopes context other → (k : ℕ) (columns : List Ty) → AgreeTypes (bind_phase scopes k Run) (extended context k columns) (extended other k columns)
agree_in_run scopes context other agree k columns = record {
  params = agree.params;
  at_run = λ j is. scope_types-extended context k columns j ∙ same_columns (k == j) columns (scope_types context.scopes j) (scope_types other.scopes j) (scopes j) is (agree.at_run j) ∙ sym (scope_types-extended other k columns j);
}

agree_in_build : (scopes : Phases) (context other : Context) → AgreeTypes scopes context other → (k : ℕ) (columns : List Ty) → AgreeTypes (bind_phase scopes k Build) (extended context k columns) other
agree_in_build scopes context other agree k columns = record {
  params = agree.params;
  at_run = λ j is. scope_types-extended context k columns j ∙ other_columns (k == j) columns (scope_types context.scopes j) (scope_types other.scopes j) (scopes j) is (agree.at_run j);
}

-- the column types of a code under a context that is within limits
abbrev typed_code : Code → RelTyping
typed_code c = fold-Code RelTyping code_types_step c

module _ (context : Context) where
  abbrev there : RelTyping → Option (List Ty)
  there m = m context

  int_typed : (zs : List ℤ) → typed_code (int_code zs) context ≡ Some (ty.Int ∷ [])
  int_typed [] = ap there (node.fold-Int RelTyping code_types_step (pos 0) (pos 0))
  int_typed (z ∷ zs) = ap there (node.fold-Int RelTyping code_types_step (fold lesser z zs) (fold greater z zs))

  pub scalar_typed : (t : Ty) (values : List (Option Value)) → typed_code (scalar_code (Some t) values) context ≡ Some (t ∷ [])
  scalar_typed ty.Int values = int_typed (flat_map int_in values)
  scalar_typed ty.Bool values = ap there (node.fold-Bool RelTyping code_types_step)
  scalar_typed ty.Text values = ap there (node.fold-Text RelTyping code_types_step _ _)

  keys_each : (j : ℕ) (types : List Ty) (es : List Entry) → each (map (λ (c : Code). typed_code c context) (key_codes j types es)) ≡ Some (map (λ (t : Ty). t ∷ []) types)
  keys_each j [] es = refl
  keys_each j (t ∷ types) es = (λ i. with_both (λ x xs. x ∷ xs) (scalar_typed t (map (key_value j) es) i) (keys_each (j + 1) types es i))

  singles : (types : List Ty) → flat_map (λ (ts : List Ty). ts) (map (λ (t : Ty). t ∷ []) types) ≡ types
  singles [] = refl
  singles (t ∷ types) = ap (λ ts. t ∷ ts) (singles types)

  keys_typed : (types : List Ty) (es : List Entry) → are_columns types ≡ true → cross_types (map (λ (c : Code). typed_code c context) (key_codes 0 types es)) ≡ Some types
  keys_typed types es columns =
      ap (λ (o : Option (List (List Ty))). within_limits (option_map (λ all. flat_map (λ types. types) all) o)) (keys_each 0 types es)
      ∙ ap (λ (ts : List Ty). within_limits (Some ts)) (singles types)
      ∙ ap (λ (b : Bool). allowed b types) columns

abbrev CodeTyped : Rel → Type 0
CodeTyped q = (scopes : Phases) (context other : Context) (columns : List Ty) (hs : List Held) → stage_under q Run scopes ≡ Ok tt → is_context context ≡ true → AgreeTypes scopes context other → types_under q context ≡ Some columns
    → typed_code (code_over q context hs) other ≡ Some columns

operands_typed : (rs : List (With CodeTyped)) (i : ℕ) (scopes : Phases) (context other : Context) (hs : List Held) (all : List (List Ty)) → in_turn (map (λ (r : Staging). r Run scopes) (map stage_under (relations rs))) ≡ Ok tt → is_context context ≡ true → AgreeTypes scopes context other
    → each (map (λ (r : Rel). types_under r context) (relations rs)) ≡ Some all
    → map (λ (c : Code). typed_code c other) (codes_of_parts i (relations rs) context hs) ≡ map (λ (r : Rel). types_under r context) (relations rs)
operands_typed [] i scopes context other hs all staged within agree typed = refl
operands_typed (r ∷ rs) i scopes context other hs all staged within agree typed =
    let parts = both_parts (λ t ts. t ∷ ts) (types_under r.0 context) (each (map (λ (r : Rel). types_under r context) (relations rs))) all typed in
    let first = r.1 scopes context other parts.0 (map (part i) hs) (both_left _ _ staged) within agree parts.2 ∙ sym parts.2 in
    let rest = operands_typed rs (i + 1) scopes context other hs parts.1 (both_right _ _ staged) within agree parts.3 in
    λ j. first j ∷ rest j

-- the body of a binder, under the columns of its source
body_typed : (r s : Rel) → CodeTyped s → (phase : Phase) (scopes : Phases) (context other inside : Context) (k : ℕ) (columns types : List Ty) (hs : List Held) → stage_under s Run (bind_phase scopes k phase) ≡ Ok tt → is_context context ≡ true
    → types_under r context ≡ Some columns → types_under s (extended context k columns) ≡ Some types → AgreeTypes (bind_phase scopes k phase) (extended context k columns) inside
    → typed_code (body_code k r s context hs) inside ≡ Some types
body_typed r s means phase scopes context other inside k columns types hs staged within source typed agree =
    ap (λ (ts : List Ty). typed_code (code_over s (extended context k ts) hs) inside) (ap all_in source)
    ∙ means (bind_phase scopes k phase) (extended context k columns) inside types hs staged (extended-is_context context k columns within (has_columns r context columns within source)) agree typed

one_column : (types : List Ty) (lo hi : Bound) (context : Context) → is_range types lo hi context ≡ true → (t : Ty) × (types ≡ t ∷ [])
one_column [] lo hi context is = cc
one_column (t ∷ []) lo hi context is = (t, refl)
one_column (t ∷ u ∷ types) lo hi context is = cc

query_typed : (q : Rel) → CodeTyped q
query_typed = rel_induction CodeTyped record {
  table = λ n scopes context other columns hs staged within agree typed.
      let refused = sym (ap (here Run scopes) (fold-Table Staging stage_step n)) ∙ staged in
      cc;
  scalar = λ e scopes context other columns hs staged within agree typed.
      let part = map_parts (λ t. t ∷ []) (type_under e [] context) columns (sym (types_under-Scalar context e) ∙ typed) in
      ap (λ (c : Code). typed_code c other) (code-Scalar context hs e)
      ∙ ap (λ (o : Option Ty). typed_code (scalar_code o (map leaf_of hs)) other) part.1
      ∙ scalar_typed other part.0 (map leaf_of hs) ∙ ap Some part.2;
  cross = λ rs scopes context other columns hs staged within agree typed.
      let parts = sym (ap (here Run scopes) (fold-Cross Staging stage_step (relations rs))) ∙ staged in
      let operands = map (λ (r : Rel). types_under r context) (relations rs) in
      let all = map_parts (λ all. flat_map (λ ts. ts) all) (each operands) columns (limited_parts _ columns (sym (types_under-Cross context (relations rs)) ∙ typed)) in
      ap (λ (c : Code). typed_code c other) (code-Cross context hs (relations rs))
      ∙ ap (there other) (node.fold-Cross RelTyping code_types_step _)
      ∙ ap cross_types (map-map (there other) typed_code _ ∙ operands_typed rs 0 scopes context other hs all.0 parts within agree all.1)
      ∙ sym (types_under-Cross context (relations rs)) ∙ typed;
  concat = λ rs scopes context other columns hs staged within agree typed.
      let parts = sym (ap (here Run scopes) (fold-Concat Staging stage_step (relations rs))) ∙ staged in
      let operands = map (λ (r : Rel). types_under r context) (relations rs) in
      let all = and_then_parts common_types (each operands) columns (sym (types_under-Concat context (relations rs)) ∙ typed) in
      ap (λ (c : Code). typed_code c other) (code-Concat context hs (relations rs))
      ∙ ap (there other) (node.fold-Concat RelTyping code_types_step _)
      ∙ ap (λ (os : List (Option (List Ty))). option_and_then common_types (each os)) (map-map (there other) typed_code _ ∙ operands_typed rs 0 scopes context other hs all.0 parts within agree all.1)
      ∙ sym (types_under-Concat context (relations rs)) ∙ typed;
  select = λ es r x scopes context other columns hs staged within agree typed.
      let parts = sym (ap (here Run scopes) (fold-Select Staging stage_step es r)) ∙ staged in
      let part = and_then_parts (λ columns. within_limits (types_of_each es columns context)) (types_under r context) columns (sym (types_under-Select context es r) ∙ typed) in
      let kid = x scopes context other part.0 _ (both_right _ _ parts) within agree part.1 in
      ap (λ (c : Code). typed_code c other) (code-Select context hs es r)
      ∙ ap (there other) (node.fold-Select RelTyping code_types_step es _)
      ∙ ap (option_and_then (λ columns. within_limits (types_of_each es columns other))) kid
      ∙ ap within_limits (sym (exprs_typed scopes context other agree es part.0 (both_left _ _ parts))) ∙ part.2;
  filter = λ e r x scopes context other columns hs staged within agree typed.
      let parts = sym (ap (here Run scopes) (fold-Filter Staging stage_step e r)) ∙ staged in
      let part = and_then_parts (λ columns. allowed (is_of Truth (type_under e columns context)) columns) (types_under r context) columns (sym (types_under-Filter context e r) ∙ typed) in
      let kid = x scopes context other part.0 _ (both_right _ _ parts) within agree part.1 in
      ap (λ (c : Code). typed_code c other) (code-Filter context hs e r)
      ∙ ap (there other) (node.fold-Filter RelTyping code_types_step e _)
      ∙ ap (option_and_then (λ columns. allowed (is_of Truth (type_under e columns other)) columns)) kid
      ∙ ap (λ (o : Option Ty). allowed (is_of Truth o) part.0) (sym (expr_typed e scopes context other part.0 (both_left _ _ parts) agree)) ∙ part.2;
  join = λ e r s x y scopes context other columns hs staged within agree typed.
      let refused = sym (ap (here Run scopes) (fold-Join Staging stage_step e r s)) ∙ staged in
      cc;
  depjoin = λ k r s x y scopes context other columns hs staged within agree typed.
      let parts = sym (ap (here Run scopes) (fold-DepJoin Staging stage_step k r s)) ∙ staged in
      let part = and_then_parts (λ columns. types_under s (extended context k columns)) (types_under r context) columns (sym (types_under-DepJoin context k r s) ∙ typed) in
      let first = x scopes context other part.0 _ (both_left _ _ parts) within agree part.1 in
      ap (λ (c : Code). typed_code c other) (code-DepJoin context hs k r s)
      ∙ ap (there other) (node.fold-Dep RelTyping code_types_step k _ _)
      ∙ ap (option_and_then (λ columns. typed_code (body_code k r s context _) (extended other k columns))) first
      ∙ body_typed r s y Run scopes context other (extended other k part.0) k part.0 columns _ (both_right _ _ parts) within part.1 part.2 (agree_in_run scopes context other agree k part.0);
  group = λ ks aggs r x scopes context other columns hs staged within agree typed.
      let part = sym (ap (here Run scopes) (fold-Group Staging stage_step ks aggs r)) ∙ staged in
      let source = and_then_parts (λ columns. group_types ks aggs columns) (types_under r context) columns (sym (types_under-Group context ks aggs r) ∙ typed) in
      ap (λ (c : Code). typed_code c other) (code-Group context hs ks aggs r)
      ∙ ap (there other) (node.fold-Group RelTyping code_types_step ks aggs _)
      ∙ ap (option_and_then (λ columns. group_types ks aggs columns)) (x scopes context other source.0 _ part within agree source.1) ∙ source.2;
  order = λ ks r x scopes context other columns hs staged within agree typed.
      let part = sym (ap (here Run scopes) (fold-Order Staging stage_step ks r)) ∙ staged in
      let source = and_then_parts (λ columns. allowed (are_sorting_keys ks columns) columns) (types_under r context) columns (sym (types_under-Order context ks r) ∙ typed) in
      ap (λ (c : Code). typed_code c other) (code-Order context hs ks r)
      ∙ ap (there other) (node.fold-Order RelTyping code_types_step ks _)
      ∙ ap (option_and_then (λ columns. allowed (are_sorting_keys ks columns) columns)) (x scopes context other source.0 _ part within agree source.1) ∙ source.2;
  dedup = λ r x scopes context other columns hs staged within agree typed.
      let part = sym (ap (here Run scopes) (fold-Dedup Staging stage_step r)) ∙ staged in
      ap (λ (c : Code). typed_code c other) (code-Dedup context hs r)
      ∙ ap (there other) (node.fold-Dedup RelTyping code_types_step _)
      ∙ x scopes context other columns _ part within agree (sym (types_under-Dedup context r) ∙ typed);
  list = λ k r s x y scopes context other columns hs staged within agree typed.
      let parts = sym (ap (here Run scopes) (fold-List Staging stage_step k r s)) ∙ staged in
      let part = and_then_parts (λ columns. types_under s (extended context k columns)) (types_under r context) columns (sym (types_under-List context k r s) ∙ typed) in
      ap (λ (c : Code). typed_code c other) (code-List context hs k r s)
      ∙ ap (there other) (node.fold-List RelTyping code_types_step _ _ _)
      ∙ body_typed r s y Build scopes context other other k part.0 columns _ (both_right _ _ parts) within part.1 part.2 (agree_in_build scopes context other agree k part.0);
  hash = λ k r s es x y scopes context other columns hs staged within agree typed.
      let parts = sym (ap (here Run scopes) (fold-Hash Staging stage_step k r s es)) ∙ staged in
      let part = and_then_parts (λ columns. if are_hash_keys columns (types_of_each es [] context) then types_under s (extended context k columns) else None) (types_under r context) columns (sym (types_under-Hash context k r s es) ∙ typed) in
      let body = if_parts (are_hash_keys part.0 (types_of_each es [] context)) (types_under s (extended context k part.0)) columns part.2 in
      let keys = exprs_typed scopes context other agree es [] (both_left _ _ parts) in
      let kid = body_typed r s y Build scopes context other other k part.0 columns (kids (flat_map entries hs)) (both_right _ _ (both_right _ _ parts)) within part.1 body.1 (agree_in_build scopes context other agree k part.0) in
      ap (λ (c : Code). typed_code c other) (code-Hash context hs k r s es)
      ∙ ap (there other) (node.fold-Hash RelTyping code_types_step _ _ _ _ es)
      ∙ (λ i. option_and_then (λ columns. if are_hash_keys columns (types_of_each es [] other) then kid i else None) (cross_types (map-map (there other) typed_code (key_codes 0 (all_in (part.1 i)) (flat_map entries hs)) i)))
      ∙ ap (option_and_then (λ columns'. if are_hash_keys columns' (types_of_each es [] other) then Some columns else None)) (keys_typed other part.0 (flat_map entries hs) (has_columns r context part.0 within part.1))
      ∙ ap (λ (o : Option (List Ty)). if are_hash_keys part.0 o then Some columns else None) (sym keys)
      ∙ ap (λ (b : Bool). if b then Some columns else None) body.0;
  ordered = λ k r s lo hi x y scopes context other columns hs staged within agree typed.
      let parts = sym (ap (here Run scopes) (fold-Ord Staging stage_step k r s lo hi)) ∙ staged in
      let part = and_then_parts (λ columns. if is_range columns lo hi context then types_under s (extended context k columns) else None) (types_under r context) columns (sym (types_under-Ord context k r s lo hi) ∙ typed) in
      let body = if_parts (is_range part.0 lo hi context) (types_under s (extended context k part.0)) columns part.2 in
      let behind : stage_under s Run (bind_phase scopes k Build) ≡ Ok tt = both_right (stage_under r Build scopes) _ (both_right (bound_stage hi Run scopes) _ (both_right (bound_stage lo Run scopes) _ parts)) in
      let kid = body_typed r s y Build scopes context other other k part.0 columns (kids (flat_map entries hs)) behind within part.1 body.1 (agree_in_build scopes context other agree k part.0) in
      let one = one_column part.0 lo hi context body.0 in
      let range = sym (range_typed scopes context other agree part.0 lo hi (both_left _ _ parts) (both_left _ _ (both_right _ _ parts))) ∙ body.0 in
      ap (λ (c : Code). typed_code c other) (code-Ord context hs k r s lo hi)
      ∙ ap (there other) (node.fold-Ord RelTyping code_types_step _ _ _ _ lo hi)
      ∙ (λ i. option_and_then (λ columns'. if is_range columns' lo hi other then kid i else None) (typed_code (scalar_code (slice_get (all_in (part.1 i)) 0) (map (key_value 0) (flat_map entries hs))) other))
      ∙ (λ i. option_and_then (λ columns'. if is_range columns' lo hi other then Some columns else None) (typed_code (scalar_code (slice_get (one.1 i) 0) (map (key_value 0) (flat_map entries hs))) other))
      ∙ ap (option_and_then (λ columns'. if is_range columns' lo hi other then Some columns else None)) (scalar_typed other one.0 (map (key_value 0) (flat_map entries hs)))
      ∙ ap (λ (ts : List Ty). if is_range ts lo hi other then Some columns else None) (sym one.1)
      ∙ ap (λ (b : Bool). if b then Some columns else None) range;
}

pub code_typed : (q : Rel) (types : Context) (held : Held) → HasTypes q types (code_over q types (held ∷ []))
code_typed q types held staged columns typed =
    let parts = if_parts (is_context types) (types_under q types) columns typed in
    ap (λ (b : Bool). if b then typed_code (code_over q types (held ∷ [])) types else None) parts.0
    ∙ query_typed q no_phases types types columns (held ∷ []) staged parts.0 (record { params = refl; at_run = λ k is. refl }) parts.1
