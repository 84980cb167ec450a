-- The forms of typed expressions, and of what stands beside them in codes.
use Rattle.std.proofs.Common.{◌≡◌, ◌∙◌, ℕ, ◌+◌, ◌≤◌, max, List, [], ◌∷◌, map, length, refl, sym, ap, Bool, true, false, ◌&&◌, arith, nat_le, Option, Some, None, is_some}
use Rattle.std.specs.List.{list_all}
use Rattle.std.specs.Str.{is_utf8}
use Rattle.std.proofs.lemmas.Bool.{and_parts}
use Rattle.castor_val.specs.declared.value.Ty.{Ty}
use Rattle.castor_val.specs.declared.value.Ty.TheVariants as ty
use Rattle.castor_val.specs.declared.value.Value.{Value}
use Rattle.castor_val.specs.declared.value.Value.TheVariants.{Int, Bool as Truth, Text}
use Rattle.castor_val.specs.Values.{is_within_limits, type_of_value}
use Rattle.castor_alg.specs.declared.context.Context.{Context}
use Rattle.castor_alg.specs.declared.expr.Op.{Op}
use Rattle.castor_alg.specs.declared.expr.Op.TheVariants.{Or, And, Eq, Ne, Lt, Le, Gt, Ge, Add, Sub, Mul, Div, Rem}
use Rattle.castor_alg.specs.declared.expr.Expr.{Expr}
use Rattle.castor_alg.specs.declared.expr.Expr as E
use Rattle.castor_alg.specs.declared.rel.Bound.{Bound}
use Rattle.castor_alg.specs.declared.rel.Bound.TheVariants.{Any, Incl, Excl}
use Rattle.castor_alg.specs.Sizes.{all_expr_nodes, bound_depth, bound_nodes, deepest_expr, expr_depth, expr_depth_step, expr_nodes, expr_nodes_step}
use Rattle.castor_alg.specs.Typing.{agreed, allowed, each, is_bound, is_of, operator_type, type_under, types_of_each}
use Rattle.castor_alg.proofs.ExprInduction.{expr_induction, fold-Col, fold-Scope, fold-Param, fold-Lit, fold-Bin, fold-Not, fold-If}
use Rattle.castor_laws.proofs.EachLaws.{Each, none, one, each_weaker}
use Rattle.castor_laws.proofs.TypeClauseLaws.{type_under-Lit, type_under-Bin, type_under-Not, type_under-If}
use Rattle.castor_laws.proofs.TypePartLaws.{agreed_parts, allowed_parts, both_parts, if_parts, is_of-equal}
use Rattle.castor_code.specs.CodeForms.{bound_form, expr_form, expr_form_step, literal_form, op_number}
use Rattle.castor_code.specs.Forms.{Form, bool_form, in_turn, int_form, text_form}
use Rattle.castor_ltype.specs.Formed.{is_sized_bound, is_sized_expr, is_u32, sized_expr_step}
use Rattle.castor_ltype.proofs.BoundLaws.{Bounded, bounded_behind, bounded_each, bounded_int, bounded_is, bounded_more, bounded_node, bounded_number, bounded_plain, bounded_then, deep_each}
use Rattle.castor_ltype.proofs.RangeLaws.{each_both}

-- each expression has a node
pub some_nodes : (e : Expr) → 1 ≤ expr_nodes e
some_nodes = expr_induction (λ e. 1 ≤ expr_nodes e) record {
  col = λ i. let n : expr_nodes (E.Col i) ≡ 1 = fold-Col ℕ expr_nodes_step i in omega arith;
  scope = λ k i. let n : expr_nodes (E.Scope k i) ≡ 1 = fold-Scope ℕ expr_nodes_step k i in omega arith;
  param = λ i. let n : expr_nodes (E.Param i) ≡ 1 = fold-Param ℕ expr_nodes_step i in omega arith;
  lit = λ v. let n : expr_nodes (E.Lit v) ≡ 1 = fold-Lit ℕ expr_nodes_step v in omega arith;
  bin = λ op a b x y. let n : expr_nodes (E.Bin op a b) ≡ 1 + (expr_nodes a + expr_nodes b) = fold-Bin ℕ expr_nodes_step op a b in omega arith;
  not = λ a x. let n : expr_nodes (E.Not a) ≡ 1 + expr_nodes a = fold-Not ℕ expr_nodes_step a in omega arith;
  cond = λ c a b w x y. let n : expr_nodes (E.If c a b) ≡ 1 + (expr_nodes c + (expr_nodes a + expr_nodes b)) = fold-If ℕ expr_nodes_step c a b in omega arith;
}

op_small : (op : Op) → nat_le (op_number op) 255 ≡ true
op_small Or = refl
op_small And = refl
op_small Eq = refl
op_small Ne = refl
op_small Lt = refl
op_small Le = refl
op_small Gt = refl
op_small Ge = refl
op_small Add = refl
op_small Sub = refl
op_small Mul = refl
op_small Div = refl
op_small Rem = refl

-- the sides of an operator have types
record Sides (a b : Option Ty) : Type 0 where
  first : Ty
  second : Ty
  left : a ≡ Some first
  right : b ≡ Some second

same_sides : (a b : Option Ty) (t u : Ty) → a ≡ Some t → b ≡ Some u → Sides a b
same_sides a b t u left right = record { first = t; second = u; left = left; right = right }

agreed_sides : (a b o : Option Ty) → agreed a b ≡ o → is_some o ≡ true → Sides a b
agreed_sides a b None same there = absurd cc
agreed_sides a b (Some x) same there = let parts = agreed_parts a b x same in same_sides a b x x parts.0 parts.1

compared : (a b : Option Ty) (t : Ty) → allowed (is_some (agreed a b)) ty.Bool ≡ Some t → Sides a b
compared a b t typed = agreed_sides a b (agreed a b) refl (allowed_parts (is_some (agreed a b)) ty.Bool t typed).0

of_type : (u v t : Ty) (a b : Option Ty) → allowed (is_of u a && is_of u b) v ≡ Some t → Sides a b
of_type u v t a b typed =
    let sides = and_parts (is_of u a) (is_of u b) (allowed_parts (is_of u a && is_of u b) v t typed).0 in
    same_sides a b u u (is_of-equal u a sides.0) (is_of-equal u b sides.1)

operator_sides : (op : Op) (a b : Option Ty) (t : Ty) → operator_type op a b ≡ Some t → Sides a b
operator_sides Or a b t typed = of_type ty.Bool ty.Bool t a b typed
operator_sides And a b t typed = of_type ty.Bool ty.Bool t a b typed
operator_sides Eq a b t typed = compared a b t typed
operator_sides Ne a b t typed = compared a b t typed
operator_sides Lt a b t typed = compared a b t typed
operator_sides Le a b t typed = compared a b t typed
operator_sides Gt a b t typed = compared a b t typed
operator_sides Ge a b t typed = compared a b t typed
operator_sides Add a b t typed = of_type ty.Int ty.Int t a b typed
operator_sides Sub a b t typed = of_type ty.Int ty.Int t a b typed
operator_sides Mul a b t typed = of_type ty.Int ty.Int t a b typed
operator_sides Div a b t typed = of_type ty.Int ty.Int t a b typed
operator_sides Rem a b t typed = of_type ty.Int ty.Int t a b typed

-- a literal of a type
literal_bounded : (v : Value) → is_within_limits v ≡ true → Bounded (literal_form v) 1 1
literal_bounded (Int z) within = bounded_node 35 (int_form z) 0 0 (bounded_int z within)
literal_bounded (Truth true) within = bounded_node 36 (bool_form true) 0 0 (bounded_number 255 1 refl)
literal_bounded (Truth false) within = bounded_node 36 (bool_form false) 0 0 (bounded_number 255 0 refl)
literal_bounded (Text t) within =
    let parts = and_parts (is_utf8 t) (nat_le (length t) 65535) within in
    bounded_node 37 (text_form t) 0 0 (bounded_behind _ _ 0 0 (bounded_number 65535 (length t) parts.1) (bounded_plain (is_utf8 t) t 0 0 parts.0))

abbrev ExprBounded : Expr → Type 0
ExprBounded e = Bounded (expr_form e) (expr_nodes e) (expr_depth e)

abbrev ExprFormed : Expr → Type 0
ExprFormed e = (columns : List Ty) (context : Context) (t : Ty) → type_under e columns context ≡ Some t → is_sized_expr e ≡ true → ExprBounded e

pub expr_formed : (e : Expr) → ExprFormed e
expr_formed = expr_induction ExprFormed record {
  col = λ i columns context t typed sized.
      let n : expr_nodes (E.Col i) ≡ 1 = fold-Col ℕ expr_nodes_step i in
      let d : expr_depth (E.Col i) ≡ 1 = fold-Col ℕ expr_depth_step i in
      bounded_is _ _ 1 _ 1 _ (fold-Col Form expr_form_step i) (omega arith) (omega arith) (bounded_node 32 _ 0 0 (bounded_number 4294967295 i (sym (fold-Col Bool sized_expr_step i) ∙ sized)));
  scope = λ k i columns context t typed sized.
      let n : expr_nodes (E.Scope k i) ≡ 1 = fold-Scope ℕ expr_nodes_step k i in
      let d : expr_depth (E.Scope k i) ≡ 1 = fold-Scope ℕ expr_depth_step k i in
      let parts = and_parts (is_u32 k) (is_u32 i) (sym (fold-Scope Bool sized_expr_step k i) ∙ sized) in
      bounded_is _ _ 1 _ 1 _ (fold-Scope Form expr_form_step k i) (omega arith) (omega arith) (bounded_node 33 _ 0 0 (bounded_behind _ _ 0 0 (bounded_number 4294967295 k parts.0) (bounded_number 4294967295 i parts.1)));
  param = λ i columns context t typed sized.
      let n : expr_nodes (E.Param i) ≡ 1 = fold-Param ℕ expr_nodes_step i in
      let d : expr_depth (E.Param i) ≡ 1 = fold-Param ℕ expr_depth_step i in
      bounded_is _ _ 1 _ 1 _ (fold-Param Form expr_form_step i) (omega arith) (omega arith) (bounded_node 34 _ 0 0 (bounded_number 4294967295 i (sym (fold-Param Bool sized_expr_step i) ∙ sized)));
  lit = λ v columns context t typed sized.
      let n : expr_nodes (E.Lit v) ≡ 1 = fold-Lit ℕ expr_nodes_step v in
      let d : expr_depth (E.Lit v) ≡ 1 = fold-Lit ℕ expr_depth_step v in
      let within = (allowed_parts (is_within_limits v) (type_of_value v) t (sym (type_under-Lit columns context v) ∙ typed)).0 in
      bounded_is _ _ 1 _ 1 _ (fold-Lit Form expr_form_step v) (omega arith) (omega arith) (literal_bounded v within);
  bin = λ op a b x y columns context t typed sized.
      let n : expr_nodes (E.Bin op a b) ≡ 1 + (expr_nodes a + expr_nodes b) = fold-Bin ℕ expr_nodes_step op a b in
      let d : expr_depth (E.Bin op a b) ≡ 1 + max (expr_depth a) (expr_depth b) = fold-Bin ℕ expr_depth_step op a b in
      let parts = and_parts (is_sized_expr a) (is_sized_expr b) (sym (fold-Bin Bool sized_expr_step op a b) ∙ sized) in
      let sides = operator_sides op (type_under a columns context) (type_under b columns context) t (sym (type_under-Bin columns context op a b) ∙ typed) in
      let below = max (expr_depth a) (expr_depth b) in
      let left = bounded_more _ _ (expr_nodes a) _ below (omega arith) (omega arith) (x columns context sides.first sides.left parts.0) in
      let right = bounded_more _ _ (expr_nodes b) _ below (omega arith) (omega arith) (y columns context sides.second sides.right parts.1) in
      bounded_is _ _ (1 + (expr_nodes a + expr_nodes b)) _ (1 + below) _ (fold-Bin Form expr_form_step op a b) (omega arith) (omega arith)
      (bounded_node 38 _ (expr_nodes a + expr_nodes b) below (bounded_behind _ _ (expr_nodes a + expr_nodes b) below (bounded_number 255 (op_number op) (op_small op)) (bounded_then _ _ (expr_nodes a) (expr_nodes b) below left right)));
  not = λ a x columns context t typed sized.
      let n : expr_nodes (E.Not a) ≡ 1 + expr_nodes a = fold-Not ℕ expr_nodes_step a in
      let d : expr_depth (E.Not a) ≡ 1 + expr_depth a = fold-Not ℕ expr_depth_step a in
      let side = is_of-equal ty.Bool (type_under a columns context) (allowed_parts (is_of ty.Bool (type_under a columns context)) ty.Bool t (sym (type_under-Not columns context a) ∙ typed)).0 in
      bounded_is _ _ (1 + expr_nodes a) _ (1 + expr_depth a) _ (fold-Not Form expr_form_step a) (omega arith) (omega arith) (bounded_node 39 _ _ _ (x columns context ty.Bool side (sym (fold-Not Bool sized_expr_step a) ∙ sized)));
  cond = λ c a b w x y columns context t typed sized.
      let n : expr_nodes (E.If c a b) ≡ 1 + (expr_nodes c + (expr_nodes a + expr_nodes b)) = fold-If ℕ expr_nodes_step c a b in
      let d : expr_depth (E.If c a b) ≡ 1 + max (expr_depth c) (max (expr_depth a) (expr_depth b)) = fold-If ℕ expr_depth_step c a b in
      let parts = and_parts (is_sized_expr c) (is_sized_expr a && is_sized_expr b) (sym (fold-If Bool sized_expr_step c a b) ∙ sized) in
      let others = and_parts (is_sized_expr a) (is_sized_expr b) parts.1 in
      let test = if_parts (is_of ty.Bool (type_under c columns context)) (agreed (type_under a columns context) (type_under b columns context)) t (sym (type_under-If columns context c a b) ∙ typed) in
      let sides = agreed_parts (type_under a columns context) (type_under b columns context) t test.1 in
      let below = max (expr_depth c) (max (expr_depth a) (expr_depth b)) in
      let first = bounded_more _ _ (expr_nodes c) _ below (omega arith) (omega arith) (w columns context ty.Bool (is_of-equal ty.Bool (type_under c columns context) test.0) parts.0) in
      let left = bounded_more _ _ (expr_nodes a) _ below (omega arith) (omega arith) (x columns context t sides.0 others.0) in
      let right = bounded_more _ _ (expr_nodes b) _ below (omega arith) (omega arith) (y columns context t sides.1 others.1) in
      bounded_is _ _ (1 + (expr_nodes c + (expr_nodes a + expr_nodes b))) _ (1 + below) _ (fold-If Form expr_form_step c a b) (omega arith) (omega arith)
      (bounded_node 40 _ (expr_nodes c + (expr_nodes a + expr_nodes b)) below (bounded_then _ _ (expr_nodes c) (expr_nodes a + expr_nodes b) below first (bounded_then _ _ (expr_nodes a) (expr_nodes b) below left right)));
}

-- typed expressions beside one another
each_formed : (es : List Expr) (columns : List Ty) (context : Context) (types : List Ty) → types_of_each es columns context ≡ Some types → list_all is_sized_expr es ≡ true → Each ExprBounded es
each_formed [] columns context types typed sized = none
each_formed (e ∷ es) columns context types typed sized =
    let parts = both_parts (λ t ts. t ∷ ts) (type_under e columns context) (types_of_each es columns context) types typed in
    let sizes = and_parts (is_sized_expr e) (list_all is_sized_expr es) sized in
    one (expr_formed e columns context parts.0 parts.2 sizes.0) (each_formed es columns context parts.1 parts.3 sizes.1)

pub exprs_formed : (es : List Expr) (columns : List Ty) (context : Context) (types : List Ty) → types_of_each es columns context ≡ Some types → list_all is_sized_expr es ≡ true → Bounded (in_turn (map expr_form es)) (all_expr_nodes es) (deepest_expr es)
exprs_formed es columns context types typed sized =
    let most = deepest_expr es in
    bounded_each expr_form expr_nodes most
    (each_weaker _ (λ e. Bounded (expr_form e) (expr_nodes e) most) (λ e both. let deep = both.1 in bounded_more (expr_form e) (expr_nodes e) (expr_nodes e) (expr_depth e) most (omega arith) (omega arith) both.0)
    (each_both ExprBounded (λ e. expr_depth e ≤ most) (each_formed es columns context types typed sized) (deep_each expr_depth es)))

-- as many types as things
pub each_length : {X : Type 0} (os : List (Option X)) (xs : List X) → each os ≡ Some xs → length xs ≡ length os
each_length [] [] is = refl
each_length [] (x ∷ xs) is = cc
each_length (o ∷ os) xs is =
    let parts = both_parts (λ x xs. x ∷ xs) o (each os) xs is in
    let rest = each_length os parts.1 parts.3 in
    let whole = ap (λ (ys : List _). length ys) parts.4 in
    omega arith

-- a bound
pub bound_formed : (b : Bound) (t : Ty) (context : Context) → is_bound t b context ≡ true → is_sized_bound b ≡ true → Bounded (bound_form b) (bound_nodes b) (bound_depth b)
bound_formed Any t context typed sized = bounded_number 255 0 refl
bound_formed (Incl e) t context typed sized = bounded_behind _ _ _ _ (bounded_number 255 1 refl) (expr_formed e [] context t (is_of-equal t (type_under e [] context) typed) sized)
bound_formed (Excl e) t context typed sized = bounded_behind _ _ _ _ (bounded_number 255 2 refl) (expr_formed e [] context t (is_of-equal t (type_under e [] context) typed) sized)
