-- An expression without columns has one value and one type over every row.
use Rattle.std.proofs.Common.{◌≡◌, ◌∙◌, ℕ, List, [], ◌∷◌, Bool, true, false, ◌&&◌, refl, sym, ap, Some, slice_get}
use Rattle.std.specs.List.{list_all}
use Rattle.std.proofs.lemmas.Bool.{and_from, and_parts}
use Rattle.castor_val.specs.declared.value.Ty.{Ty}
use Rattle.castor_val.specs.declared.value.Ty.TheVariants.{Bool as Truth}
use Rattle.castor_alg.specs.declared.context.Context.{Context}
use Rattle.castor_alg.specs.declared.expr.Expr.{Expr}
use Rattle.castor_alg.specs.Expression.{apply, both_sides, choice, negation}
use Rattle.castor_alg.specs.Typing.{agreed, choice_type, is_of, negation_type, operator_type, type_under, types_of_each, with_both}
use Rattle.castor_alg.proofs.ExprInduction.{expr_induction, fold-Col, fold-Scope, fold-Param, fold-Lit, fold-Bin, fold-Not, fold-If}
use Rattle.castor_laws.proofs.ExprClauseLaws.{expr_value-Scope, expr_value-Param, expr_value-Lit, expr_value-Bin, expr_value-Not, expr_value-If}
use Rattle.castor_laws.proofs.TypeClauseLaws.{type_under-Col, type_under-Scope, type_under-Param, type_under-Lit, type_under-Bin, type_under-Not, type_under-If}
use Rattle.castor_laws.proofs.TypeKeepLaws.{operator_gives, strict_gives}
use Rattle.castor_laws.proofs.TypePartLaws.{agreed_parts, both_parts, if_parts, is_of-equal}
use Rattle.castor_laws.specs.ColumnFree.{ClosedIsColumnFree, TypeIgnoresColumns, ValueIgnoresRow, column_free_step, is_column_free}

clash : {P : Type 0} → false ≡ true → P
clash is = cc

pub value_without_columns : (e : Expr) → ValueIgnoresRow e
value_without_columns = expr_induction ValueIgnoresRow record {
  col = λ i is row other env p. clash (sym (fold-Col Bool column_free_step i) ∙ is);
  scope = λ k i is row other env p. expr_value-Scope row env p k i ∙ sym (expr_value-Scope other env p k i);
  param = λ i is row other env p. expr_value-Param row env p i ∙ sym (expr_value-Param other env p i);
  lit = λ v is row other env p. expr_value-Lit row env p v ∙ sym (expr_value-Lit other env p v);
  bin = λ op a b x y is row other env p.
      let parts = and_parts (is_column_free a) (is_column_free b) (sym (fold-Bin Bool column_free_step op a b) ∙ is) in
      expr_value-Bin row env p op a b ∙ (λ i. both_sides (apply op) (x parts.0 row other env p i) (y parts.1 row other env p i)) ∙ sym (expr_value-Bin other env p op a b);
  not = λ a x is row other env p.
      expr_value-Not row env p a ∙ ap negation (x (sym (fold-Not Bool column_free_step a) ∙ is) row other env p) ∙ sym (expr_value-Not other env p a);
  cond = λ c a b w x y is row other env p.
      let parts = and_parts (is_column_free c) (is_column_free a && is_column_free b) (sym (fold-If Bool column_free_step c a b) ∙ is) in
      let sides = and_parts (is_column_free a) (is_column_free b) parts.1 in
      expr_value-If row env p c a b ∙ (λ i. choice (w parts.0 row other env p i) (x sides.0 row other env p i) (y sides.1 row other env p i)) ∙ sym (expr_value-If other env p c a b);
}

pub type_without_columns : (e : Expr) → TypeIgnoresColumns e
type_without_columns = expr_induction TypeIgnoresColumns record {
  col = λ i is columns others context. clash (sym (fold-Col Bool column_free_step i) ∙ is);
  scope = λ k i is columns others context. type_under-Scope columns context k i ∙ sym (type_under-Scope others context k i);
  param = λ i is columns others context. type_under-Param columns context i ∙ sym (type_under-Param others context i);
  lit = λ v is columns others context. type_under-Lit columns context v ∙ sym (type_under-Lit others context v);
  bin = λ op a b x y is columns others context.
      let parts = and_parts (is_column_free a) (is_column_free b) (sym (fold-Bin Bool column_free_step op a b) ∙ is) in
      type_under-Bin columns context op a b ∙ (λ i. operator_type op (x parts.0 columns others context i) (y parts.1 columns others context i)) ∙ sym (type_under-Bin others context op a b);
  not = λ a x is columns others context.
      type_under-Not columns context a ∙ ap negation_type (x (sym (fold-Not Bool column_free_step a) ∙ is) columns others context) ∙ sym (type_under-Not others context a);
  cond = λ c a b w x y is columns others context.
      let parts = and_parts (is_column_free c) (is_column_free a && is_column_free b) (sym (fold-If Bool column_free_step c a b) ∙ is) in
      let sides = and_parts (is_column_free a) (is_column_free b) parts.1 in
      type_under-If columns context c a b ∙ (λ i. choice_type (w parts.0 columns others context i) (x sides.0 columns others context i) (y sides.1 columns others context i)) ∙ sym (type_under-If others context c a b);
}

-- and so have several
pub types_without_columns : (es : List Expr) → list_all is_column_free es ≡ true → (columns others : List Ty) (context : Context) → types_of_each es columns context ≡ types_of_each es others context
types_without_columns [] free columns others context = refl
types_without_columns (e ∷ es) free columns others context =
    let parts = and_parts (is_column_free e) (list_all is_column_free es) free in
    λ i. with_both (λ t ts. t ∷ ts) (type_without_columns e parts.0 columns others context i) (types_without_columns es parts.1 columns others context i)

no_column : {P : Type 0} (i : ℕ) (t : Ty) → slice_get [] i ≡ Some t → P
no_column i t is = cc

-- what has a type over no columns has none
pub closed_is_column_free : (e : Expr) → ClosedIsColumnFree e
closed_is_column_free = expr_induction ClosedIsColumnFree record {
  col = λ i context t typed. no_column i t (sym (type_under-Col [] context i) ∙ typed);
  scope = λ k i context t typed. fold-Scope Bool column_free_step k i;
  param = λ i context t typed. fold-Param Bool column_free_step i;
  lit = λ v context t typed. fold-Lit Bool column_free_step v;
  bin = λ op a b x y context t typed.
      let sides = operator_gives op (type_under a [] context) (type_under b [] context) t (sym (type_under-Bin [] context op a b) ∙ typed) in
      fold-Bin Bool column_free_step op a b ∙ and_from (is_column_free a) (is_column_free b) (x context sides.0.0 sides.0.1) (y context sides.1.0 sides.1.1);
  not = λ a x context t typed.
      let part = strict_gives negation_type refl (type_under a [] context) t (sym (type_under-Not [] context a) ∙ typed) in
      fold-Not Bool column_free_step a ∙ x context part.0 part.1;
  cond = λ c a b w x y context t typed.
      let parts = if_parts (is_of Truth (type_under c [] context)) (agreed (type_under a [] context) (type_under b [] context)) t (sym (type_under-If [] context c a b) ∙ typed) in
      let sides = agreed_parts (type_under a [] context) (type_under b [] context) t parts.1 in
      fold-If Bool column_free_step c a b
      ∙ and_from (is_column_free c) (is_column_free a && is_column_free b) (w context Truth (is_of-equal Truth (type_under c [] context) parts.0))
      (and_from (is_column_free a) (is_column_free b) (x context t sides.0) (y context t sides.1));
}

pub each_closed_is_column_free : (es : List Expr) (context : Context) (types : List Ty) → types_of_each es [] context ≡ Some types → list_all is_column_free es ≡ true
each_closed_is_column_free [] context types typed = refl
each_closed_is_column_free (e ∷ es) context types typed =
    let parts = both_parts (λ t ts. t ∷ ts) (type_under e [] context) (types_of_each es [] context) types typed in
    and_from (is_column_free e) (list_all is_column_free es) (closed_is_column_free e context parts.0 parts.2) (each_closed_is_column_free es context parts.1 parts.3)
