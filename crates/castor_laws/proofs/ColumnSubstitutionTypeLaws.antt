-- The type of an expression whose columns are replaced.
use Rattle.std.proofs.Common.{◌≡◌, ◌∙◌, ℕ, zero, suc, List, [], ◌∷◌, map, cond, refl, sym, ap, Bool, false, Some, option_and_then, slice_get}
use Rattle.std.specs.List.{list_any}
use Rattle.std.proofs.lemmas.Bool.{eq-eqb, or_parts}
use Rattle.castor_val.specs.declared.row.Row.{Row}
use Rattle.castor_val.specs.declared.value.Ty.{Ty}
use Rattle.castor_alg.specs.declared.context.Context.{Context}
use Rattle.castor_alg.specs.declared.expr.Expr.{Expr}
use Rattle.castor_alg.specs.declared.expr.Expr.TheVariants.{rolls-Scope}
use Rattle.castor_alg.specs.Expression.{expr_value, put_front}
use Rattle.castor_alg.specs.FreeScopes.{reads}
use Rattle.castor_alg.specs.Scopes.{Scopes, bind}
use Rattle.castor_alg.specs.Substitution.{cols_to_scope, cols_to_scope_step, replacing, subst_cols, subst_cols_step}
use Rattle.castor_alg.specs.Typing.{choice_type, extended, negation_type, operator_type, scope_types, type_under, types_of_each, with_both}
use Rattle.castor_alg.proofs.ExprInduction.{expr_induction, fold-Col, fold-Scope}
use Rattle.castor_laws.specs.Substitution.{ColumnsOfEachAreOfBound}
use Rattle.castor_laws.specs.SubstitutionTypes.{ColumnsHaveBoundTypes, ColumnsHaveScopeTypes, ColumnsHaveTypes, ColumnsOfEachHaveBoundTypes, ColumnsOfEachHaveTypes}
use Rattle.castor_laws.proofs.ColumnSubstitutionLaws.{columns_are_of_scope}
use Rattle.castor_laws.proofs.FreeScopeLaws.{value_ignores}
use Rattle.castor_laws.proofs.LeafChangeLaws.{change_keeps_types, columns_change, columns_change_to_scope}
use Rattle.castor_laws.proofs.TypeClauseLaws.{type_under-Col, type_under-Scope, type_under-Param, type_under-Lit, type_under-Bin, type_under-Not, type_under-If}
use Rattle.castor_laws.proofs.TypeKeepLaws.{both_keep, kept_by, kept_same}
use Rattle.castor_laws.proofs.TypePartLaws.{both_parts}
use Rattle.castor_laws.proofs.TypeScopeLaws.{expr_type_rests, scope_types-bound, type_ignores}

missing : {P : Type 0} (i : ℕ) (t : Ty) → slice_get [] i ≡ Some t → P
missing i t is = cc

-- each column that is there has the type of the expression that replaces it
pub replacing_type : (by : List Expr) (inner columns : List Ty) (context : Context) → types_of_each by inner context ≡ Some columns → (i : ℕ) (t : Ty) → slice_get columns i ≡ Some t → type_under (replacing by i) inner context ≡ Some t
replacing_type [] inner columns context known i t found =
    let none : [] ≡ columns = cc in
    missing i t (ap (λ (ts : List Ty). slice_get ts i) none ∙ found)
replacing_type (e ∷ es) inner columns context known zero t found =
    let parts = both_parts (λ t ts. t ∷ ts) (type_under e inner context) (types_of_each es inner context) columns known in
    parts.2 ∙ ap (λ (ts : List Ty). slice_get ts 0) parts.4 ∙ found
replacing_type (e ∷ es) inner columns context known (suc i) t found =
    let parts = both_parts (λ t ts. t ∷ ts) (type_under e inner context) (types_of_each es inner context) columns known in
    replacing_type es inner parts.1 context parts.3 i t (ap (λ (ts : List Ty). slice_get ts (suc i)) parts.4 ∙ found)

module _ (by : List Expr) where
  pub columns_have_types : (e : Expr) → ColumnsHaveTypes by e
  columns_have_types e inner columns context known =
      change_keeps_types (subst_cols by) (columns_change by) columns inner context context refl
      (λ i. kept_by (type_under-Col columns context i) (ap (λ (e : Expr). type_under e inner context) (fold-Col Expr (subst_cols_step by) i)) (λ t. replacing_type by inner columns context known i t))
      (λ j i. kept_same (type_under-Scope columns context j i ∙ sym (ap (λ (e : Expr). type_under e inner context) (fold-Scope Expr (subst_cols_step by) j i ∙ rolls-Scope j i) ∙ type_under-Scope inner context j i)))
      e

  pub columns_of_each_have_types : (es : List Expr) → ColumnsOfEachHaveTypes by es
  columns_of_each_have_types [] inner columns context known types is = is
  columns_of_each_have_types (e ∷ es) inner columns context known types is =
      both_keep (λ t ts. t ∷ ts) (type_under e columns context) (types_of_each es columns context) (type_under (subst_cols by e) inner context) (types_of_each (map (subst_cols by) es) inner context)
      (columns_have_types e inner columns context known) (columns_of_each_have_types es inner columns context known) types is

module _ (k : ℕ) where
  -- in one context, where the scope has the types of the columns
  abbrev HasScopeType : Expr → Type 0
  HasScopeType e = (inner columns : List Ty) (context : Context) → scope_types context.scopes k ≡ Some columns → type_under (cols_to_scope k e) inner context ≡ type_under e columns context

  has_scope_type : (e : Expr) → HasScopeType e
  has_scope_type =
      let changes = columns_change_to_scope k in
      expr_induction HasScopeType record {
        col = λ i inner columns context known.
            ap (λ (e : Expr). type_under e inner context) (fold-Col Expr (cols_to_scope_step k) i)
            ∙ type_under-Scope inner context k i ∙ ap (option_and_then (λ types. slice_get types i)) known ∙ sym (type_under-Col columns context i);
        scope = λ j i inner columns context known.
            ap (λ (e : Expr). type_under e inner context) (fold-Scope Expr (cols_to_scope_step k) j i ∙ rolls-Scope j i)
            ∙ type_under-Scope inner context j i ∙ sym (type_under-Scope columns context j i);
        param = λ i inner columns context known. ap (λ (e : Expr). type_under e inner context) (changes.param i) ∙ type_under-Param inner context i ∙ sym (type_under-Param columns context i);
        lit = λ v inner columns context known. ap (λ (e : Expr). type_under e inner context) (changes.lit v) ∙ type_under-Lit inner context v ∙ sym (type_under-Lit columns context v);
        bin = λ op a b x y inner columns context known.
            ap (λ (e : Expr). type_under e inner context) (changes.bin op a b) ∙ type_under-Bin inner context op (cols_to_scope k a) (cols_to_scope k b)
            ∙ (λ i. operator_type op (x inner columns context known i) (y inner columns context known i)) ∙ sym (type_under-Bin columns context op a b);
        not = λ a x inner columns context known.
            ap (λ (e : Expr). type_under e inner context) (changes.not a) ∙ type_under-Not inner context (cols_to_scope k a)
            ∙ ap negation_type (x inner columns context known) ∙ sym (type_under-Not columns context a);
        cond = λ c a b w x y inner columns context known.
            ap (λ (e : Expr). type_under e inner context) (changes.cond c a b) ∙ type_under-If inner context (cols_to_scope k c) (cols_to_scope k a) (cols_to_scope k b)
            ∙ (λ i. choice_type (w inner columns context known i) (x inner columns context known i) (y inner columns context known i)) ∙ sym (type_under-If columns context c a b);
      }

  pub columns_have_scope_types : (e : Expr) → ColumnsHaveScopeTypes k e
  columns_have_scope_types e inner columns context others agree known =
      has_scope_type e inner columns (record context { scopes = others }) known ∙ sym (expr_type_rests e columns context others agree)

  pub columns_have_bound_types : (e : Expr) → ColumnsHaveBoundTypes k e
  columns_have_bound_types e unread inner columns context =
      has_scope_type e inner columns (extended context k columns) (scope_types-bound context k columns) ∙ type_ignores e k unread columns context columns

  pub columns_of_each_have_bound_types : (es : List Expr) → ColumnsOfEachHaveBoundTypes k es
  columns_of_each_have_bound_types [] unread inner columns context = refl
  columns_of_each_have_bound_types (e ∷ es) unread inner columns context =
      let parts = or_parts (reads k e) (list_any (reads k) es) unread in
      λ i. with_both (λ t ts. t ∷ ts) (columns_have_bound_types e parts.0 inner columns context i) (columns_of_each_have_bound_types es parts.1 inner columns context i)

  bound_here : (env : Scopes) (row : Row) → bind env k row k ≡ row
  bound_here env row = ap (λ (b : Bool). cond b row (env k)) (eq-eqb k k refl)

  value_of_bound : (e : Expr) → reads k e ≡ false → (row other : Row) (env : Scopes) (p : Row) → expr_value (cols_to_scope k e) other (bind env k row) p ≡ expr_value e row env p
  value_of_bound e unread row other env p =
      columns_are_of_scope k e other (bind env k row) p
      ∙ ap (λ (r : Row). expr_value e r (bind env k row) p) (bound_here env row)
      ∙ value_ignores e k unread row env row p

  pub columns_of_each_are_of_bound : (es : List Expr) → ColumnsOfEachAreOfBound k es
  columns_of_each_are_of_bound [] unread row other env p = refl
  columns_of_each_are_of_bound (e ∷ es) unread row other env p =
      let parts = or_parts (reads k e) (list_any (reads k) es) unread in
      λ i. put_front (value_of_bound e parts.0 row other env p i) (columns_of_each_are_of_bound es parts.1 row other env p i)
