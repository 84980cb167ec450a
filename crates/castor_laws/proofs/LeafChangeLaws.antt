-- Changes of expressions that go through to the columns and scopes, and what those keep.
use Rattle.std.proofs.Common.{◌≡◌, ◌∙◌, ℕ, List, sym, ap, Bool, true, false, ◌&&◌, ◌||◌, slice_get}
use Rattle.std.proofs.lemmas.Bool.{and_from, or_from, or_parts}
use Rattle.castor_val.specs.declared.value.Ty.{Ty}
use Rattle.castor_val.specs.declared.value.Value.{Value}
use Rattle.castor_alg.specs.declared.context.Context.{Context}
use Rattle.castor_alg.specs.declared.expr.Op.{Op}
use Rattle.castor_alg.specs.declared.expr.Expr.{Expr}
use Rattle.castor_alg.specs.declared.expr.Expr as E
use Rattle.castor_alg.specs.declared.expr.Expr.TheVariants.{rolls-Param, rolls-Lit, rolls-Bin, rolls-Not, rolls-If}
use Rattle.castor_alg.specs.FreeScopes.{reads, reads_step}
use Rattle.castor_alg.specs.Substitution.{cols_to_scope, cols_to_scope_step, subst_cols, subst_cols_step, subst_scope_expr, subst_scope_expr_step}
use Rattle.castor_alg.specs.Totality.{is_total_expr, is_total_op, total_expr_step}
use Rattle.castor_alg.specs.Typing.{type_under}
use Rattle.castor_alg.proofs.ExprInduction.{expr_induction, fold-Col, fold-Scope, fold-Param, fold-Lit, fold-Bin, fold-Not, fold-If}
use Rattle.castor_laws.specs.ColumnFree.{column_free_step, is_column_free}
use Rattle.castor_laws.proofs.TypeClauseLaws.{type_under-Param, type_under-Lit, type_under-Bin, type_under-Not, type_under-If}
use Rattle.castor_laws.proofs.TypeKeepLaws.{Keeps, choice_keeps, kept_by, kept_same, negation_keeps, operator_keeps}

-- the change leaves parameters and literals as they are, and is made in each part
pub record ChangesLeaves (f : Expr → Expr) : Type 0 where
  pub param : (i : ℕ) → f (E.Param i) ≡ E.Param i
  pub lit : (v : Value) → f (E.Lit v) ≡ E.Lit v
  pub bin : (op : Op) (a b : Expr) → f (E.Bin op a b) ≡ E.Bin op (f a) (f b)
  pub not : (a : Expr) → f (E.Not a) ≡ E.Not (f a)
  pub cond : (c a b : Expr) → f (E.If c a b) ≡ E.If (f c) (f a) (f b)

pub columns_change : (by : List Expr) → ChangesLeaves (subst_cols by)
columns_change by = record {
  param = λ i. fold-Param Expr (subst_cols_step by) i ∙ rolls-Param i;
  lit = λ v. fold-Lit Expr (subst_cols_step by) v ∙ rolls-Lit v;
  bin = λ op a b. fold-Bin Expr (subst_cols_step by) op a b ∙ rolls-Bin op (subst_cols by a) (subst_cols by b);
  not = λ a. fold-Not Expr (subst_cols_step by) a ∙ rolls-Not (subst_cols by a);
  cond = λ c a b. fold-If Expr (subst_cols_step by) c a b ∙ rolls-If (subst_cols by c) (subst_cols by a) (subst_cols by b);
}

pub columns_change_to_scope : (k : ℕ) → ChangesLeaves (cols_to_scope k)
columns_change_to_scope k = record {
  param = λ i. fold-Param Expr (cols_to_scope_step k) i ∙ rolls-Param i;
  lit = λ v. fold-Lit Expr (cols_to_scope_step k) v ∙ rolls-Lit v;
  bin = λ op a b. fold-Bin Expr (cols_to_scope_step k) op a b ∙ rolls-Bin op (cols_to_scope k a) (cols_to_scope k b);
  not = λ a. fold-Not Expr (cols_to_scope_step k) a ∙ rolls-Not (cols_to_scope k a);
  cond = λ c a b. fold-If Expr (cols_to_scope_step k) c a b ∙ rolls-If (cols_to_scope k c) (cols_to_scope k a) (cols_to_scope k b);
}

pub scope_changes : (k : ℕ) (by : List Expr) → ChangesLeaves (subst_scope_expr k by)
scope_changes k by = record {
  param = λ i. fold-Param Expr (subst_scope_expr_step k by) i ∙ rolls-Param i;
  lit = λ v. fold-Lit Expr (subst_scope_expr_step k by) v ∙ rolls-Lit v;
  bin = λ op a b. fold-Bin Expr (subst_scope_expr_step k by) op a b ∙ rolls-Bin op (subst_scope_expr k by a) (subst_scope_expr k by b);
  not = λ a. fold-Not Expr (subst_scope_expr_step k by) a ∙ rolls-Not (subst_scope_expr k by a);
  cond = λ c a b. fold-If Expr (subst_scope_expr_step k by) c a b ∙ rolls-If (subst_scope_expr k by c) (subst_scope_expr k by a) (subst_scope_expr k by b);
}

module _ (f : Expr → Expr) (changes : ChangesLeaves f) where
  -- what has a type keeps it where columns and scopes do
  module _ (columns inner : List Ty) (context changed : Context) (params : context.params ≡ changed.params) where
    abbrev TypeKept : Expr → Type 0
    TypeKept e = Keeps (type_under e columns context) (type_under (f e) inner changed)

    pub change_keeps_types : ((i : ℕ) → TypeKept (E.Col i)) → ((j i : ℕ) → TypeKept (E.Scope j i)) → (e : Expr) → TypeKept e
    change_keeps_types cols scopes = expr_induction TypeKept record {
      col = cols;
      scope = scopes;
      param = λ i. kept_same (type_under-Param columns context i ∙ ap (λ (ts : List Ty). slice_get ts i) params ∙ sym (ap (λ (e : Expr). type_under e inner changed) (changes.param i) ∙ type_under-Param inner changed i));
      lit = λ v. kept_same (type_under-Lit columns context v ∙ sym (ap (λ (e : Expr). type_under e inner changed) (changes.lit v) ∙ type_under-Lit inner changed v));
      bin = λ op a b x y.
          kept_by (type_under-Bin columns context op a b) (ap (λ (e : Expr). type_under e inner changed) (changes.bin op a b) ∙ type_under-Bin inner changed op (f a) (f b))
          (operator_keeps op (type_under a columns context) (type_under b columns context) (type_under (f a) inner changed) (type_under (f b) inner changed) x y);
      not = λ a x.
          kept_by (type_under-Not columns context a) (ap (λ (e : Expr). type_under e inner changed) (changes.not a) ∙ type_under-Not inner changed (f a))
          (negation_keeps (type_under a columns context) (type_under (f a) inner changed) x);
      cond = λ c a b w x y.
          kept_by (type_under-If columns context c a b) (ap (λ (e : Expr). type_under e inner changed) (changes.cond c a b) ∙ type_under-If inner changed (f c) (f a) (f b))
          (choice_keeps (type_under c columns context) (type_under a columns context) (type_under b columns context) (type_under (f c) inner changed) (type_under (f a) inner changed) (type_under (f b) inner changed) w x y);
    }

  -- an expression is total as before where columns and scopes become total expressions
  abbrev StaysTotal : Expr → Type 0
  StaysTotal e = is_total_expr (f e) ≡ is_total_expr e

  pub change_stays_total : ((i : ℕ) → is_total_expr (f (E.Col i)) ≡ true) → ((j i : ℕ) → is_total_expr (f (E.Scope j i)) ≡ true) → (e : Expr) → StaysTotal e
  change_stays_total cols scopes = expr_induction StaysTotal record {
    col = λ i. cols i ∙ sym (fold-Col Bool total_expr_step i);
    scope = λ j i. scopes j i ∙ sym (fold-Scope Bool total_expr_step j i);
    param = λ i. ap is_total_expr (changes.param i);
    lit = λ v. ap is_total_expr (changes.lit v);
    bin = λ op a b x y.
        ap is_total_expr (changes.bin op a b) ∙ fold-Bin Bool total_expr_step op (f a) (f b) ∙ (λ i. is_total_op op && (x i && y i)) ∙ sym (fold-Bin Bool total_expr_step op a b);
    not = λ a x. ap is_total_expr (changes.not a) ∙ fold-Not Bool total_expr_step (f a) ∙ x ∙ sym (fold-Not Bool total_expr_step a);
    cond = λ c a b w x y.
        ap is_total_expr (changes.cond c a b) ∙ fold-If Bool total_expr_step (f c) (f a) (f b) ∙ (λ i. w i && (x i && y i)) ∙ sym (fold-If Bool total_expr_step c a b);
  }

  -- an expression has no columns where columns and scopes become expressions without
  abbrev LosesColumns : Expr → Type 0
  LosesColumns e = is_column_free (f e) ≡ true

  pub change_loses_columns : ((i : ℕ) → LosesColumns (E.Col i)) → ((j i : ℕ) → LosesColumns (E.Scope j i)) → (e : Expr) → LosesColumns e
  change_loses_columns cols scopes = expr_induction LosesColumns record {
    col = cols;
    scope = scopes;
    param = λ i. ap is_column_free (changes.param i) ∙ fold-Param Bool column_free_step i;
    lit = λ v. ap is_column_free (changes.lit v) ∙ fold-Lit Bool column_free_step v;
    bin = λ op a b x y. ap is_column_free (changes.bin op a b) ∙ fold-Bin Bool column_free_step op (f a) (f b) ∙ and_from (is_column_free (f a)) (is_column_free (f b)) x y;
    not = λ a x. ap is_column_free (changes.not a) ∙ fold-Not Bool column_free_step (f a) ∙ x;
    cond = λ c a b w x y.
        ap is_column_free (changes.cond c a b) ∙ fold-If Bool column_free_step (f c) (f a) (f b)
        ∙ and_from (is_column_free (f c)) (is_column_free (f a) && is_column_free (f b)) w (and_from (is_column_free (f a)) (is_column_free (f b)) x y);
  }

  -- a scope that isn't read, or one whose reads go, isn't read where columns and scopes become expressions that don't read it
  module _ (j : ℕ) (goes : Bool) where
    abbrev Unread : Expr → Type 0
    Unread e = goes ≡ false → reads j e ≡ false

    abbrev StaysUnread : Expr → Type 0
    StaysUnread e = Unread e → reads j (f e) ≡ false

    pub change_reads_no_more : ((i : ℕ) → reads j (f (E.Col i)) ≡ false) → ((m i : ℕ) → StaysUnread (E.Scope m i)) → (e : Expr) → StaysUnread e
    change_reads_no_more cols scopes = expr_induction StaysUnread record {
      col = λ i unread. cols i;
      scope = scopes;
      param = λ i unread. ap (reads j) (changes.param i) ∙ fold-Param Bool (reads_step j) i;
      lit = λ v unread. ap (reads j) (changes.lit v) ∙ fold-Lit Bool (reads_step j) v;
      bin = λ op a b x y unread.
          let parts = λ (stays : goes ≡ false). or_parts (reads j a) (reads j b) (sym (fold-Bin Bool (reads_step j) op a b) ∙ unread stays) in
          ap (reads j) (changes.bin op a b) ∙ fold-Bin Bool (reads_step j) op (f a) (f b)
          ∙ or_from (reads j (f a)) (reads j (f b)) (x (λ stays. (parts stays).0)) (y (λ stays. (parts stays).1));
      not = λ a x unread.
          ap (reads j) (changes.not a) ∙ fold-Not Bool (reads_step j) (f a) ∙ x (λ stays. sym (fold-Not Bool (reads_step j) a) ∙ unread stays);
      cond = λ c a b w x y unread.
          let parts = λ (stays : goes ≡ false). or_parts (reads j c) (reads j a || reads j b) (sym (fold-If Bool (reads_step j) c a b) ∙ unread stays) in
          let sides = λ (stays : goes ≡ false). or_parts (reads j a) (reads j b) (parts stays).1 in
          ap (reads j) (changes.cond c a b) ∙ fold-If Bool (reads_step j) (f c) (f a) (f b)
          ∙ or_from (reads j (f c)) (reads j (f a) || reads j (f b)) (w (λ stays. (parts stays).0))
          (or_from (reads j (f a)) (reads j (f b)) (x (λ stays. (sides stays).0)) (y (λ stays. (sides stays).1)));
    }
