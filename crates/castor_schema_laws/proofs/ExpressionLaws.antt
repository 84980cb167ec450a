-- An expression that isn't refused has its type in the algebra, and as many nodes and the same depth as its tree of names.
use Rattle.std.proofs.Common.{◌≡◌, ◌∙◌, ℕ, ◌+◌, max, refl, sym, ap, subst, List, map, Bool, true, false, ◌&&◌, Option, Some, None, Result, Ok, Err, slice_get, option_map, option_and_then, nat_le, length}
use Rattle.std.specs.Prelude.{ok_or, position}
use Rattle.std.specs.Str.{bytes_eq}
use Rattle.std.proofs.lemmas.Option.{slice_get-map}
use Rattle.castor_val.specs.declared.column.Column.{Column}
use Rattle.castor_val.specs.declared.value.Ty.{Ty}
use Rattle.castor_val.specs.declared.value.Value.{Value}
use Rattle.castor_alg.specs.declared.context.Context.{Context}
use Rattle.castor_alg.specs.declared.expr.Op.{Op}
use Rattle.castor_alg.specs.declared.expr.Expr.{Expr}
use Rattle.castor_alg.specs.declared.expr.Expr as core
use Rattle.castor_alg.specs.Sizes.{expr_depth, expr_depth_step, expr_nodes, expr_nodes_step}
use Rattle.castor_alg.specs.Typing.{ExprTyping, choice_type, expr_type_step, negation_type, operator_type, literal_type, scope_types, type_under}
use Rattle.castor_alg.proofs.ExprInduction as algebra
use Rattle.castor_tree.specs.declared.tree.PCol.{PCol}
use Rattle.castor_tree.specs.declared.tree.PCol.TheVariants.{Name, Dotted, Number}
use Rattle.castor_tree.specs.declared.tree.PExpr.{PExpr}
use Rattle.castor_tree.specs.declared.tree.PExpr as E
use Rattle.castor_tree.specs.declared.tree.Word.{Word}
use Rattle.castor_tree.specs.Sizes as names
use Rattle.castor_names.proofs.Outcomes.{Through, ok_same, through}
use Rattle.castor_names.specs.Names.{by_name, by_qualifier, column_number, types_of}
use Rattle.castor_names.specs.Scopes.{innermost}
use Rattle.castor_names.specs.Turns.{and_then}
use Rattle.castor_names.specs.declared.column.NamedColumn.{NamedColumn}
use Rattle.castor_names.specs.declared.declarations.Declarations.{Declarations}
use Rattle.castor_names.specs.declared.error.SchemaError.{SchemaError}
use Rattle.castor_names.specs.declared.error.SchemaError.TheVariants.{UnknownColumn, UnknownParam}
use Rattle.castor_names.specs.declared.scopes.Scope.{Scope}
use Rattle.castor_exprs.specs.Expressions.{Reading, choice, column_meant, column_read, dotted, expression, expression_step, negation, operation, parameter, scope_number, scope_read, with_type}
use Rattle.castor_exprs.specs.declared.expression.Typed.{Typed}
use Rattle.castor_schema_laws.proofs.Contexts.{InForce, context_in, entries, scope_types-innermost}
use Rattle.castor_schema_laws.proofs.ExprInduction.{ExprCases, expr_induction, fold-Bin, fold-Col, fold-If, fold-Lit, fold-Not, fold-Param, fold-ScopeAt}

-- the expression has the type under the context, and so many nodes and such a depth
pub record IsTyped (context : Context) (columns : List NamedColumn) (count deep : ℕ) (t : Typed) : Type 0 where
  pub typed : type_under t.expr (types_of columns) context ≡ Some t.ty
  pub nodes : expr_nodes t.expr ≡ count
  pub depth : expr_depth t.expr ≡ deep

abbrev under : List NamedColumn → Context → ExprTyping → Option Ty
under columns context m = m (types_of columns) context

abbrev ty_of : NamedColumn → Ty
ty_of c = c.ty

module _ (context : Context) (columns : List NamedColumn) where
  -- a column of the row
  column_by : (number : ℕ) (t : Typed) (o : Option NamedColumn) → slice_get columns number ≡ o
      → ok_or (option_map (λ (c : NamedColumn). let one : Typed = record { expr = core.Col number; ty = c.ty } in one) o) UnknownColumn ≡ Ok t → IsTyped context columns 1 1 t
  column_by number t None at is = absurd cc
  column_by number t (Some c) at is =
      let e : record { expr = core.Col number; ty = c.ty } ≡ t = ok_same _ _ is in
      subst (IsTyped context columns 1 1) e (record {
        typed = ap (under columns context) (algebra.fold-Col ExprTyping expr_type_step number) ∙ slice_get-map ty_of columns number ∙ ap (option_map ty_of) at;
        nodes = algebra.fold-Col ℕ expr_nodes_step number;
        depth = algebra.fold-Col ℕ expr_depth_step number;
      })

  pub column_read-typed : (number : ℕ) (t : Typed) → column_read columns number ≡ Ok t → IsTyped context columns 1 1 t
  column_read-typed number t is = column_by number t (slice_get columns number) refl is

  -- a column of a scope
  scope_by : (scope : Scope) (number : ℕ) (t : Typed) (o : Option NamedColumn) → slice_get scope.columns number ≡ o → scope_types context.scopes scope.number ≡ Some (types_of scope.columns)
      → ok_or (option_map (λ (c : NamedColumn). let one : Typed = record { expr = core.Scope scope.number number; ty = c.ty } in one) o) UnknownColumn ≡ Ok t → IsTyped context columns 1 1 t
  scope_by scope number t None at has is = absurd cc
  scope_by scope number t (Some c) at has is =
      let e : record { expr = core.Scope scope.number number; ty = c.ty } ≡ t = ok_same _ _ is in
      subst (IsTyped context columns 1 1) e (record {
        typed =
            ap (under columns context) (algebra.fold-Scope ExprTyping expr_type_step scope.number number)
            ∙ ap (option_and_then (λ types. slice_get types number)) has
            ∙ slice_get-map ty_of scope.columns number ∙ ap (option_map ty_of) at;
        nodes = algebra.fold-Scope ℕ expr_nodes_step scope.number number;
        depth = algebra.fold-Scope ℕ expr_depth_step scope.number number;
      })

  scope_read-typed : (scope : Scope) (number : ℕ) (t : Typed) → scope_types context.scopes scope.number ≡ Some (types_of scope.columns) → scope_read scope number ≡ Ok t → IsTyped context columns 1 1 t
  scope_read-typed scope number t has is = scope_by scope number t (slice_get scope.columns number) refl has is

  -- operators over typed sides
  with_type-typed : (e : Expr) (o : Option Ty) (t : Typed) (count deep : ℕ) → type_under e (types_of columns) context ≡ o → expr_nodes e ≡ count → expr_depth e ≡ deep → with_type e o ≡ Ok t → IsTyped context columns count deep t
  with_type-typed e None t count deep typed nodes depth is = absurd cc
  with_type-typed e (Some type) t count deep typed nodes depth is =
      subst (IsTyped context columns count deep) (ok_same _ _ is) (record { typed = typed; nodes = nodes; depth = depth })

  pub operation-typed : (op : Op) (a b t : Typed) (n m d g : ℕ) → IsTyped context columns n d a → IsTyped context columns m g b → operation op a b ≡ Ok t → IsTyped context columns (1 + (n + m)) (1 + max d g) t
  unfolding operation
  operation-typed op a b t n m d g left right is =
      with_type-typed (core.Bin op a.expr b.expr) (operator_type op (Some a.ty) (Some b.ty)) t (1 + (n + m)) (1 + max d g)
      (ap (under columns context) (algebra.fold-Bin ExprTyping expr_type_step op a.expr b.expr) ∙ (λ i. operator_type op (left.typed i) (right.typed i)))
      (algebra.fold-Bin ℕ expr_nodes_step op a.expr b.expr ∙ (λ i. 1 + (left.nodes i + right.nodes i)))
      (algebra.fold-Bin ℕ expr_depth_step op a.expr b.expr ∙ (λ i. 1 + max (left.depth i) (right.depth i))) is

  pub negation-typed : (a t : Typed) (n d : ℕ) → IsTyped context columns n d a → negation a ≡ Ok t → IsTyped context columns (1 + n) (1 + d) t
  unfolding negation
  negation-typed a t n d side is =
      with_type-typed (core.Not a.expr) (negation_type (Some a.ty)) t (1 + n) (1 + d)
      (ap (under columns context) (algebra.fold-Not ExprTyping expr_type_step a.expr) ∙ ap negation_type side.typed)
      (algebra.fold-Not ℕ expr_nodes_step a.expr ∙ ap (λ (x : ℕ). 1 + x) side.nodes)
      (algebra.fold-Not ℕ expr_depth_step a.expr ∙ ap (λ (x : ℕ). 1 + x) side.depth) is

  pub choice-typed : (c a b t : Typed) (l n m f d g : ℕ) → IsTyped context columns l f c → IsTyped context columns n d a → IsTyped context columns m g b → choice c a b ≡ Ok t → IsTyped context columns (1 + (l + (n + m))) (1 + max f (max d g)) t
  unfolding choice
  choice-typed c a b t l n m f d g test left right is =
      with_type-typed (core.If c.expr a.expr b.expr) (choice_type (Some c.ty) (Some a.ty) (Some b.ty)) t (1 + (l + (n + m))) (1 + max f (max d g))
      (ap (under columns context) (algebra.fold-If ExprTyping expr_type_step c.expr a.expr b.expr) ∙ (λ i. choice_type (test.typed i) (left.typed i) (right.typed i)))
      (algebra.fold-If ℕ expr_nodes_step c.expr a.expr b.expr ∙ (λ i. 1 + (test.nodes i + (left.nodes i + right.nodes i))))
      (algebra.fold-If ℕ expr_depth_step c.expr a.expr b.expr ∙ (λ i. 1 + max (test.depth i) (max (left.depth i) (right.depth i)))) is

  -- the expression with the type that a literal has
  literal_typed : (v : Value) (t : Typed) → with_type (core.Lit v) (literal_type v) ≡ Ok t → IsTyped context columns 1 1 t
  literal_typed v t is =
      with_type-typed (core.Lit v) (literal_type v) t 1 1
      (ap (under columns context) (algebra.fold-Lit ExprTyping expr_type_step v))
      (algebra.fold-Lit ℕ expr_nodes_step v) (algebra.fold-Lit ℕ expr_depth_step v) is

-- the sizes may be written otherwise
pub sized : (context : Context) (columns : List NamedColumn) (n m d g : ℕ) (t : Typed) → IsTyped context columns n d t → n ≡ m → d ≡ g → IsTyped context columns m g t
sized context columns n m d g t typed same_nodes same_depth = record { typed = typed.typed; nodes = typed.nodes ∙ same_nodes; depth = typed.depth ∙ same_depth }

module _ (known : Declarations) (scopes : List Scope) (next : ℕ) (force : InForce next scopes) (columns : List NamedColumn) where
  abbrev here : Context
  here = context_in known scopes

  dotted-typed : (o : Option Scope) (first second : List ℕ) (t : Typed) → innermost scopes first ≡ o → dotted o columns first second ≡ Ok t → IsTyped here columns 1 1 t
  dotted-typed None first second t found is =
      let f = through (by_qualifier columns first second) (λ number. column_read columns number) t is in
      column_read-typed here columns f.first t f.rest
  dotted-typed (Some scope) first second t found is =
      let f = through (by_name scope.columns second) (λ number. scope_read scope number) t is in
      scope_read-typed here columns scope f.first t (scope_types-innermost next scopes first scope force found) f.rest

  meant-typed : (c : PCol) (t : Typed) → column_meant scopes columns c ≡ Ok t → IsTyped here columns 1 1 t
  unfolding column_meant
  meant-typed (Name word) t is =
      let f = through (column_number columns (Name word)) (λ number. column_read columns number) t is in
      column_read-typed here columns f.first t f.rest
  meant-typed (Dotted first second) t is = dotted-typed (innermost scopes first.text) first.text second.text t refl is
  meant-typed (Number number) t is =
      let f = through (column_number columns (Number number)) (λ at. column_read columns at) t is in
      column_read-typed here columns f.first t f.rest

  scope_number-typed : (o : Option Scope) (name : List ℕ) (number : ℕ) (t : Typed) → innermost scopes name ≡ o → scope_number o number ≡ Ok t → IsTyped here columns 1 1 t
  unfolding scope_number
  scope_number-typed None name number t found is = absurd cc
  scope_number-typed (Some scope) name number t found is = scope_read-typed here columns scope number t (scope_types-innermost next scopes name scope force found) is

  abbrev param_ty : Column → Ty
  param_ty p = p.ty

  param_at : (number : ℕ) (t : Typed) (o : Option Column) → slice_get known.params number ≡ o
      → ok_or (option_map (λ (p : Column). let one : Typed = record { expr = core.Param number; ty = p.ty } in one) o) UnknownParam ≡ Ok t → IsTyped here columns 1 1 t
  param_at number t None at is = absurd cc
  param_at number t (Some p) at is =
      let e : record { expr = core.Param number; ty = p.ty } ≡ t = ok_same _ _ is in
      subst (IsTyped here columns 1 1) e (record {
        typed = ap (under columns here) (algebra.fold-Param ExprTyping expr_type_step number) ∙ slice_get-map param_ty known.params number ∙ ap (option_map param_ty) at;
        nodes = algebra.fold-Param ℕ expr_nodes_step number;
        depth = algebra.fold-Param ℕ expr_depth_step number;
      })

  param_by : (o : Option ℕ) (t : Typed)
      → ok_or (option_and_then (λ number. option_map (λ (p : Column). let one : Typed = record { expr = core.Param number; ty = p.ty } in one) (slice_get known.params number)) o) UnknownParam ≡ Ok t
      → IsTyped here columns 1 1 t
  param_by None t is = absurd cc
  param_by (Some number) t is = param_at number t (slice_get known.params number) refl is

  parameter-typed : (name : List ℕ) (t : Typed) → parameter known.params name ≡ Ok t → IsTyped here columns 1 1 t
  unfolding parameter
  parameter-typed name t is = param_by (position (λ (p : Column). bytes_eq p.name name) known.params) t is

-- what holds of each expression
abbrev Means : PExpr → Type 0
Means e = (known : Declarations) (scopes : List Scope) (next : ℕ) (columns : List NamedColumn) (t : Typed) → InForce next scopes → expression e known scopes columns ≡ Ok t
    → IsTyped (context_in known scopes) columns (names.expr_nodes e) (names.expr_depth e) t

col_means : (c : PCol) → Means (E.Col c)
col_means c known scopes next columns t force is =
    sized (context_in known scopes) columns 1 (names.expr_nodes (E.Col c)) 1 (names.expr_depth (E.Col c)) t
    (meant-typed known scopes next force columns c t (sym (ap (λ (m : Reading). m known scopes columns) (fold-Col Reading expression_step c)) ∙ is))
    (sym (fold-Col ℕ names.expr_nodes_step c)) (sym (fold-Col ℕ names.expr_depth_step c))

scope_at_means : (w : Word) (i : ℕ) → Means (E.ScopeAt w i)
scope_at_means w i known scopes next columns t force is =
    sized (context_in known scopes) columns 1 (names.expr_nodes (E.ScopeAt w i)) 1 (names.expr_depth (E.ScopeAt w i)) t
    (scope_number-typed known scopes next force columns (innermost scopes w.text) w.text i t refl (sym (ap (λ (m : Reading). m known scopes columns) (fold-ScopeAt Reading expression_step w i)) ∙ is))
    (sym (fold-ScopeAt ℕ names.expr_nodes_step w i)) (sym (fold-ScopeAt ℕ names.expr_depth_step w i))

param_means : (w : Word) → Means (E.Param w)
param_means w known scopes next columns t force is =
    sized (context_in known scopes) columns 1 (names.expr_nodes (E.Param w)) 1 (names.expr_depth (E.Param w)) t
    (parameter-typed known scopes next force columns w.text t (sym (ap (λ (m : Reading). m known scopes columns) (fold-Param Reading expression_step w)) ∙ is))
    (sym (fold-Param ℕ names.expr_nodes_step w)) (sym (fold-Param ℕ names.expr_depth_step w))

lit_means : (type : Ty) (v : Value) → Means (E.Lit type v)
lit_means type v known scopes next columns t force is =
    sized (context_in known scopes) columns 1 (names.expr_nodes (E.Lit type v)) 1 (names.expr_depth (E.Lit type v)) t
    (literal_typed (context_in known scopes) columns v t (sym (ap (λ (m : Reading). m known scopes columns) (fold-Lit Reading expression_step type v)) ∙ is))
    (sym (fold-Lit ℕ names.expr_nodes_step type v)) (sym (fold-Lit ℕ names.expr_depth_step type v))

bin_means : (op : Op) (a b : PExpr) → Means a → Means b → Means (E.Bin op a b)
bin_means op a b ma mb known scopes next columns t force is =
    let f = through (expression a known scopes columns) (λ left. and_then (expression b known scopes columns) (λ right. operation op left right)) t
    (sym (ap (λ (m : Reading). m known scopes columns) (fold-Bin Reading expression_step op a b)) ∙ is) in
    let g = through (expression b known scopes columns) (λ right. operation op f.first right) t f.rest in
    sized (context_in known scopes) columns (1 + (names.expr_nodes a + names.expr_nodes b)) (names.expr_nodes (E.Bin op a b)) (1 + max (names.expr_depth a) (names.expr_depth b)) (names.expr_depth (E.Bin op a b)) t
    (operation-typed (context_in known scopes) columns op f.first g.first t (names.expr_nodes a) (names.expr_nodes b) (names.expr_depth a) (names.expr_depth b)
    (ma known scopes next columns f.first force f.is) (mb known scopes next columns g.first force g.is) g.rest)
    (sym (fold-Bin ℕ names.expr_nodes_step op a b)) (sym (fold-Bin ℕ names.expr_depth_step op a b))

not_means : (a : PExpr) → Means a → Means (E.Not a)
not_means a ma known scopes next columns t force is =
    let f = through (expression a known scopes columns) (λ side. negation side) t
    (sym (ap (λ (m : Reading). m known scopes columns) (fold-Not Reading expression_step a)) ∙ is) in
    sized (context_in known scopes) columns (1 + names.expr_nodes a) (names.expr_nodes (E.Not a)) (1 + names.expr_depth a) (names.expr_depth (E.Not a)) t
    (negation-typed (context_in known scopes) columns f.first t (names.expr_nodes a) (names.expr_depth a) (ma known scopes next columns f.first force f.is) f.rest)
    (sym (fold-Not ℕ names.expr_nodes_step a)) (sym (fold-Not ℕ names.expr_depth_step a))

cond_means : (c a b : PExpr) → Means c → Means a → Means b → Means (E.If c a b)
cond_means c a b mc ma mb known scopes next columns t force is =
    let f = through (expression c known scopes columns) (λ test. and_then (expression a known scopes columns) (λ left. and_then (expression b known scopes columns) (λ right. choice test left right))) t
    (sym (ap (λ (m : Reading). m known scopes columns) (fold-If Reading expression_step c a b)) ∙ is) in
    let g = through (expression a known scopes columns) (λ left. and_then (expression b known scopes columns) (λ right. choice f.first left right)) t f.rest in
    let h = through (expression b known scopes columns) (λ right. choice f.first g.first right) t g.rest in
    sized (context_in known scopes) columns (1 + (names.expr_nodes c + (names.expr_nodes a + names.expr_nodes b))) (names.expr_nodes (E.If c a b))
    (1 + max (names.expr_depth c) (max (names.expr_depth a) (names.expr_depth b))) (names.expr_depth (E.If c a b)) t
    (choice-typed (context_in known scopes) columns f.first g.first h.first t (names.expr_nodes c) (names.expr_nodes a) (names.expr_nodes b) (names.expr_depth c) (names.expr_depth a) (names.expr_depth b)
    (mc known scopes next columns f.first force f.is) (ma known scopes next columns g.first force g.is) (mb known scopes next columns h.first force h.is) h.rest)
    (sym (fold-If ℕ names.expr_nodes_step c a b)) (sym (fold-If ℕ names.expr_depth_step c a b))

-- an expression that isn't refused has the type that was found
pub expression-typed : (e : PExpr) → Means e
expression-typed = expr_induction Means (record { col = col_means; scope_at = scope_at_means; param = param_means; lit = lit_means; bin = bin_means; not = not_means; cond = cond_means })
