-- The items of a list have the types that they put out, and so have the keys of a hash index.
use Rattle.std.proofs.Common.{◌≡◌, ◌∙◌, ℕ, ◌+◌, max, arith, refl, sym, ap, subst, List, [], ◌∷◌, ◌++◌, map, fold, length, Bool, true, Option, Some, None, Result, Ok, Err, slice_get}
use Rattle.std.specs.Option.{option_map_or}
use Rattle.std.proofs.lemmas.List.{length-append, map_push}
use Rattle.castor_val.specs.declared.value.Ty.{Ty}
use Rattle.castor_alg.specs.declared.context.Context.{Context}
use Rattle.castor_alg.specs.declared.expr.Expr.{Expr, out-Expr}
use Rattle.castor_alg.specs.declared.expr.Expr.TheOpen.{Expr-F, Col, Scope as ScopeColumn, Param, Lit, Bin, Not, If}
use Rattle.castor_alg.specs.declared.rel.Bound.{Bound}
use Rattle.castor_alg.specs.declared.rel.Bound.TheVariants as core
use Rattle.castor_alg.specs.Sizes.{bound_depth, bound_nodes}
use Rattle.castor_alg.specs.Typing.{is_bound, is_of, same_type}
use Rattle.castor_tree.specs.declared.tree.Item.{Item}
use Rattle.castor_tree.specs.declared.tree.PBound.{PBound}
use Rattle.castor_tree.specs.declared.tree.PBound.TheVariants.{Any, Incl, Excl}
use Rattle.castor_tree.specs.declared.tree.PExpr.{PExpr}
use Rattle.castor_tree.specs.declared.tree.Word.{Word}
use Rattle.castor_tree.specs.Sizes as names
use Rattle.castor_names.proofs.Outcomes.{Through, ok_same, through}
use Rattle.castor_names.specs.Names.{column_called, column_numbered, types_of}
use Rattle.castor_names.specs.Scopes.{scope_column}
use Rattle.castor_names.specs.Turns.{and_then, in_order}
use Rattle.castor_names.specs.declared.column.NamedColumn.{NamedColumn}
use Rattle.castor_names.specs.declared.declarations.Declarations.{Declarations}
use Rattle.castor_names.specs.declared.error.SchemaError.{SchemaError}
use Rattle.castor_names.specs.declared.scopes.Scope.{Scope}
use Rattle.castor_exprs.specs.Expressions.{expression}
use Rattle.castor_exprs.specs.Items.{bare_column, item_column, item_output, items_selected, kept_column, output_of, unqualified_column, with_item}
use Rattle.castor_exprs.specs.Bounds.{bound_found, is_bound_of, range_found}
use Rattle.castor_exprs.specs.Indexes.{index_keys, with_index_key}
use Rattle.castor_exprs.specs.declared.bounds.TypedBound.{TypedBound}
use Rattle.castor_exprs.specs.declared.bounds.TypedRange.{TypedRange}
use Rattle.castor_exprs.specs.declared.expression.Typed.{Typed}
use Rattle.castor_exprs.specs.declared.indexes.IndexKeys.{IndexKeys}
use Rattle.castor_exprs.specs.declared.items.Output.{Output}
use Rattle.castor_exprs.specs.declared.items.Selection.{Selection}
use Rattle.castor_schema_laws.proofs.Contexts.{InForce, context_in}
use Rattle.castor_schema_laws.proofs.ExpressionLaws.{IsTyped, expression-typed}
use Rattle.castor_schema_laws.proofs.Gathered.{AreTyped, added, deepened, more-typed, none-typed}

abbrev ty_of : NamedColumn → Ty
ty_of c = c.ty

-- a column has the type that its item has
kept-ty : (o : Option NamedColumn) (number : ℕ) (type : Ty) → (option_map_or (λ (c : NamedColumn). let k : NamedColumn = record { name = c.name; qualifier = c.qualifier; ty = type } in k) o (column_numbered number type)).ty ≡ type
kept-ty None number type = refl
kept-ty (Some c) number type = refl

unqualified-ty : (o : Option NamedColumn) (number : ℕ) (type : Ty) → (option_map_or (λ (c : NamedColumn). column_called c.name type) o (column_numbered number type)).ty ≡ type
unqualified-ty None number type = refl
unqualified-ty (Some c) number type = refl

bare-ty : (scopes : List Scope) (columns : List NamedColumn) (number : ℕ) (type : Ty) (e : Expr-F Expr) → (bare_column scopes columns number type e).ty ≡ type
unfolding bare_column
bare-ty scopes columns number type (Col at) = kept-ty (slice_get columns at) number type
bare-ty scopes columns number type (ScopeColumn scope at) = unqualified-ty (scope_column scopes scope at) number type
bare-ty scopes columns number type (Param p) = refl
bare-ty scopes columns number type (Lit v) = refl
bare-ty scopes columns number type (Bin op a b) = refl
bare-ty scopes columns number type (Not a) = refl
bare-ty scopes columns number type (If c a b) = refl

item-ty : (scopes : List Scope) (columns : List NamedColumn) (number : ℕ) (name : Option Word) (t : Typed) → (item_column scopes columns number name t).ty ≡ t.ty
unfolding item_column
item-ty scopes columns number (Some word) t = refl
item-ty scopes columns number None t = bare-ty scopes columns number t.ty (out-Expr t.expr)

-- an item that isn't refused
pub record IsItem (known : Declarations) (scopes : List Scope) (columns : List NamedColumn) (number : ℕ) (item : Item) (output : Output) : Type 0 where
  pub found : Typed
  pub is : expression item.expr known scopes columns ≡ Ok found
  pub expr : output.expr ≡ found.expr
  pub column : output.column ≡ item_column scopes columns number item.name found

pub item_found : (known : Declarations) (scopes : List Scope) (columns : List NamedColumn) (number : ℕ) (item : Item) (output : Output) → item_output known scopes columns number item ≡ Ok output → IsItem known scopes columns number item output
unfolding item_output output_of
item_found known scopes columns number item output is =
    let f = through (expression item.expr known scopes columns) (λ found. output_of scopes columns number item.name found) output is in
    let e : record { expr = f.first.expr; column = item_column scopes columns number item.name f.first } ≡ output = ok_same _ _ f.rest in
    record { found = f.first; is = f.is; expr = ap (λ (o : Output). o.expr) (sym e); column = ap (λ (o : Output). o.column) (sym e) }

module _ (known : Declarations) (scopes : List Scope) (next : ℕ) (force : InForce next scopes) where
  abbrev here : Context
  here = context_in known scopes

  -- what an item puts out is typed
  pub output-typed : (columns : List NamedColumn) (number : ℕ) (item : Item) (output : Output) → item_output known scopes columns number item ≡ Ok output
      → IsTyped here columns (names.item_nodes item) (names.item_depth item) (record { expr = output.expr; ty = output.column.ty })
  output-typed columns number item output is =
      let i = item_found known scopes columns number item output is in
      let e : i.found ≡ record { expr = output.expr; ty = output.column.ty } = λ j. record { expr = sym i.expr j; ty = (sym (item-ty scopes columns number item.name i.found) ∙ ap (λ (c : NamedColumn). c.ty) (sym i.column)) j } in
      subst (IsTyped here columns (names.item_nodes item) (names.item_depth item)) e (expression-typed item.expr known scopes next columns i.found force i.is)

  abbrev Selected : List NamedColumn → ℕ → ℕ → Selection → Type 0
  Selected columns n d s = AreTyped here columns n d s.exprs (types_of s.columns)

  -- one item more
  with_item-typed : (columns : List NamedColumn) (n d : ℕ) (start more : Selection) (item : Item) → Selected columns n d start → with_item known scopes columns start item ≡ Ok more
      → Selected columns (n + names.item_nodes item) (max d (names.item_depth item)) more × (length more.columns ≡ length start.columns + 1)
  with_item-typed columns n d start more item are is =
      let f = through (item_output known scopes columns (length start.columns) item) (λ (output : Output). Ok (record { exprs = start.exprs ++ output.expr ∷ []; columns = start.columns ++ output.column ∷ [] })) more is in
      let e : record { exprs = start.exprs ++ f.first.expr ∷ []; columns = start.columns ++ f.first.column ∷ [] } ≡ more = ok_same _ _ f.rest in
      let typed = more-typed here columns n (names.item_nodes item) d (names.item_depth item) start.exprs (types_of start.columns) (record { expr = f.first.expr; ty = f.first.column.ty }) are (output-typed columns (length start.columns) item f.first f.is) in (
        subst (Selected columns (n + names.item_nodes item) (max d (names.item_depth item))) e
            (subst (AreTyped here columns (n + names.item_nodes item) (max d (names.item_depth item)) (start.exprs ++ f.first.expr ∷ [])) (sym (map_push ty_of start.columns f.first.column)) typed),
        ap (λ (s : Selection). length s.columns) (sym e) ∙ length-append start.columns (f.first.column ∷ []),
      )

  with_items-typed : (columns : List NamedColumn) (items : List Item) (n d : ℕ) (start all : Selection) → Selected columns n d start → in_order (with_item known scopes columns) start items ≡ Ok all
      → Selected columns (added n (map names.item_nodes items)) (deepened d (map names.item_depth items)) all × (length all.columns ≡ length start.columns + length items)
  with_items-typed columns [] n d start all are is =
      let e = ok_same _ _ is in
      (subst (Selected columns n d) e are, ap (λ (s : Selection). length s.columns) (sym e) ∙ sym (omega arith))
  with_items-typed columns (item ∷ items) n d start all are is =
      let f = through (with_item known scopes columns start item) (λ more. in_order (with_item known scopes columns) more items) all is in
      let first = with_item-typed columns n d start f.first item are f.is in
      let rest = with_items-typed columns items (n + names.item_nodes item) (max d (names.item_depth item)) f.first all first.0 f.rest in
      (rest.0, let a = first.1 in let b = rest.1 in omega arith)

  -- the items of a list
  pub items-typed : (columns : List NamedColumn) (items : List Item) (all : Selection) → items_selected known scopes columns items ≡ Ok all
      → Selected columns (names.all_nodes names.item_nodes items) (names.deepest (map names.item_depth items)) all × (length all.columns ≡ length items)
  unfolding items_selected
  items-typed columns items all is =
      let found = with_items-typed columns items 0 0 (record { exprs = []; columns = [] }) all (none-typed here columns) is in
      (found.0, let a = found.1 in omega arith)

  -- the keys of a hash index
  abbrev Keyed : ℕ → ℕ → IndexKeys → Type 0
  Keyed n d k = AreTyped here [] n d k.exprs k.types

  with_keys-typed : (es : List PExpr) (n d : ℕ) (start all : IndexKeys) → Keyed n d start → in_order (with_index_key known scopes) start es ≡ Ok all
      → Keyed (added n (map names.expr_nodes es)) (deepened d (map names.expr_depth es)) all
  unfolding with_index_key
  with_keys-typed [] n d start all are is = subst (Keyed n d) (ok_same _ _ is) are
  with_keys-typed (e ∷ es) n d start all are is =
      let f = through (with_index_key known scopes start e) (λ more. in_order (with_index_key known scopes) more es) all is in
      let g = through (expression e known scopes []) (λ (key : Typed). Ok (record { exprs = start.exprs ++ key.expr ∷ []; types = start.types ++ key.ty ∷ [] })) f.first f.is in
      let same : record { exprs = start.exprs ++ g.first.expr ∷ []; types = start.types ++ g.first.ty ∷ [] } ≡ f.first = ok_same _ _ g.rest in
      with_keys-typed es (n + names.expr_nodes e) (max d (names.expr_depth e)) f.first all
      (subst (Keyed (n + names.expr_nodes e) (max d (names.expr_depth e))) same
      (more-typed here [] n (names.expr_nodes e) d (names.expr_depth e) start.exprs start.types g.first are (expression-typed e known scopes next [] g.first force g.is)))
      f.rest

  pub keys-typed : (es : List PExpr) (all : IndexKeys) → index_keys known scopes es ≡ Ok all → Keyed (names.all_nodes names.expr_nodes es) (names.deepest (map names.expr_depth es)) all
  unfolding index_keys
  keys-typed es all is = with_keys-typed es 0 0 (record { exprs = []; types = [] }) all (none-typed here []) is

  -- one end of a range
  pub record IsEnd (b : PBound) (end : TypedBound) : Type 0 where
    pub typed : (type : Ty) → is_bound_of type end ≡ true → is_bound type end.bound here ≡ true
    pub nodes : bound_nodes end.bound ≡ names.bound_nodes b
    pub depth : bound_depth end.bound ≡ names.bound_depth b

  pub bound-typed : (b : PBound) (end : TypedBound) → bound_found known scopes b ≡ Ok end → IsEnd b end
  unfolding bound_found
  bound-typed Any end is = subst (IsEnd Any) (ok_same _ _ is) (record { typed = λ type given. refl; nodes = refl; depth = refl })
  bound-typed (Incl e) end is =
      let f = through (expression e known scopes []) (λ (t : Typed). Ok (record { bound = core.Incl t.expr; ty = Some t.ty })) end is in
      let t = expression-typed e known scopes next [] f.first force f.is in
      let same : record { bound = core.Incl f.first.expr; ty = Some f.first.ty } ≡ end = ok_same _ _ f.rest in
      subst (IsEnd (Incl e)) same (record { typed = λ type given. ap (is_of type) t.typed ∙ given; nodes = t.nodes; depth = t.depth })
  bound-typed (Excl e) end is =
      let f = through (expression e known scopes []) (λ (t : Typed). Ok (record { bound = core.Excl t.expr; ty = Some t.ty })) end is in
      let t = expression-typed e known scopes next [] f.first force f.is in
      let same : record { bound = core.Excl f.first.expr; ty = Some f.first.ty } ≡ end = ok_same _ _ f.rest in
      subst (IsEnd (Excl e)) same (record { typed = λ type given. ap (is_of type) t.typed ∙ given; nodes = t.nodes; depth = t.depth })

  -- both ends of a range
  pub record AreEnds (lo hi : PBound) (range : TypedRange) : Type 0 where
    pub lower : IsEnd lo range.lower
    pub upper : IsEnd hi range.upper

  pub range-typed : (lo hi : PBound) (range : TypedRange) → range_found known scopes lo hi ≡ Ok range → AreEnds lo hi range
  unfolding range_found
  range-typed lo hi range is =
      let f = through (bound_found known scopes lo) (λ lower. and_then (bound_found known scopes hi) (λ upper. Ok (record { lower = lower; upper = upper }))) range is in
      let g = through (bound_found known scopes hi) (λ upper. Ok (record { lower = f.first; upper = upper })) range f.rest in
      let e : record { lower = f.first; upper = g.first } ≡ range = ok_same _ _ g.rest in
      subst (AreEnds lo hi) e (record { lower = bound-typed lo f.first f.is; upper = bound-typed hi g.first g.is })
