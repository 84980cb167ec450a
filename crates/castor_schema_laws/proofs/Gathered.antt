-- Typed expressions that are gathered one after another.
use Rattle.std.proofs.Common.{◌≡◌, ◌∙◌, ℕ, ◌+◌, max, refl, sym, ap, List, [], ◌∷◌, ◌++◌, map, fold, Option, Some, None}
use Rattle.std.proofs.lemmas.List.{map_push}
use Rattle.std.proofs.lemmas.List.Sums.{fold-append}
use Rattle.castor_val.specs.declared.value.Ty.{Ty}
use Rattle.castor_alg.specs.declared.context.Context.{Context}
use Rattle.castor_alg.specs.declared.expr.Expr.{Expr}
use Rattle.castor_alg.specs.Sizes.{all_expr_nodes, deepest_expr, expr_depth, expr_nodes}
use Rattle.castor_alg.specs.Typing.{each, type_under, types_of_each, with_both}
use Rattle.castor_names.specs.Names.{types_of}
use Rattle.castor_names.specs.declared.column.NamedColumn.{NamedColumn}
use Rattle.castor_exprs.specs.declared.expression.Typed.{Typed}
use Rattle.castor_schema_laws.proofs.ExpressionLaws.{IsTyped}

-- what is gathered, and one more
abbrev put_last : {X : Type 0} → Option (List X) → Option X → Option (List X)
put_last xs x = with_both (λ xs x. xs ++ x ∷ []) xs x

first_then : {X : Type 0} (a : Option X) (xs : Option (List X)) (x : Option X) → with_both (λ z zs. z ∷ zs) a (put_last xs x) ≡ put_last (with_both (λ z zs. z ∷ zs) a xs) x
first_then None xs x = refl
first_then (Some a) None x = refl
first_then (Some a) (Some xs) None = refl
first_then (Some a) (Some xs) (Some x) = refl

alone : {X : Type 0} (x : Option X) → with_both (λ z zs. z ∷ zs) x (Some []) ≡ put_last (Some []) x
alone None = refl
alone (Some x) = refl

each-push : {X : Type 0} (os : List (Option X)) (o : Option X) → each (os ++ o ∷ []) ≡ put_last (each os) o
each-push [] o = alone o
each-push (z ∷ os) o = ap (with_both (λ x xs. x ∷ xs) z) (each-push os o) ∙ first_then z (each os) o

-- one value more
pub each-more : {Z X : Type 0} (f : Z → Option X) (zs : List Z) (z : Z) (xs : List X) (x : X) → each (map f zs) ≡ Some xs → f z ≡ Some x → each (map f (zs ++ z ∷ [])) ≡ Some (xs ++ x ∷ [])
each-more f zs z xs x are is = ap each (map_push f zs z) ∙ each-push (map f zs) (f z) ∙ (λ i. put_last (are i) (is i))

-- the sum of numbers that are added to one
abbrev pub added : ℕ → List ℕ → ℕ
added n ns = fold (λ a x. a + x) n ns

-- the greatest of depths and one
abbrev pub deepened : ℕ → List ℕ → ℕ
deepened d ds = fold max d ds

-- expressions of these types, of so many nodes, of which the deepest has this depth
pub record AreTyped (context : Context) (columns : List NamedColumn) (n d : ℕ) (es : List Expr) (types : List Ty) : Type 0 where
  pub typed : types_of_each es (types_of columns) context ≡ Some types
  pub nodes : all_expr_nodes es ≡ n
  pub depth : deepest_expr es ≡ d

pub none-typed : (context : Context) (columns : List NamedColumn) → AreTyped context columns 0 0 [] []
none-typed context columns = record { typed = refl; nodes = refl; depth = refl }

-- one expression more
pub more-typed : (context : Context) (columns : List NamedColumn) (n m d g : ℕ) (es : List Expr) (types : List Ty) (t : Typed) → AreTyped context columns n d es types → IsTyped context columns m g t
    → AreTyped context columns (n + m) (max d g) (es ++ t.expr ∷ []) (types ++ t.ty ∷ [])
more-typed context columns n m d g es types t are is = record {
  typed = each-more (λ e. type_under e (types_of columns) context) es t.expr types t.ty are.typed is.typed;
  nodes = ap (added 0) (map_push expr_nodes es t.expr) ∙ fold-append (λ a x. a + x) 0 (map expr_nodes es) (expr_nodes t.expr ∷ []) ∙ (λ i. are.nodes i + is.nodes i);
  depth = ap (deepened 0) (map_push expr_depth es t.expr) ∙ fold-append max 0 (map expr_depth es) (expr_depth t.expr ∷ []) ∙ (λ i. max (are.depth i) (is.depth i));
}
