-- What held data means under each code, over what its kids mean.
use Rattle.std.proofs.Common.{◌≡◌, ◌∙◌, ℕ, ℤ, pos, List, [], ◌∷◌, map, fold, ap, Option, Some, None}
use Rattle.std.specs.List.{flat_map}
use Rattle.castor_val.specs.declared.row.Row.{Row}
use Rattle.castor_val.specs.declared.value.Ty.{Ty}
use Rattle.castor_val.specs.declared.value.Ty.TheVariants as ty
use Rattle.castor_val.specs.declared.value.Value.{Value}
use Rattle.castor_alg.specs.declared.expr.Expr.{Expr}
use Rattle.castor_alg.specs.declared.held.Entry.{Entry}
use Rattle.castor_alg.specs.declared.held.Held.{Held, Parts, Rows, Keyed, Inner}
use Rattle.castor_alg.specs.declared.out.Out.{Out}
use Rattle.castor_alg.specs.declared.rel.Agg.{Agg}
use Rattle.castor_alg.specs.declared.rel.Bound.{Bound}
use Rattle.castor_alg.specs.declared.rel.Key.{Key}
use Rattle.castor_alg.specs.Distinct.{deduped}
use Rattle.castor_alg.specs.Expression.{expr_value, expr_values}
use Rattle.castor_alg.specs.Groups.{grouped}
use Rattle.castor_alg.specs.Indexes.{lower, upper}
use Rattle.castor_alg.specs.Rows.{concatenated, crossed, depjoined, filtered, selected}
use Rattle.castor_alg.specs.Scopes.{Scopes, bind}
use Rattle.castor_alg.specs.Sorting.{sorted_by}
use Rattle.castor_code.specs.declared.code.Code.{Code}
use Rattle.castor_code.specs.declared.code.Code as C
use Rattle.castor_code.specs.declared.code.Range.{Range}
use Rattle.castor_code.specs.LayoutMeaning.{CodeMeaning, all_in, dep_over, layout_meaning, layout_step, looked_up, over_inner, over_parts, ranged_over, value_row}
use Rattle.castor_code.specs.Shapes.{leaf_of}
use Rattle.castor_code.proofs.CodeInduction.{fold-Int, fold-Bool, fold-Text, fold-Cross, fold-Concat, fold-List, fold-Hash, fold-Ord, fold-Select, fold-Filter, fold-Dep, fold-Group, fold-Order, fold-Dedup}
use Rattle.castor_code.proofs.ShapeLaws.{inner_of-Inner, keyed_of-Keyed, parts_of-Parts, rows_of-Rows}
use Rattle.castor_ltype.specs.Generation.{scalar_code}
use Rattle.castor_ltype.specs.Places.{int_in}
use Rattle.castor_ltype.specs.Ranges.{greater, int_code, lesser}

module _ (env : Scopes) (p : Row) where
  abbrev meant : Code → Held → Out
  meant c h = layout_meaning c h env p

  module _ (h : Held) where
    abbrev here : CodeMeaning → Out
    here m = m h env p

    layout-int : (zs : List ℤ) → meant (int_code zs) h ≡ value_row (leaf_of h)
    layout-int [] = ap here (fold-Int CodeMeaning layout_step (pos 0) (pos 0))
    layout-int (z ∷ zs) = ap here (fold-Int CodeMeaning layout_step (fold lesser z zs) (fold greater z zs))

    -- one row of the value, by any code of values
    pub layout-scalar : (t : Option Ty) (values : List (Option Value)) → meant (scalar_code t values) h ≡ value_row (leaf_of h)
    layout-scalar (Some ty.Int) values = layout-int (flat_map int_in values)
    layout-scalar (Some ty.Bool) values = ap here (fold-Bool CodeMeaning layout_step)
    layout-scalar (Some ty.Text) values = ap here (fold-Text CodeMeaning layout_step _ _)
    layout-scalar None values = ap here (fold-Bool CodeMeaning layout_step)

  pub layout-Cross : (cs : List Code) (hs : List Held) → meant (C.Cross cs) (Parts hs) ≡ crossed (over_parts (map layout_meaning cs) hs env p)
  layout-Cross cs hs = ap (here (Parts hs)) (fold-Cross CodeMeaning layout_step cs) ∙ ap (λ (o : Option (List Held)). crossed (over_parts (map layout_meaning cs) (all_in o) env p)) (parts_of-Parts hs)

  pub layout-Concat : (cs : List Code) (hs : List Held) → meant (C.Concat cs) (Parts hs) ≡ concatenated (over_parts (map layout_meaning cs) hs env p)
  layout-Concat cs hs = ap (here (Parts hs)) (fold-Concat CodeMeaning layout_step cs) ∙ ap (λ (o : Option (List Held)). concatenated (over_parts (map layout_meaning cs) (all_in o) env p)) (parts_of-Parts hs)

  pub layout-List : (count body : Range) (c : Code) (hs : List Held) → meant (C.List count body c) (Rows hs) ≡ concatenated (map (meant c) hs)
  layout-List count body c hs = ap (here (Rows hs)) (fold-List CodeMeaning layout_step count body c) ∙ ap (λ (o : Option (List Held)). concatenated (map (meant c) (all_in o))) (rows_of-Rows hs)

  pub layout-Hash : (count body : Range) (key : List Code) (c : Code) (es : List Expr) (entries : List Entry) → meant (C.Hash count body key c es) (Keyed entries) ≡ looked_up (layout_meaning c) entries (expr_values es [] env p) env p
  layout-Hash count body key c es entries = ap (here (Keyed entries)) (fold-Hash CodeMeaning layout_step count body key c es) ∙ ap (λ (o : Option (List Entry)). looked_up (layout_meaning c) (all_in o) (expr_values es [] env p) env p) (keyed_of-Keyed entries)

  pub layout-Ord : (count body : Range) (key c : Code) (lo hi : Bound) (entries : List Entry) → meant (C.Ord count body key c lo hi) (Keyed entries) ≡ ranged_over (layout_meaning c) entries (lower lo env p) (upper hi env p) env p
  layout-Ord count body key c lo hi entries = ap (here (Keyed entries)) (fold-Ord CodeMeaning layout_step count body key c lo hi) ∙ ap (λ (o : Option (List Entry)). ranged_over (layout_meaning c) (all_in o) (lower lo env p) (upper hi env p) env p) (keyed_of-Keyed entries)

  pub layout-Select : (es : List Expr) (c : Code) (h : Held) → meant (C.Select es c) (Inner h) ≡ selected (λ row. expr_values es row env p) (meant c h)
  layout-Select es c h = ap (here (Inner h)) (fold-Select CodeMeaning layout_step es c) ∙ ap (λ (o : Option Held). selected (λ row. expr_values es row env p) (over_inner (layout_meaning c) o env p)) (inner_of-Inner h)

  pub layout-Filter : (e : Expr) (c : Code) (h : Held) → meant (C.Filter e c) (Inner h) ≡ filtered (λ row. expr_value e row env p) (meant c h)
  layout-Filter e c h = ap (here (Inner h)) (fold-Filter CodeMeaning layout_step e c) ∙ ap (λ (o : Option Held). filtered (λ row. expr_value e row env p) (over_inner (layout_meaning c) o env p)) (inner_of-Inner h)

  pub layout-Dep : (k : ℕ) (c d : Code) (h g : Held) → meant (C.Dep k c d) (Parts (h ∷ g ∷ [])) ≡ depjoined (λ row. layout_meaning d g (bind env k row) p) (meant c h)
  layout-Dep k c d h g = ap (here (Parts (h ∷ g ∷ []))) (fold-Dep CodeMeaning layout_step k c d) ∙ ap (λ (o : Option (List Held)). dep_over (λ row x. layout_meaning d x (bind env k row) p) (meant c) (all_in o)) (parts_of-Parts (h ∷ g ∷ []))

  pub layout-Group : (ks : List ℕ) (aggs : List Agg) (c : Code) (h : Held) → meant (C.Group ks aggs c) (Inner h) ≡ grouped ks aggs (meant c h)
  layout-Group ks aggs c h = ap (here (Inner h)) (fold-Group CodeMeaning layout_step ks aggs c) ∙ ap (λ (o : Option Held). grouped ks aggs (over_inner (layout_meaning c) o env p)) (inner_of-Inner h)

  pub layout-Order : (ks : List Key) (c : Code) (h : Held) → meant (C.Order ks c) (Inner h) ≡ sorted_by ks (meant c h)
  layout-Order ks c h = ap (here (Inner h)) (fold-Order CodeMeaning layout_step ks c) ∙ ap (λ (o : Option Held). sorted_by ks (over_inner (layout_meaning c) o env p)) (inner_of-Inner h)

  pub layout-Dedup : (c : Code) (h : Held) → meant (C.Dedup c) (Inner h) ≡ deduped (meant c h)
  layout-Dedup c h = ap (here (Inner h)) (fold-Dedup CodeMeaning layout_step c) ∙ ap (λ (o : Option Held). deduped (over_inner (layout_meaning c) o env p)) (inner_of-Inner h)
