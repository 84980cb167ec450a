-- What becomes of each operator.
use Rattle.std.proofs.Common.{◌≡◌, ◌∙◌, ℕ, ◌+◌, ◌≤◌, List, [], ◌∷◌, map, refl, sym, ap, subst, Bool, true, false, not, ◌&&◌, if◌then◌else◌, arith}
use Rattle.castor_val.specs.declared.value.Ty.{Ty}
use Rattle.castor_alg.specs.declared.expr.Expr.{Expr}
use Rattle.castor_alg.specs.declared.rel.Agg.{Agg}
use Rattle.castor_alg.specs.declared.rel.Bound.{Bound}
use Rattle.castor_alg.specs.declared.rel.Key.{Key}
use Rattle.castor_alg.specs.declared.rel.Rel.{Rel}
use Rattle.castor_alg.specs.declared.rel.Rel as R
use Rattle.castor_alg.specs.declared.rel.Rel.TheOpen.{Rel-F}
use Rattle.castor_alg.proofs.RelInduction.{With, relations, rel_induction, fold-Table, fold-Scalar, fold-Cross, fold-Concat, fold-Select, fold-Filter, fold-Join, fold-DepJoin, fold-Group, fold-Order, fold-Dedup, fold-List, fold-Hash, fold-Ord}
use Rattle.castor_nest.specs.Store.{stored}
use Rattle.castor_script.specs.Finish.{Finishing, Part, finish_step, finished, over_all, over_one, over_two, part_of, placed}
use Rattle.castor_script.specs.Settled.{RunScopes, is_layout, is_settled, layout_step, waits, with_scope}

module _ (tables : List (List Ty)) where
  abbrev step : Rel-F Part → Part
  step = finish_step tables

  abbrev first : Part → Rel
  first part = part.0

  abbrev Itself : Rel → Type 0
  Itself q = first (part_of tables q) ≡ q

  all_themselves : (rs : List (With Itself)) → map (λ (r : Part). r.0) (map (part_of tables) (relations rs)) ≡ relations rs
  all_themselves [] = refl
  all_themselves (r ∷ rs) = λ i. r.1 i ∷ all_themselves rs i

  -- a part stands for its relation
  pub itself : (q : Rel) → Itself q
  itself = rel_induction Itself record {
    table = λ n. ap first (fold-Table Part step n);
    scalar = λ e. ap first (fold-Scalar Part step e);
    cross = λ rs. ap first (fold-Cross Part step (relations rs)) ∙ ap R.Cross (all_themselves rs);
    concat = λ rs. ap first (fold-Concat Part step (relations rs)) ∙ ap R.Concat (all_themselves rs);
    select = λ es r x. ap first (fold-Select Part step es r) ∙ ap (R.Select es) x;
    filter = λ e r x. ap first (fold-Filter Part step e r) ∙ ap (R.Filter e) x;
    join = λ e r s x y. ap first (fold-Join Part step e r s) ∙ (λ i. R.Join e (x i) (y i));
    depjoin = λ k r s x y. ap first (fold-DepJoin Part step k r s) ∙ (λ i. R.DepJoin k (x i) (y i));
    group = λ ks aggs r x. ap first (fold-Group Part step ks aggs r) ∙ ap (R.Group ks aggs) x;
    order = λ ks r x. ap first (fold-Order Part step ks r) ∙ ap (R.Order ks) x;
    dedup = λ r x. ap first (fold-Dedup Part step r) ∙ ap R.Dedup x;
    list = λ k r s x y. ap first (fold-List Part step k r s) ∙ (λ i. R.List k (x i) (y i));
    hash = λ k r s es x y. ap first (fold-Hash Part step k r s es) ∙ (λ i. R.Hash k (x i) (y i) es);
    ordered = λ k r s lo hi x y. ap first (fold-Ord Part step k r s lo hi) ∙ (λ i. R.Ord k (x i) (y i) lo hi);
  }

  finishings : (rs : List Rel) → map (λ (r : Part). r.1) (map (part_of tables) rs) ≡ map (finished tables) rs
  finishings [] = refl
  finishings (r ∷ rs) = ap (λ fs. finished tables r ∷ fs) (finishings rs)

  module _ (runs : RunScopes) (next : ℕ) where
    abbrev here : Part → Rel × ℕ
    here part = part.1 runs next

    abbrev due : Rel → Rel × ℕ
    due q = finished tables q runs next

    abbrev all_due : List Rel → List Rel × ℕ
    all_due rs = over_all (map (finished tables) rs) runs next

    pub finished-Table : (n : ℕ) → due (R.Table n) ≡ placed tables (R.Table n) runs next (R.Table n, next)
    finished-Table n = ap here (fold-Table Part step n)

    pub finished-Scalar : (e : Expr) → due (R.Scalar e) ≡ (R.Scalar e, next)
    finished-Scalar e = ap here (fold-Scalar Part step e)

    pub finished-Cross : (rs : List Rel) → due (R.Cross rs) ≡ (R.Cross (all_due rs).0, (all_due rs).1)
    finished-Cross rs = ap here (fold-Cross Part step rs) ∙ ap (λ (fs : List Finishing). (R.Cross (over_all fs runs next).0, (over_all fs runs next).1)) (finishings rs)

    pub finished-Concat : (rs : List Rel) → due (R.Concat rs) ≡ (R.Concat (all_due rs).0, (all_due rs).1)
    finished-Concat rs = ap here (fold-Concat Part step rs) ∙ ap (λ (fs : List Finishing). (R.Concat (over_all fs runs next).0, (over_all fs runs next).1)) (finishings rs)

    pub finished-Select : (es : List Expr) (r : Rel) → due (R.Select es r) ≡ placed tables (R.Select es r) runs next (over_one (R.Select es) (due r))
    finished-Select es r = ap here (fold-Select Part step es r) ∙ ap (λ (q : Rel). placed tables (R.Select es q) runs next (over_one (R.Select es) (due r))) (itself r)

    pub finished-Filter : (e : Expr) (r : Rel) → due (R.Filter e r) ≡ placed tables (R.Filter e r) runs next (over_one (R.Filter e) (due r))
    finished-Filter e r = ap here (fold-Filter Part step e r) ∙ ap (λ (q : Rel). placed tables (R.Filter e q) runs next (over_one (R.Filter e) (due r))) (itself r)

    pub finished-Join : (e : Expr) (r s : Rel) → due (R.Join e r s) ≡ placed tables (R.Join e r s) runs next (over_two (R.Join e) (due r) (finished tables s runs))
    finished-Join e r s = ap here (fold-Join Part step e r s) ∙ (λ i. placed tables (R.Join e (itself r i) (itself s i)) runs next (over_two (R.Join e) (due r) (finished tables s runs)))

    pub finished-DepJoin : (k : ℕ) (r s : Rel) → due (R.DepJoin k r s) ≡ placed tables (R.DepJoin k r s) runs next (over_two (R.DepJoin k) (due r) (finished tables s (with_scope true runs k)))
    finished-DepJoin k r s = ap here (fold-DepJoin Part step k r s) ∙ (λ i. placed tables (R.DepJoin k (itself r i) (itself s i)) runs next (over_two (R.DepJoin k) (due r) (finished tables s (with_scope true runs k))))

    pub finished-Group : (ks : List ℕ) (aggs : List Agg) (r : Rel) → due (R.Group ks aggs r) ≡ placed tables (R.Group ks aggs r) runs next (over_one (R.Group ks aggs) (due r))
    finished-Group ks aggs r = ap here (fold-Group Part step ks aggs r) ∙ ap (λ (q : Rel). placed tables (R.Group ks aggs q) runs next (over_one (R.Group ks aggs) (due r))) (itself r)

    pub finished-Order : (ks : List Key) (r : Rel) → due (R.Order ks r) ≡ placed tables (R.Order ks r) runs next (over_one (R.Order ks) (due r))
    finished-Order ks r = ap here (fold-Order Part step ks r) ∙ ap (λ (q : Rel). placed tables (R.Order ks q) runs next (over_one (R.Order ks) (due r))) (itself r)

    pub finished-Dedup : (r : Rel) → due (R.Dedup r) ≡ placed tables (R.Dedup r) runs next (over_one R.Dedup (due r))
    finished-Dedup r = ap here (fold-Dedup Part step r) ∙ ap (λ (q : Rel). placed tables (R.Dedup q) runs next (over_one R.Dedup (due r))) (itself r)

    pub finished-List : (k : ℕ) (r s : Rel) → due (R.List k r s) ≡ over_one (R.List k r) (finished tables s (with_scope false runs k) next)
    finished-List k r s = ap here (fold-List Part step k r s) ∙ ap (λ (q : Rel). over_one (R.List k q) (finished tables s (with_scope false runs k) next)) (itself r)

    pub finished-Hash : (k : ℕ) (r s : Rel) (es : List Expr) → due (R.Hash k r s es) ≡ over_one (λ body. R.Hash k r body es) (finished tables s (with_scope false runs k) next)
    finished-Hash k r s es = ap here (fold-Hash Part step k r s es) ∙ ap (λ (q : Rel). over_one (λ body. R.Hash k q body es) (finished tables s (with_scope false runs k) next)) (itself r)

    pub finished-Ord : (k : ℕ) (r s : Rel) (lo hi : Bound) → due (R.Ord k r s lo hi) ≡ over_one (λ body. R.Ord k r body lo hi) (finished tables s (with_scope false runs k) next)
    finished-Ord k r s lo hi = ap here (fold-Ord Part step k r s lo hi) ∙ ap (λ (q : Rel). over_one (λ body. R.Ord k q body lo hi) (finished tables s (with_scope false runs k) next)) (itself r)

    abbrev stored_here : Rel → Rel × ℕ
    stored_here q = (stored tables next q, next + 1)

    waits_then : (layout waiting : Bool) → layout ≡ false → (not layout && not waiting) ≡ false → waiting ≡ true
    waits_then true waiting is settled = cc
    waits_then false true is settled = refl
    waits_then false false is settled = cc

    -- what is no layout and isn't settled stays
    pub kept_by : (q x : Rel) (kept : Rel × ℕ) → q ≡ x → is_layout x ≡ false → due x ≡ placed tables x runs next kept → is_settled runs q ≡ false → due q ≡ kept
    kept_by q x kept is layout clause settled =
        let waiting = waits_then (is_layout x) (waits x runs) layout (ap (is_settled runs) (sym is) ∙ settled) in
        ap due is ∙ clause ∙ ap (λ (b : Bool). if b then kept else stored_here x) waiting

    settled_parts : (layout waiting : Bool) → (not layout && not waiting) ≡ true → (layout ≡ false) × (waiting ≡ false)
    settled_parts true waiting is = cc
    settled_parts false true is = cc
    settled_parts false false is = (refl, refl)

    abbrev StoredIfSettled : Rel → Type 0
    StoredIfSettled q = is_settled runs q ≡ true → due q ≡ stored_here q

    stored_by : (x : Rel) (kept : Rel × ℕ) → due x ≡ placed tables x runs next kept → StoredIfSettled x
    stored_by x kept clause settled = clause ∙ ap (λ (b : Bool). if b then kept else stored_here x) (settled_parts (is_layout x) (waits x runs) settled).1

    no_layout : {P : Type 0} (b : Bool) → b ≡ true → b ≡ false → P
    no_layout b is isnt = cc

    never_by : (x : Rel) → is_layout x ≡ true → StoredIfSettled x
    never_by x layout settled = no_layout (is_layout x) layout (settled_parts (is_layout x) (waits x runs) settled).0

    -- what is settled is stored
    pub stored_if_settled : (q : Rel) → StoredIfSettled q
    stored_if_settled = rel_induction StoredIfSettled record {
      table = λ n. stored_by (R.Table n) _ (finished-Table n);
      scalar = λ e. never_by (R.Scalar e) (fold-Scalar Bool layout_step e);
      cross = λ rs. never_by (R.Cross (relations rs)) (fold-Cross Bool layout_step (relations rs));
      concat = λ rs. never_by (R.Concat (relations rs)) (fold-Concat Bool layout_step (relations rs));
      select = λ es r x. stored_by (R.Select es r) _ (finished-Select es r);
      filter = λ e r x. stored_by (R.Filter e r) _ (finished-Filter e r);
      join = λ e r s x y. stored_by (R.Join e r s) _ (finished-Join e r s);
      depjoin = λ k r s x y. stored_by (R.DepJoin k r s) _ (finished-DepJoin k r s);
      group = λ ks aggs r x. stored_by (R.Group ks aggs r) _ (finished-Group ks aggs r);
      order = λ ks r x. stored_by (R.Order ks r) _ (finished-Order ks r);
      dedup = λ r x. stored_by (R.Dedup r) _ (finished-Dedup r);
      list = λ k r s x y. never_by (R.List k r s) (fold-List Bool layout_step k r s);
      hash = λ k r s es x y. never_by (R.Hash k r s es) (fold-Hash Bool layout_step k r s es);
      ordered = λ k r s lo hi x y. never_by (R.Ord k r s lo hi) (fold-Ord Bool layout_step k r s lo hi);
    }

  -- numbers only go up
  abbrev Grows : Rel → Type 0
  Grows q = (runs : RunScopes) (next : ℕ) → next ≤ (finished tables q runs next).1

  at_least : (n : ℕ) (a b : Rel × ℕ) → a ≡ b → n ≤ b.1 → n ≤ a.1
  at_least n a b is below = subst (λ (m : Rel × ℕ). n ≤ m.1) (sym is) below

  either : (b : Bool) (n : ℕ) (kept other : Rel × ℕ) → n ≤ kept.1 → n ≤ other.1 → n ≤ (if b then kept else other).1
  either true n kept other below more = below
  either false n kept other below more = more

  placed_grows : (q : Rel) (runs : RunScopes) (next : ℕ) (kept : Rel × ℕ) → next ≤ kept.1 → next ≤ (placed tables q runs next kept).1
  placed_grows q runs next kept below = either (waits q runs) next kept (stored tables next q, next + 1) below (omega arith)

  pub all_grow : (rs : List (With Grows)) (runs : RunScopes) (next : ℕ) → next ≤ (over_all (map (finished tables) (relations rs)) runs next).1
  all_grow [] runs next = omega arith
  all_grow (r ∷ rs) runs next =
      let below = r.1 runs next in
      let more = all_grow rs runs (finished tables r.0 runs next).1 in
      omega arith

  chained : (a b c : ℕ) → a ≤ b → b ≤ c → a ≤ c
  chained a b c below more = omega arith

  pub grows : (q : Rel) → Grows q
  grows = rel_induction Grows record {
    table = λ n runs next. at_least next _ _ (finished-Table runs next n) (placed_grows (R.Table n) runs next (R.Table n, next) (omega arith));
    scalar = λ e runs next. at_least next _ _ (finished-Scalar runs next e) (omega arith);
    cross = λ rs runs next. at_least next _ _ (finished-Cross runs next (relations rs)) (all_grow rs runs next);
    concat = λ rs runs next. at_least next _ _ (finished-Concat runs next (relations rs)) (all_grow rs runs next);
    select = λ es r x runs next. at_least next _ _ (finished-Select runs next es r) (placed_grows (R.Select es r) runs next _ (x runs next));
    filter = λ e r x runs next. at_least next _ _ (finished-Filter runs next e r) (placed_grows (R.Filter e r) runs next _ (x runs next));
    join = λ e r s x y runs next. at_least next _ _ (finished-Join runs next e r s) (placed_grows (R.Join e r s) runs next _ (chained next _ _ (x runs next) (y runs (finished tables r runs next).1)));
    depjoin = λ k r s x y runs next. at_least next _ _ (finished-DepJoin runs next k r s) (placed_grows (R.DepJoin k r s) runs next _ (chained next _ _ (x runs next) (y (with_scope true runs k) (finished tables r runs next).1)));
    group = λ ks aggs r x runs next. at_least next _ _ (finished-Group runs next ks aggs r) (placed_grows (R.Group ks aggs r) runs next _ (x runs next));
    order = λ ks r x runs next. at_least next _ _ (finished-Order runs next ks r) (placed_grows (R.Order ks r) runs next _ (x runs next));
    dedup = λ r x runs next. at_least next _ _ (finished-Dedup runs next r) (placed_grows (R.Dedup r) runs next _ (x runs next));
    list = λ k r s x y runs next. at_least next _ _ (finished-List runs next k r s) (y (with_scope false runs k) next);
    hash = λ k r s es x y runs next. at_least next _ _ (finished-Hash runs next k r s es) (y (with_scope false runs k) next);
    ordered = λ k r s lo hi x y runs next. at_least next _ _ (finished-Ord runs next k r s lo hi) (y (with_scope false runs k) next);
  }
