-- What is held for each operator, over what is held for its operands.
use Rattle.std.proofs.Common.{◌≡◌, ◌∙◌, ℕ, List, [], ◌∷◌, map, refl, ap}
use Rattle.castor_val.specs.declared.row.Row.{Row}
use Rattle.castor_val.specs.declared.table.Table.{Table}
use Rattle.castor_alg.specs.declared.expr.Expr.{Expr}
use Rattle.castor_alg.specs.declared.rel.Agg.{Agg}
use Rattle.castor_alg.specs.declared.rel.Bound.{Bound}
use Rattle.castor_alg.specs.declared.rel.Key.{Key}
use Rattle.castor_alg.specs.declared.rel.Rel.{Rel, fold-Rel}
use Rattle.castor_alg.specs.declared.rel.Rel as R
use Rattle.castor_alg.specs.declared.rel.Rel.TheVariants.{rolls-Table, rolls-Scalar, rolls-Cross, rolls-Concat, rolls-Select, rolls-Filter, rolls-Join, rolls-DepJoin, rolls-Group, rolls-Order, rolls-Dedup, rolls-List, rolls-Hash, rolls-Ord}
use Rattle.castor_alg.specs.Expression.{expr_value}
use Rattle.castor_alg.specs.Meaning.{meaning}
use Rattle.castor_alg.specs.Scopes.{Scopes, bind}
use Rattle.castor_alg.proofs.RelInduction.{With, relations, rel_induction, fold-Table, fold-Scalar, fold-Cross, fold-Concat, fold-Select, fold-Filter, fold-Join, fold-DepJoin, fold-Group, fold-Order, fold-Dedup, fold-List, fold-Hash, fold-Ord}
use Rattle.castor_alg.specs.declared.held_out.HeldOut.{HeldOut}
use Rattle.castor_alg.specs.HeldData.{Holding, held_under, keyed, keys_of, leaf, listed, parted, with_holding, within}

abbrev Beside : Type 0
Beside = Rel × Holding

abbrev at : Rel → Beside
at q = fold-Rel Beside with_holding q

abbrev rel_in : Beside → Rel
rel_in b = b.0

abbrev IsBeside : Rel → Type 0
IsBeside q = rel_in (at q) ≡ q

operands_beside : (rs : List (With IsBeside)) → map rel_in (map at (relations rs)) ≡ relations rs
operands_beside [] = refl
operands_beside (r ∷ rs) = (λ i. r.1 i ∷ operands_beside rs i)

-- the relation that is kept beside what it holds is the relation itself
rel_beside : (q : Rel) → rel_in (at q) ≡ q
rel_beside = rel_induction IsBeside record {
  table = λ n. ap rel_in (fold-Table Beside with_holding n) ∙ rolls-Table n;
  scalar = λ e. ap rel_in (fold-Scalar Beside with_holding e) ∙ rolls-Scalar e;
  cross = λ rs. ap rel_in (fold-Cross Beside with_holding (relations rs)) ∙ rolls-Cross (map rel_in (map at (relations rs))) ∙ ap R.Cross (operands_beside rs);
  concat = λ rs. ap rel_in (fold-Concat Beside with_holding (relations rs)) ∙ rolls-Concat (map rel_in (map at (relations rs))) ∙ ap R.Concat (operands_beside rs);
  select = λ es r x. ap rel_in (fold-Select Beside with_holding es r) ∙ rolls-Select es (rel_in (at r)) ∙ ap (R.Select es) x;
  filter = λ e r x. ap rel_in (fold-Filter Beside with_holding e r) ∙ rolls-Filter e (rel_in (at r)) ∙ ap (R.Filter e) x;
  join = λ e r s x y. ap rel_in (fold-Join Beside with_holding e r s) ∙ rolls-Join e (rel_in (at r)) (rel_in (at s)) ∙ (λ i. R.Join e (x i) (y i));
  depjoin = λ k r s x y. ap rel_in (fold-DepJoin Beside with_holding k r s) ∙ rolls-DepJoin k (rel_in (at r)) (rel_in (at s)) ∙ (λ i. R.DepJoin k (x i) (y i));
  group = λ ks aggs r x. ap rel_in (fold-Group Beside with_holding ks aggs r) ∙ rolls-Group ks aggs (rel_in (at r)) ∙ ap (R.Group ks aggs) x;
  order = λ ks r x. ap rel_in (fold-Order Beside with_holding ks r) ∙ rolls-Order ks (rel_in (at r)) ∙ ap (R.Order ks) x;
  dedup = λ r x. ap rel_in (fold-Dedup Beside with_holding r) ∙ rolls-Dedup (rel_in (at r)) ∙ ap R.Dedup x;
  list = λ k r s x y. ap rel_in (fold-List Beside with_holding k r s) ∙ rolls-List k (rel_in (at r)) (rel_in (at s)) ∙ (λ i. R.List k (x i) (y i));
  hash = λ k r s es x y. ap rel_in (fold-Hash Beside with_holding k r s es) ∙ rolls-Hash k (rel_in (at r)) (rel_in (at s)) es ∙ (λ i. R.Hash k (x i) (y i) es);
  ordered = λ k r s lo hi x y. ap rel_in (fold-Ord Beside with_holding k r s lo hi) ∙ rolls-Ord k (rel_in (at r)) (rel_in (at s)) lo hi ∙ (λ i. R.Ord k (x i) (y i) lo hi);
}

module _ (ts : List Table) (env run : Scopes) (p : Row) where
  abbrev held_in : Beside → HeldOut
  held_in b = b.1 ts env run p

  abbrev held : Rel → HeldOut
  held q = held_under q ts env run p

  operands_held : (rs : List Rel) → map held_in (map at rs) ≡ map held rs
  operands_held [] = refl
  operands_held (r ∷ rs) = ap (λ hs. held r ∷ hs) (operands_held rs)

  pub holding-Table : (n : ℕ) → held (R.Table n) ≡ parted []
  holding-Table n = ap held_in (fold-Table Beside with_holding n)

  pub holding-Scalar : (e : Expr) → held (R.Scalar e) ≡ leaf (expr_value e [] env p)
  holding-Scalar e = ap held_in (fold-Scalar Beside with_holding e)

  pub holding-Cross : (rs : List Rel) → held (R.Cross rs) ≡ parted (map held rs)
  holding-Cross rs = ap held_in (fold-Cross Beside with_holding rs) ∙ ap parted (operands_held rs)

  pub holding-Concat : (rs : List Rel) → held (R.Concat rs) ≡ parted (map held rs)
  holding-Concat rs = ap held_in (fold-Concat Beside with_holding rs) ∙ ap parted (operands_held rs)

  pub holding-Select : (es : List Expr) (r : Rel) → held (R.Select es r) ≡ within (held r)
  holding-Select es r = ap held_in (fold-Select Beside with_holding es r)

  pub holding-Filter : (e : Expr) (r : Rel) → held (R.Filter e r) ≡ within (held r)
  holding-Filter e r = ap held_in (fold-Filter Beside with_holding e r)

  pub holding-Join : (e : Expr) (r s : Rel) → held (R.Join e r s) ≡ parted []
  holding-Join e r s = ap held_in (fold-Join Beside with_holding e r s)

  pub holding-DepJoin : (k : ℕ) (r s : Rel) → held (R.DepJoin k r s) ≡ parted (held r ∷ held_under s ts (bind env k (run k)) run p ∷ [])
  holding-DepJoin k r s = ap held_in (fold-DepJoin Beside with_holding k r s)

  pub holding-Group : (ks : List ℕ) (aggs : List Agg) (r : Rel) → held (R.Group ks aggs r) ≡ within (held r)
  holding-Group ks aggs r = ap held_in (fold-Group Beside with_holding ks aggs r)

  pub holding-Order : (ks : List Key) (r : Rel) → held (R.Order ks r) ≡ within (held r)
  holding-Order ks r = ap held_in (fold-Order Beside with_holding ks r)

  pub holding-Dedup : (r : Rel) → held (R.Dedup r) ≡ within (held r)
  holding-Dedup r = ap held_in (fold-Dedup Beside with_holding r)

  pub holding-List : (k : ℕ) (r s : Rel) → held (R.List k r s) ≡ listed (λ a. held_under s ts (bind env k a) run p) (meaning r ts env p)
  holding-List k r s = ap held_in (fold-List Beside with_holding k r s) ∙ ap (λ (x : Rel). listed (λ a. held_under s ts (bind env k a) run p) (meaning x ts env p)) (rel_beside r)

  pub holding-Hash : (k : ℕ) (r s : Rel) (es : List Expr) → held (R.Hash k r s es) ≡ keyed (λ a. held_under s ts (bind env k a) run p) (keys_of (meaning r ts env p))
  holding-Hash k r s es = ap held_in (fold-Hash Beside with_holding k r s es) ∙ ap (λ (x : Rel). keyed (λ a. held_under s ts (bind env k a) run p) (keys_of (meaning x ts env p))) (rel_beside r)

  pub holding-Ord : (k : ℕ) (r s : Rel) (lo hi : Bound) → held (R.Ord k r s lo hi) ≡ keyed (λ a. held_under s ts (bind env k a) run p) (keys_of (meaning r ts env p))
  holding-Ord k r s lo hi = ap held_in (fold-Ord Beside with_holding k r s lo hi) ∙ ap (λ (x : Rel). keyed (λ a. held_under s ts (bind env k a) run p) (keys_of (meaning x ts env p))) (rel_beside r)
