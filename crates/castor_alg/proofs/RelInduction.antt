-- Induction over relations, and what a fold makes of each operator.
use Rattle.std.proofs.Common.{◌≡◌, ◌∙◌, ℕ, List, map, subst, ap, sym}
use Rattle.castor_alg.specs.declared.expr.Expr.{Expr}
use Rattle.castor_alg.specs.declared.rel.Agg.{Agg}
use Rattle.castor_alg.specs.declared.rel.Bound.{Bound}
use Rattle.castor_alg.specs.declared.rel.Key.{Key}
use Rattle.castor_alg.specs.declared.rel.Rel.{Rel, roll-Rel, ind-Rel, fold-Rel, fold-roll-Rel}
use Rattle.castor_alg.specs.declared.rel.Rel as R
use Rattle.castor_alg.specs.declared.rel.Rel.TheFolds.{map-Rel}
use Rattle.castor_alg.specs.declared.rel.Rel.TheVariants.{rolls-Table, rolls-Scalar, rolls-Cross, rolls-Concat, rolls-Select, rolls-Filter, rolls-Join, rolls-DepJoin, rolls-Group, rolls-Order, rolls-Dedup, rolls-List, rolls-Hash, rolls-Ord}
use Rattle.castor_alg.specs.declared.rel.Rel.TheOpen as F

-- a relation of which P is known
abbrev pub With : (Rel → Type 0) → Type 0
With P = (r : Rel) × P r

-- the relations, without what is known of them
abbrev pub relations : {P : Rel → Type 0} → List (With P) → List Rel
relations {P} rs = map (λ (e : With P). e.0) rs

-- P of each relation follows from P of its operands
pub record RelCases (P : Rel → Type 0) : Type 0 where
  pub table : (n : ℕ) → P (R.Table n)
  pub scalar : (e : Expr) → P (R.Scalar e)
  pub cross : (rs : List (With P)) → P (R.Cross (relations rs))
  pub concat : (rs : List (With P)) → P (R.Concat (relations rs))
  pub select : (es : List Expr) (r : Rel) → P r → P (R.Select es r)
  pub filter : (e : Expr) (r : Rel) → P r → P (R.Filter e r)
  pub join : (e : Expr) (r s : Rel) → P r → P s → P (R.Join e r s)
  pub depjoin : (j : ℕ) (r s : Rel) → P r → P s → P (R.DepJoin j r s)
  pub group : (ks : List ℕ) (aggs : List Agg) (r : Rel) → P r → P (R.Group ks aggs r)
  pub order : (ks : List Key) (r : Rel) → P r → P (R.Order ks r)
  pub dedup : (r : Rel) → P r → P (R.Dedup r)
  pub list : (j : ℕ) (r s : Rel) → P r → P s → P (R.List j r s)
  pub hash : (j : ℕ) (r s : Rel) (es : List Expr) → P r → P s → P (R.Hash j r s es)
  pub ordered : (j : ℕ) (r s : Rel) (lo hi : Bound) → P r → P s → P (R.Ord j r s lo hi)

module _ (P : Rel → Type 0) (k : RelCases P) where
  at : (y : F.Rel-F (With P)) → P (roll-Rel (map-Rel (With P) Rel (λ e. e.0) y))
  at (F.Table n) = rw rolls-Table (k.table n)
  at (F.Scalar e) = rw rolls-Scalar (k.scalar e)
  at (F.Cross rs) = rw rolls-Cross (k.cross rs)
  at (F.Concat rs) = rw rolls-Concat (k.concat rs)
  at (F.Select es r) = rw rolls-Select (k.select es r.0 r.1)
  at (F.Filter e r) = rw rolls-Filter (k.filter e r.0 r.1)
  at (F.Join e r s) = rw rolls-Join (k.join e r.0 s.0 r.1 s.1)
  at (F.DepJoin j r s) = rw rolls-DepJoin (k.depjoin j r.0 s.0 r.1 s.1)
  at (F.Group ks aggs r) = rw rolls-Group (k.group ks aggs r.0 r.1)
  at (F.Order ks r) = rw rolls-Order (k.order ks r.0 r.1)
  at (F.Dedup r) = rw rolls-Dedup (k.dedup r.0 r.1)
  at (F.List j r s) = rw rolls-List (k.list j r.0 s.0 r.1 s.1)
  at (F.Hash j r s es) = rw rolls-Hash (k.hash j r.0 s.0 es r.1 s.1)
  at (F.Ord j r s lo hi) = rw rolls-Ord (k.ordered j r.0 s.0 lo hi r.1 s.1)

  -- P holds of every relation
  pub rel_induction : (r : Rel) → P r
  rel_induction = ind-Rel P (λ x y is. subst (λ z. P (roll-Rel z)) is (at y))

module _ (A : Type 0) (step : F.Rel-F A → A) where
  abbrev folded : Rel → A
  folded r = fold-Rel A step r

  pub fold-Table : (n : ℕ) → folded (R.Table n) ≡ step (F.Table n)
  fold-Table n = ap folded (sym (rolls-Table n)) ∙ fold-roll-Rel A step (F.Table n)

  pub fold-Scalar : (e : Expr) → folded (R.Scalar e) ≡ step (F.Scalar e)
  fold-Scalar e = ap folded (sym (rolls-Scalar e)) ∙ fold-roll-Rel A step (F.Scalar e)

  pub fold-Cross : (rs : List Rel) → folded (R.Cross rs) ≡ step (F.Cross (map folded rs))
  fold-Cross rs = ap folded (sym (rolls-Cross rs)) ∙ fold-roll-Rel A step (F.Cross rs)

  pub fold-Concat : (rs : List Rel) → folded (R.Concat rs) ≡ step (F.Concat (map folded rs))
  fold-Concat rs = ap folded (sym (rolls-Concat rs)) ∙ fold-roll-Rel A step (F.Concat rs)

  pub fold-Select : (es : List Expr) (r : Rel) → folded (R.Select es r) ≡ step (F.Select es (folded r))
  fold-Select es r = ap folded (sym (rolls-Select es r)) ∙ fold-roll-Rel A step (F.Select es r)

  pub fold-Filter : (e : Expr) (r : Rel) → folded (R.Filter e r) ≡ step (F.Filter e (folded r))
  fold-Filter e r = ap folded (sym (rolls-Filter e r)) ∙ fold-roll-Rel A step (F.Filter e r)

  pub fold-Join : (e : Expr) (r s : Rel) → folded (R.Join e r s) ≡ step (F.Join e (folded r) (folded s))
  fold-Join e r s = ap folded (sym (rolls-Join e r s)) ∙ fold-roll-Rel A step (F.Join e r s)

  pub fold-DepJoin : (j : ℕ) (r s : Rel) → folded (R.DepJoin j r s) ≡ step (F.DepJoin j (folded r) (folded s))
  fold-DepJoin j r s = ap folded (sym (rolls-DepJoin j r s)) ∙ fold-roll-Rel A step (F.DepJoin j r s)

  pub fold-Group : (ks : List ℕ) (aggs : List Agg) (r : Rel) → folded (R.Group ks aggs r) ≡ step (F.Group ks aggs (folded r))
  fold-Group ks aggs r = ap folded (sym (rolls-Group ks aggs r)) ∙ fold-roll-Rel A step (F.Group ks aggs r)

  pub fold-Order : (ks : List Key) (r : Rel) → folded (R.Order ks r) ≡ step (F.Order ks (folded r))
  fold-Order ks r = ap folded (sym (rolls-Order ks r)) ∙ fold-roll-Rel A step (F.Order ks r)

  pub fold-Dedup : (r : Rel) → folded (R.Dedup r) ≡ step (F.Dedup (folded r))
  fold-Dedup r = ap folded (sym (rolls-Dedup r)) ∙ fold-roll-Rel A step (F.Dedup r)

  pub fold-List : (j : ℕ) (r s : Rel) → folded (R.List j r s) ≡ step (F.List j (folded r) (folded s))
  fold-List j r s = ap folded (sym (rolls-List j r s)) ∙ fold-roll-Rel A step (F.List j r s)

  pub fold-Hash : (j : ℕ) (r s : Rel) (es : List Expr) → folded (R.Hash j r s es) ≡ step (F.Hash j (folded r) (folded s) es)
  fold-Hash j r s es = ap folded (sym (rolls-Hash j r s es)) ∙ fold-roll-Rel A step (F.Hash j r s es)

  pub fold-Ord : (j : ℕ) (r s : Rel) (lo hi : Bound) → folded (R.Ord j r s lo hi) ≡ step (F.Ord j (folded r) (folded s) lo hi)
  fold-Ord j r s lo hi = ap folded (sym (rolls-Ord j r s lo hi)) ∙ fold-roll-Rel A step (F.Ord j r s lo hi)
