-- Induction over codes, and what a fold makes of each node.
use Rattle.std.proofs.Common.{◌≡◌, ◌∙◌, ℕ, ℤ, List, map, subst, ap, sym}
use Rattle.castor_alg.specs.declared.expr.Expr.{Expr}
use Rattle.castor_alg.specs.declared.rel.Agg.{Agg}
use Rattle.castor_alg.specs.declared.rel.Bound.{Bound}
use Rattle.castor_alg.specs.declared.rel.Key.{Key}
use Rattle.castor_code.specs.declared.code.Range.{Range}
use Rattle.castor_code.specs.declared.code.Code.{Code, roll-Code, ind-Code, fold-Code, fold-roll-Code}
use Rattle.castor_code.specs.declared.code.Code as C
use Rattle.castor_code.specs.declared.code.Code.TheFolds.{map-Code}
use Rattle.castor_code.specs.declared.code.Code.TheVariants.{rolls-Int, rolls-Bool, rolls-Text, rolls-Cross, rolls-Concat, rolls-List, rolls-Hash, rolls-Ord, rolls-Select, rolls-Filter, rolls-Dep, rolls-Group, rolls-Order, rolls-Dedup}
use Rattle.castor_code.specs.declared.code.Code.TheOpen as F

-- a code of which P is known
abbrev pub With : (Code → Type 0) → Type 0
With P = (c : Code) × P c

-- the codes, without what is known of them
abbrev pub codes : {P : Code → Type 0} → List (With P) → List Code
codes {P} cs = map (λ (e : With P). e.0) cs

-- P of each code follows from P of its kids
pub record CodeCases (P : Code → Type 0) : Type 0 where
  pub int : (lo hi : ℤ) → P (C.Int lo hi)
  pub bool : P C.Bool
  pub text : (min max : ℕ) → P (C.Text min max)
  pub cross : (cs : List (With P)) → P (C.Cross (codes cs))
  pub concat : (cs : List (With P)) → P (C.Concat (codes cs))
  pub list : (count body : Range) (c : Code) → P c → P (C.List count body c)
  pub hash : (count body : Range) (key : List (With P)) (c : Code) (es : List Expr) → P c → P (C.Hash count body (codes key) c es)
  pub ordered : (count body : Range) (key c : Code) (lo hi : Bound) → P key → P c → P (C.Ord count body key c lo hi)
  pub select : (es : List Expr) (c : Code) → P c → P (C.Select es c)
  pub filter : (e : Expr) (c : Code) → P c → P (C.Filter e c)
  pub dep : (j : ℕ) (c d : Code) → P c → P d → P (C.Dep j c d)
  pub group : (ks : List ℕ) (aggs : List Agg) (c : Code) → P c → P (C.Group ks aggs c)
  pub order : (ks : List Key) (c : Code) → P c → P (C.Order ks c)
  pub dedup : (c : Code) → P c → P (C.Dedup c)

module _ (P : Code → Type 0) (k : CodeCases P) where
  at : (y : F.Code-F (With P)) → P (roll-Code (map-Code (With P) Code (λ e. e.0) y))
  at (F.Int lo hi) = rw rolls-Int (k.int lo hi)
  at F.Bool = rw rolls-Bool k.bool
  at (F.Text min max) = rw rolls-Text (k.text min max)
  at (F.Cross cs) = rw rolls-Cross (k.cross cs)
  at (F.Concat cs) = rw rolls-Concat (k.concat cs)
  at (F.List count body c) = rw rolls-List (k.list count body c.0 c.1)
  at (F.Hash count body key c es) = rw rolls-Hash (k.hash count body key c.0 es c.1)
  at (F.Ord count body key c lo hi) = rw rolls-Ord (k.ordered count body key.0 c.0 lo hi key.1 c.1)
  at (F.Select es c) = rw rolls-Select (k.select es c.0 c.1)
  at (F.Filter e c) = rw rolls-Filter (k.filter e c.0 c.1)
  at (F.Dep j c d) = rw rolls-Dep (k.dep j c.0 d.0 c.1 d.1)
  at (F.Group ks aggs c) = rw rolls-Group (k.group ks aggs c.0 c.1)
  at (F.Order ks c) = rw rolls-Order (k.order ks c.0 c.1)
  at (F.Dedup c) = rw rolls-Dedup (k.dedup c.0 c.1)

  -- P holds of every code
  pub code_induction : (c : Code) → P c
  code_induction = ind-Code P (λ x y is. subst (λ z. P (roll-Code z)) is (at y))

module _ (A : Type 0) (step : F.Code-F A → A) where
  abbrev folded : Code → A
  folded c = fold-Code A step c

  pub fold-Int : (lo hi : ℤ) → folded (C.Int lo hi) ≡ step (F.Int lo hi)
  fold-Int lo hi = ap folded (sym (rolls-Int lo hi)) ∙ fold-roll-Code A step (F.Int lo hi)

  pub fold-Bool : folded C.Bool ≡ step F.Bool
  fold-Bool = ap folded (sym rolls-Bool) ∙ fold-roll-Code A step F.Bool

  pub fold-Text : (min max : ℕ) → folded (C.Text min max) ≡ step (F.Text min max)
  fold-Text min max = ap folded (sym (rolls-Text min max)) ∙ fold-roll-Code A step (F.Text min max)

  pub fold-Cross : (cs : List Code) → folded (C.Cross cs) ≡ step (F.Cross (map folded cs))
  fold-Cross cs = ap folded (sym (rolls-Cross cs)) ∙ fold-roll-Code A step (F.Cross cs)

  pub fold-Concat : (cs : List Code) → folded (C.Concat cs) ≡ step (F.Concat (map folded cs))
  fold-Concat cs = ap folded (sym (rolls-Concat cs)) ∙ fold-roll-Code A step (F.Concat cs)

  pub fold-List : (count body : Range) (c : Code) → folded (C.List count body c) ≡ step (F.List count body (folded c))
  fold-List count body c = ap folded (sym (rolls-List count body c)) ∙ fold-roll-Code A step (F.List count body c)

  pub fold-Hash : (count body : Range) (key : List Code) (c : Code) (es : List Expr) → folded (C.Hash count body key c es) ≡ step (F.Hash count body (map folded key) (folded c) es)
  fold-Hash count body key c es = ap folded (sym (rolls-Hash count body key c es)) ∙ fold-roll-Code A step (F.Hash count body key c es)

  pub fold-Ord : (count body : Range) (key c : Code) (lo hi : Bound) → folded (C.Ord count body key c lo hi) ≡ step (F.Ord count body (folded key) (folded c) lo hi)
  fold-Ord count body key c lo hi = ap folded (sym (rolls-Ord count body key c lo hi)) ∙ fold-roll-Code A step (F.Ord count body key c lo hi)

  pub fold-Select : (es : List Expr) (c : Code) → folded (C.Select es c) ≡ step (F.Select es (folded c))
  fold-Select es c = ap folded (sym (rolls-Select es c)) ∙ fold-roll-Code A step (F.Select es c)

  pub fold-Filter : (e : Expr) (c : Code) → folded (C.Filter e c) ≡ step (F.Filter e (folded c))
  fold-Filter e c = ap folded (sym (rolls-Filter e c)) ∙ fold-roll-Code A step (F.Filter e c)

  pub fold-Dep : (j : ℕ) (c d : Code) → folded (C.Dep j c d) ≡ step (F.Dep j (folded c) (folded d))
  fold-Dep j c d = ap folded (sym (rolls-Dep j c d)) ∙ fold-roll-Code A step (F.Dep j c d)

  pub fold-Group : (ks : List ℕ) (aggs : List Agg) (c : Code) → folded (C.Group ks aggs c) ≡ step (F.Group ks aggs (folded c))
  fold-Group ks aggs c = ap folded (sym (rolls-Group ks aggs c)) ∙ fold-roll-Code A step (F.Group ks aggs c)

  pub fold-Order : (ks : List Key) (c : Code) → folded (C.Order ks c) ≡ step (F.Order ks (folded c))
  fold-Order ks c = ap folded (sym (rolls-Order ks c)) ∙ fold-roll-Code A step (F.Order ks c)

  pub fold-Dedup : (c : Code) → folded (C.Dedup c) ≡ step (F.Dedup (folded c))
  fold-Dedup c = ap folded (sym (rolls-Dedup c)) ∙ fold-roll-Code A step (F.Dedup c)
