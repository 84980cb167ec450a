-- Induction over relations of names, and what a fold makes of each operator.
use Rattle.std.proofs.Common.{◌≡◌, ◌∙◌, Bool, List, Option, map, subst, ap, sym}
use Rattle.castor_tree.specs.declared.tree.Item.{Item}
use Rattle.castor_tree.specs.declared.tree.PAgg.{PAgg}
use Rattle.castor_tree.specs.declared.tree.PBound.{PBound}
use Rattle.castor_tree.specs.declared.tree.PCol.{PCol}
use Rattle.castor_tree.specs.declared.tree.PExpr.{PExpr}
use Rattle.castor_tree.specs.declared.tree.Word.{Word}
use Rattle.castor_tree.specs.declared.tree.PRel.{PRel, roll-PRel, ind-PRel, fold-PRel, fold-roll-PRel}
use Rattle.castor_tree.specs.declared.tree.PRel as R
use Rattle.castor_tree.specs.declared.tree.PRel.TheFolds.{map-PRel}
use Rattle.castor_tree.specs.declared.tree.PRel.TheVariants.{rolls-Table, rolls-Scalar, rolls-Cross, rolls-Concat, rolls-Select, rolls-Filter, rolls-Join, rolls-DepJoin, rolls-Group, rolls-Order, rolls-Dedup, rolls-List, rolls-Hash, rolls-Ord}
use Rattle.castor_tree.specs.declared.tree.PRel.TheOpen as F

-- a relation of which P is known
abbrev pub With : (PRel → Type 0) → Type 0
With P = (r : PRel) × P r

-- the relations, without what is known of them
abbrev pub relations : {P : PRel → Type 0} → List (With P) → List PRel
relations {P} rs = map (λ (e : With P). e.0) rs

-- P of each relation follows from P of its operands
pub record RelCases (P : PRel → Type 0) : Type 0 where
  pub table : (w : Word) → P (R.Table w)
  pub scalar : (i : Item) → P (R.Scalar i)
  pub cross : (rs : List (With P)) → P (R.Cross (relations rs))
  pub concat : (rs : List (With P)) → P (R.Concat (relations rs))
  pub select : (items : List Item) (r : PRel) → P r → P (R.Select items r)
  pub filter : (e : PExpr) (r : PRel) → P r → P (R.Filter e r)
  pub join : (e : PExpr) (r s : PRel) → P r → P s → P (R.Join e r s)
  pub depjoin : (w : Word) (r s : PRel) → P r → P s → P (R.DepJoin w r s)
  pub list : (w : Word) (r s : PRel) → P r → P s → P (R.List w r s)
  pub hash : (w : Word) (r s : PRel) (es : List PExpr) → P r → P s → P (R.Hash w r s es)
  pub ordered : (w : Word) (r s : PRel) (lo hi : PBound) → P r → P s → P (R.Ord w r s lo hi)
  pub group : (keys : List PCol) (aggs : List (PAgg × Option Word)) (r : PRel) → P r → P (R.Group keys aggs r)
  pub order : (keys : List (PCol × Bool)) (r : PRel) → P r → P (R.Order keys r)
  pub dedup : (r : PRel) → P r → P (R.Dedup r)

module _ (P : PRel → Type 0) (k : RelCases P) where
  at : (y : F.PRel-F (With P)) → P (roll-PRel (map-PRel (With P) PRel (λ e. e.0) y))
  at (F.Table w) = rw rolls-Table (k.table w)
  at (F.Scalar i) = rw rolls-Scalar (k.scalar i)
  at (F.Cross rs) = rw rolls-Cross (k.cross rs)
  at (F.Concat rs) = rw rolls-Concat (k.concat rs)
  at (F.Select items r) = rw rolls-Select (k.select items r.0 r.1)
  at (F.Filter e r) = rw rolls-Filter (k.filter e r.0 r.1)
  at (F.Join e r s) = rw rolls-Join (k.join e r.0 s.0 r.1 s.1)
  at (F.DepJoin w r s) = rw rolls-DepJoin (k.depjoin w r.0 s.0 r.1 s.1)
  at (F.List w r s) = rw rolls-List (k.list w r.0 s.0 r.1 s.1)
  at (F.Hash w r s es) = rw rolls-Hash (k.hash w r.0 s.0 es r.1 s.1)
  at (F.Ord w r s lo hi) = rw rolls-Ord (k.ordered w r.0 s.0 lo hi r.1 s.1)
  at (F.Group keys aggs r) = rw rolls-Group (k.group keys aggs r.0 r.1)
  at (F.Order keys r) = rw rolls-Order (k.order keys r.0 r.1)
  at (F.Dedup r) = rw rolls-Dedup (k.dedup r.0 r.1)

  -- P holds of every relation of names
  pub rel_induction : (r : PRel) → P r
  rel_induction = ind-PRel P (λ x y is. subst (λ z. P (roll-PRel z)) is (at y))

module _ (A : Type 0) (step : F.PRel-F A → A) where
  abbrev folded : PRel → A
  folded r = fold-PRel A step r

  pub fold-Table : (w : Word) → folded (R.Table w) ≡ step (F.Table w)
  fold-Table w = ap folded (sym (rolls-Table w)) ∙ fold-roll-PRel A step (F.Table w)

  pub fold-Scalar : (i : Item) → folded (R.Scalar i) ≡ step (F.Scalar i)
  fold-Scalar i = ap folded (sym (rolls-Scalar i)) ∙ fold-roll-PRel A step (F.Scalar i)

  pub fold-Cross : (rs : List PRel) → folded (R.Cross rs) ≡ step (F.Cross (map folded rs))
  fold-Cross rs = ap folded (sym (rolls-Cross rs)) ∙ fold-roll-PRel A step (F.Cross rs)

  pub fold-Concat : (rs : List PRel) → folded (R.Concat rs) ≡ step (F.Concat (map folded rs))
  fold-Concat rs = ap folded (sym (rolls-Concat rs)) ∙ fold-roll-PRel A step (F.Concat rs)

  pub fold-Select : (items : List Item) (r : PRel) → folded (R.Select items r) ≡ step (F.Select items (folded r))
  fold-Select items r = ap folded (sym (rolls-Select items r)) ∙ fold-roll-PRel A step (F.Select items r)

  pub fold-Filter : (e : PExpr) (r : PRel) → folded (R.Filter e r) ≡ step (F.Filter e (folded r))
  fold-Filter e r = ap folded (sym (rolls-Filter e r)) ∙ fold-roll-PRel A step (F.Filter e r)

  pub fold-Join : (e : PExpr) (r s : PRel) → folded (R.Join e r s) ≡ step (F.Join e (folded r) (folded s))
  fold-Join e r s = ap folded (sym (rolls-Join e r s)) ∙ fold-roll-PRel A step (F.Join e r s)

  pub fold-DepJoin : (w : Word) (r s : PRel) → folded (R.DepJoin w r s) ≡ step (F.DepJoin w (folded r) (folded s))
  fold-DepJoin w r s = ap folded (sym (rolls-DepJoin w r s)) ∙ fold-roll-PRel A step (F.DepJoin w r s)

  pub fold-List : (w : Word) (r s : PRel) → folded (R.List w r s) ≡ step (F.List w (folded r) (folded s))
  fold-List w r s = ap folded (sym (rolls-List w r s)) ∙ fold-roll-PRel A step (F.List w r s)

  pub fold-Hash : (w : Word) (r s : PRel) (es : List PExpr) → folded (R.Hash w r s es) ≡ step (F.Hash w (folded r) (folded s) es)
  fold-Hash w r s es = ap folded (sym (rolls-Hash w r s es)) ∙ fold-roll-PRel A step (F.Hash w r s es)

  pub fold-Ord : (w : Word) (r s : PRel) (lo hi : PBound) → folded (R.Ord w r s lo hi) ≡ step (F.Ord w (folded r) (folded s) lo hi)
  fold-Ord w r s lo hi = ap folded (sym (rolls-Ord w r s lo hi)) ∙ fold-roll-PRel A step (F.Ord w r s lo hi)

  pub fold-Group : (keys : List PCol) (aggs : List (PAgg × Option Word)) (r : PRel) → folded (R.Group keys aggs r) ≡ step (F.Group keys aggs (folded r))
  fold-Group keys aggs r = ap folded (sym (rolls-Group keys aggs r)) ∙ fold-roll-PRel A step (F.Group keys aggs r)

  pub fold-Order : (keys : List (PCol × Bool)) (r : PRel) → folded (R.Order keys r) ≡ step (F.Order keys (folded r))
  fold-Order keys r = ap folded (sym (rolls-Order keys r)) ∙ fold-roll-PRel A step (F.Order keys r)

  pub fold-Dedup : (r : PRel) → folded (R.Dedup r) ≡ step (F.Dedup (folded r))
  fold-Dedup r = ap folded (sym (rolls-Dedup r)) ∙ fold-roll-PRel A step (F.Dedup r)
