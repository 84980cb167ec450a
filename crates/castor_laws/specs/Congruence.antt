-- Equivalence is one, and every operator keeps it.
use Rattle.std.specs.Prelude.{◌≡◌, ℕ, List, Some}
use Rattle.std.specs.List.{AllZip}
use Rattle.castor_val.specs.declared.value.Ty.{Ty}
use Rattle.castor_alg.specs.declared.context.Context.{Context}
use Rattle.castor_alg.specs.declared.expr.Expr.{Expr}
use Rattle.castor_alg.specs.declared.rel.Agg.{Agg}
use Rattle.castor_alg.specs.declared.rel.Bound.{Bound}
use Rattle.castor_alg.specs.declared.rel.Key.{Key}
use Rattle.castor_alg.specs.declared.rel.Rel.{Rel}
use Rattle.castor_alg.specs.declared.rel.Rel as R
use Rattle.castor_alg.specs.Equivalence.{Equivalent}
use Rattle.castor_alg.specs.Typing.{Typed, column_types, extended}

-- what is well typed is equivalent to itself, and two relations that are equivalent to a third are so to each other
pub record EquivalenceLaws (context : Context) : Type 0 where
  pub itself : (q : Rel) → Typed q context → Equivalent context q q
  pub back : (q r : Rel) → Equivalent context q r → Equivalent context r q
  pub chain : (q r s : Rel) → Equivalent context q r → Equivalent context r s → Equivalent context q s

-- the bodies of a binder over this source are equivalent where its scope has the source's column types
abbrev pub EquivalentUnder : Context → ℕ → Rel → Rel → Rel → Type 0
EquivalentUnder context k source s t = (types : List Ty) → column_types source context ≡ Some types → Equivalent (extended context k types) s t

-- a well-typed operator over equivalent operands is equivalent
pub record Congruence (context : Context) : Type 0 where
  pub cross : (qs rs : List Rel) → AllZip (Equivalent context) qs rs → Typed (R.Cross qs) context → Equivalent context (R.Cross qs) (R.Cross rs)
  pub concat : (qs rs : List Rel) → AllZip (Equivalent context) qs rs → Typed (R.Concat qs) context → Equivalent context (R.Concat qs) (R.Concat rs)
  pub select : (es : List Expr) (q r : Rel) → Equivalent context q r → Typed (R.Select es q) context → Equivalent context (R.Select es q) (R.Select es r)
  pub filter : (e : Expr) (q r : Rel) → Equivalent context q r → Typed (R.Filter e q) context → Equivalent context (R.Filter e q) (R.Filter e r)
  pub join : (e : Expr) (q r s t : Rel) → Equivalent context q r → Equivalent context s t → Typed (R.Join e q s) context → Equivalent context (R.Join e q s) (R.Join e r t)
  pub depjoin : (k : ℕ) (q r s t : Rel) → Equivalent context q r → EquivalentUnder context k q s t → Typed (R.DepJoin k q s) context → Equivalent context (R.DepJoin k q s) (R.DepJoin k r t)
  pub group : (ks : List ℕ) (aggs : List Agg) (q r : Rel) → Equivalent context q r → Typed (R.Group ks aggs q) context → Equivalent context (R.Group ks aggs q) (R.Group ks aggs r)
  pub order : (ks : List Key) (q r : Rel) → Equivalent context q r → Typed (R.Order ks q) context → Equivalent context (R.Order ks q) (R.Order ks r)
  pub dedup : (q r : Rel) → Equivalent context q r → Typed (R.Dedup q) context → Equivalent context (R.Dedup q) (R.Dedup r)
  pub list : (k : ℕ) (q r s t : Rel) → Equivalent context q r → EquivalentUnder context k q s t → Typed (R.List k q s) context → Equivalent context (R.List k q s) (R.List k r t)
  pub hash : (k : ℕ) (q r s t : Rel) (es : List Expr) → Equivalent context q r → EquivalentUnder context k q s t → Typed (R.Hash k q s es) context → Equivalent context (R.Hash k q s es) (R.Hash k r t es)
  pub ordered : (k : ℕ) (q r s t : Rel) (lo hi : Bound) → Equivalent context q r → EquivalentUnder context k q s t → Typed (R.Ord k q s lo hi) context → Equivalent context (R.Ord k q s lo hi) (R.Ord k r t lo hi)
