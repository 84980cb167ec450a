-- The rows and faults of each relation, over those of its operands.
use Rattle.std.proofs.Common.{◌≡◌, ◌∙◌, ℕ, List, [], ◌∷◌, map, ap}
use Rattle.std.specs.Prelude.{slice_index_or}
use Rattle.std.proofs.lemmas.Simd.{map-map}
use Rattle.castor_val.specs.declared.row.Row.{Row}
use Rattle.castor_val.specs.declared.table.Table.{Table}
use Rattle.castor_val.specs.Values.{no_faults}
use Rattle.castor_alg.specs.declared.expr.Expr.{Expr}
use Rattle.castor_alg.specs.declared.out.Out.{Out}
use Rattle.castor_alg.specs.declared.rel.Agg.{Agg}
use Rattle.castor_alg.specs.declared.rel.Bound.{Bound}
use Rattle.castor_alg.specs.declared.rel.Key.{Key}
use Rattle.castor_alg.specs.declared.rel.Rel.{Rel}
use Rattle.castor_alg.specs.declared.rel.Rel as R
use Rattle.castor_alg.specs.Distinct.{deduped}
use Rattle.castor_alg.specs.Expression.{expr_value, expr_values}
use Rattle.castor_alg.specs.Groups.{grouped}
use Rattle.castor_alg.specs.Indexes.{hashed, lower, ranged, upper}
use Rattle.castor_alg.specs.Meaning.{RelMeaning, meaning, meaning_step}
use Rattle.castor_alg.specs.Rows.{concatenated, crossed, depjoined, filtered, selected, single}
use Rattle.castor_alg.specs.Scopes.{Scopes, bind}
use Rattle.castor_alg.specs.Sorting.{sorted_by}
use Rattle.castor_alg.proofs.RelInduction.{fold-Table, fold-Scalar, fold-Cross, fold-Concat, fold-Select, fold-Filter, fold-Join, fold-DepJoin, fold-Group, fold-Order, fold-Dedup, fold-List, fold-Hash, fold-Ord}
use Rattle.castor_laws.specs.Clauses.{RelClauses}

module _ (tables : List Table) (env : Scopes) (params : Row) where
  abbrev here : RelMeaning → Out
  here m = m tables env params

  pub meaning-Table : (n : ℕ) → meaning (R.Table n) tables env params ≡ record { rows = slice_index_or tables n []; faults = no_faults }
  meaning-Table n = ap here (fold-Table RelMeaning meaning_step n)

  pub meaning-Scalar : (e : Expr) → meaning (R.Scalar e) tables env params ≡ single (expr_values (e ∷ []) [] env params)
  meaning-Scalar e = ap here (fold-Scalar RelMeaning meaning_step e)

  pub meaning-Cross : (rs : List Rel) → meaning (R.Cross rs) tables env params ≡ crossed (map (λ r. meaning r tables env params) rs)
  meaning-Cross rs = ap here (fold-Cross RelMeaning meaning_step rs) ∙ ap crossed (map-map here meaning rs)

  pub meaning-Concat : (rs : List Rel) → meaning (R.Concat rs) tables env params ≡ concatenated (map (λ r. meaning r tables env params) rs)
  meaning-Concat rs = ap here (fold-Concat RelMeaning meaning_step rs) ∙ ap concatenated (map-map here meaning rs)

  pub meaning-Select : (es : List Expr) (r : Rel) → meaning (R.Select es r) tables env params ≡ selected (λ row. expr_values es row env params) (meaning r tables env params)
  meaning-Select es r = ap here (fold-Select RelMeaning meaning_step es r)

  pub meaning-Filter : (e : Expr) (r : Rel) → meaning (R.Filter e r) tables env params ≡ filtered (λ row. expr_value e row env params) (meaning r tables env params)
  meaning-Filter e r = ap here (fold-Filter RelMeaning meaning_step e r)

  pub meaning-Join : (e : Expr) (r s : Rel) → meaning (R.Join e r s) tables env params ≡ filtered (λ row. expr_value e row env params) (crossed (meaning r tables env params ∷ meaning s tables env params ∷ []))
  meaning-Join e r s = ap here (fold-Join RelMeaning meaning_step e r s)

  pub meaning-DepJoin : (k : ℕ) (r s : Rel) → meaning (R.DepJoin k r s) tables env params ≡ depjoined (λ row. meaning s tables (bind env k row) params) (meaning r tables env params)
  meaning-DepJoin k r s = ap here (fold-DepJoin RelMeaning meaning_step k r s)

  pub meaning-Group : (ks : List ℕ) (aggs : List Agg) (r : Rel) → meaning (R.Group ks aggs r) tables env params ≡ grouped ks aggs (meaning r tables env params)
  meaning-Group ks aggs r = ap here (fold-Group RelMeaning meaning_step ks aggs r)

  pub meaning-Order : (ks : List Key) (r : Rel) → meaning (R.Order ks r) tables env params ≡ sorted_by ks (meaning r tables env params)
  meaning-Order ks r = ap here (fold-Order RelMeaning meaning_step ks r)

  pub meaning-Dedup : (r : Rel) → meaning (R.Dedup r) tables env params ≡ deduped (meaning r tables env params)
  meaning-Dedup r = ap here (fold-Dedup RelMeaning meaning_step r)

  pub meaning-List : (k : ℕ) (r s : Rel) → meaning (R.List k r s) tables env params ≡ depjoined (λ row. meaning s tables (bind env k row) params) (meaning r tables env params)
  meaning-List k r s = ap here (fold-List RelMeaning meaning_step k r s)

  pub meaning-Hash : (k : ℕ) (r s : Rel) (es : List Expr) → meaning (R.Hash k r s es) tables env params ≡ hashed (λ row. meaning s tables (bind env k row) params) (meaning r tables env params) (expr_values es [] env params)
  meaning-Hash k r s es = ap here (fold-Hash RelMeaning meaning_step k r s es)

  pub meaning-Ord : (k : ℕ) (r s : Rel) (lo hi : Bound) → meaning (R.Ord k r s lo hi) tables env params ≡ ranged (λ row. meaning s tables (bind env k row) params) (meaning r tables env params) (lower lo env params) (upper hi env params)
  meaning-Ord k r s lo hi = ap here (fold-Ord RelMeaning meaning_step k r s lo hi)

  pub rel_clauses : RelClauses tables env params
  rel_clauses = record {
    table = meaning-Table;
    scalar = meaning-Scalar;
    cross = meaning-Cross;
    concat = meaning-Concat;
    select = meaning-Select;
    filter = meaning-Filter;
    join = meaning-Join;
    depjoin = meaning-DepJoin;
    group = meaning-Group;
    order = meaning-Order;
    dedup = meaning-Dedup;
    list = meaning-List;
    hash = meaning-Hash;
    ordered = meaning-Ord;
  }
