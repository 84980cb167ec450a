-- What each operator means, over what its operands mean.
use Rattle.std.specs.Prelude.{◌≡◌, ℕ, List, [], ◌∷◌, map, slice_index_or, Ok}
use Rattle.castor_val.specs.declared.value.Value.{Value}
use Rattle.castor_val.specs.declared.row.Row.{Row}
use Rattle.castor_val.specs.declared.table.Table.{Table}
use Rattle.castor_val.specs.Values.{column, no_faults}
use Rattle.castor_alg.specs.declared.expr.Op.{Op}
use Rattle.castor_alg.specs.declared.expr.Expr.{Expr}
use Rattle.castor_alg.specs.declared.expr.Expr as E
use Rattle.castor_alg.specs.declared.rel.Agg.{Agg}
use Rattle.castor_alg.specs.declared.rel.Bound.{Bound}
use Rattle.castor_alg.specs.declared.rel.Key.{Key}
use Rattle.castor_alg.specs.declared.rel.Rel.{Rel}
use Rattle.castor_alg.specs.declared.rel.Rel as R
use Rattle.castor_alg.specs.Distinct.{deduped}
use Rattle.castor_alg.specs.Expression.{apply, both_sides, choice, expr_value, expr_values, negation}
use Rattle.castor_alg.specs.Groups.{grouped}
use Rattle.castor_alg.specs.Indexes.{hashed, lower, ranged, upper}
use Rattle.castor_alg.specs.Meaning.{meaning}
use Rattle.castor_alg.specs.Rows.{concatenated, crossed, depjoined, filtered, selected, single}
use Rattle.castor_alg.specs.Scopes.{Scopes, bind}
use Rattle.castor_alg.specs.Sorting.{sorted_by}

-- the value of each expression over a row, an environment and parameters
pub record ExprClauses (row : Row) (env : Scopes) (params : Row) : Type 0 where
  pub col : (i : ℕ) → expr_value (E.Col i) row env params ≡ Ok (column row i)
  pub scope : (k i : ℕ) → expr_value (E.Scope k i) row env params ≡ Ok (column (env k) i)
  pub param : (i : ℕ) → expr_value (E.Param i) row env params ≡ Ok (column params i)
  pub lit : (v : Value) → expr_value (E.Lit v) row env params ≡ Ok v
  pub bin : (op : Op) (a b : Expr) → expr_value (E.Bin op a b) row env params ≡ both_sides (apply op) (expr_value a row env params) (expr_value b row env params)
  pub not : (a : Expr) → expr_value (E.Not a) row env params ≡ negation (expr_value a row env params)
  pub cond : (c a b : Expr) → expr_value (E.If c a b) row env params ≡ choice (expr_value c row env params) (expr_value a row env params) (expr_value b row env params)

-- the rows and faults of each relation over tables, an environment and parameters
pub record RelClauses (tables : List Table) (env : Scopes) (params : Row) : Type 0 where
  pub table : (n : ℕ) → meaning (R.Table n) tables env params ≡ record { rows = slice_index_or tables n []; faults = no_faults }
  pub scalar : (e : Expr) → meaning (R.Scalar e) tables env params ≡ single (expr_values (e ∷ []) [] env params)
  pub cross : (rs : List Rel) → meaning (R.Cross rs) tables env params ≡ crossed (map (λ r. meaning r tables env params) rs)
  pub concat : (rs : List Rel) → meaning (R.Concat rs) tables env params ≡ concatenated (map (λ r. meaning r tables env params) rs)
  pub select : (es : List Expr) (r : Rel) → meaning (R.Select es r) tables env params ≡ selected (λ row. expr_values es row env params) (meaning r tables env params)
  pub filter : (e : Expr) (r : Rel) → meaning (R.Filter e r) tables env params ≡ filtered (λ row. expr_value e row env params) (meaning r tables env params)
  pub join : (e : Expr) (r s : Rel) → meaning (R.Join e r s) tables env params ≡ filtered (λ row. expr_value e row env params) (crossed (meaning r tables env params ∷ meaning s tables env params ∷ []))
  pub depjoin : (k : ℕ) (r s : Rel) → meaning (R.DepJoin k r s) tables env params ≡ depjoined (λ row. meaning s tables (bind env k row) params) (meaning r tables env params)
  pub group : (ks : List ℕ) (aggs : List Agg) (r : Rel) → meaning (R.Group ks aggs r) tables env params ≡ grouped ks aggs (meaning r tables env params)
  pub order : (ks : List Key) (r : Rel) → meaning (R.Order ks r) tables env params ≡ sorted_by ks (meaning r tables env params)
  pub dedup : (r : Rel) → meaning (R.Dedup r) tables env params ≡ deduped (meaning r tables env params)
  pub list : (k : ℕ) (r s : Rel) → meaning (R.List k r s) tables env params ≡ depjoined (λ row. meaning s tables (bind env k row) params) (meaning r tables env params)
  pub hash : (k : ℕ) (r s : Rel) (es : List Expr) → meaning (R.Hash k r s es) tables env params ≡ hashed (λ row. meaning s tables (bind env k row) params) (meaning r tables env params) (expr_values es [] env params)
  pub ordered : (k : ℕ) (r s : Rel) (lo hi : Bound) → meaning (R.Ord k r s lo hi) tables env params ≡ ranged (λ row. meaning s tables (bind env k row) params) (meaning r tables env params) (lower lo env params) (upper hi env params)
