-- What is stored for a query: a tree of values, or the faults that are met when it is made.
use Rattle.std.specs.Prelude.{List, [], ◌∷◌, map, false, if◌then◌else◌, Result, Ok, Err}
use Rattle.castor_val.specs.declared.value.Value.TheVariants.{Bool as Truth}
use Rattle.castor_val.specs.declared.fault.Faults.{Faults}
use Rattle.castor_val.specs.declared.row.Row.{Row}
use Rattle.castor_val.specs.declared.table.Table.{Table}
use Rattle.castor_val.specs.Values.{has_faults, no_faults, same_row, union}
use Rattle.castor_alg.specs.declared.held.Held.{Held, Leaf, Parts, Rows, Keyed, Inner}
use Rattle.castor_alg.specs.declared.held.Entry.{Entry}
use Rattle.castor_alg.specs.declared.out.Out.{Out}
use Rattle.castor_alg.specs.declared.rel.Rel.{Rel, roll-Rel, fold-Rel}
use Rattle.castor_alg.specs.declared.rel.Rel.TheFolds.{map-Rel}
use Rattle.castor_alg.specs.declared.rel.Rel.TheOpen.{Rel-F}
use Rattle.castor_alg.specs.declared.rel.Rel.TheOpen as rel
use Rattle.castor_alg.specs.Distinct.{distinct}
use Rattle.castor_alg.specs.Expression.{Answer, expr_value}
use Rattle.castor_alg.specs.Meaning.{meaning}
use Rattle.castor_alg.specs.Rows.{union_over}
use Rattle.castor_alg.specs.Scopes.{Scopes, bind, unbound}
use Rattle.castor_alg.specs.Sorting.{row_lt, sorted}
use Rattle.castor_alg.specs.declared.held_out.HeldOut.{HeldOut}

-- the value of a scalar. One that faults leaves its faults alone: a tree with faults is no answer, so the leaf that stands for it is never seen
abbrev pub leaf : Answer → HeldOut
leaf (Ok v) = record { held = Leaf v; faults = no_faults }
leaf (Err f) = record { held = Leaf (Truth false); faults = f }

-- one part for each operand
abbrev pub parted : List HeldOut → HeldOut
parted parts = record { held = Parts (map (λ (p : HeldOut). p.held) parts); faults = union_over (λ (p : HeldOut). p.faults) parts }

-- what the one operand stores
abbrev pub within : HeldOut → HeldOut
within r = record { held = Inner r.held; faults = r.faults }

-- for each row of the source what the body stores under it
abbrev pub listed : (Row → HeldOut) → Out → HeldOut
listed body r = record { held = Rows (map (λ a. (body a).held) r.rows); faults = union r.faults (union_over (λ a. (body a).faults) r.rows) }

-- the distinct rows, ascending
abbrev pub keys_of : Out → Out
keys_of r = record { rows = sorted row_lt (distinct same_row r.rows); faults = r.faults }

-- a key, and what the body stores under it
abbrev pub entry : (Row → HeldOut) → Row → Entry
entry body a = record { key = a; kid = (body a).held }

-- for each key what the body stores under it
abbrev pub keyed : (Row → HeldOut) → Out → HeldOut
keyed body r = record { held = Keyed (map (entry body) r.rows); faults = union r.faults (union_over (λ a. (body a).faults) r.rows) }

-- what is stored takes the tables, the rows of the scopes that are known at build, rows for the scopes that are known at run, and parameters
abbrev pub Holding : Type 0
Holding = List Table → Scopes → Scopes → Row → HeldOut

-- one operator, over its operands and what they store. A table and a join store nothing: they don't stand where data is held
abbrev pub holding_step : Rel-F (Rel × Holding) → Holding
holding_step (rel.Table n) tables env run params = parted []
holding_step (rel.Scalar e) tables env run params = leaf (expr_value e [] env params)
holding_step (rel.Cross rs) tables env run params = parted (map (λ (r : Rel × Holding). r.1 tables env run params) rs)
holding_step (rel.Concat rs) tables env run params = parted (map (λ (r : Rel × Holding). r.1 tables env run params) rs)
holding_step (rel.Select es r) tables env run params = within (r.1 tables env run params)
holding_step (rel.Filter e r) tables env run params = within (r.1 tables env run params)
holding_step (rel.Join e r s) tables env run params = parted []
holding_step (rel.DepJoin k r s) tables env run params = parted (r.1 tables env run params ∷ s.1 tables (bind env k (run k)) run params ∷ [])
holding_step (rel.Group ks aggs r) tables env run params = within (r.1 tables env run params)
holding_step (rel.Order ks r) tables env run params = within (r.1 tables env run params)
holding_step (rel.Dedup r) tables env run params = within (r.1 tables env run params)
holding_step (rel.List k r s) tables env run params = listed (λ a. s.1 tables (bind env k a) run params) (meaning r.0 tables env params)
holding_step (rel.Hash k r s es) tables env run params = keyed (λ a. s.1 tables (bind env k a) run params) (keys_of (meaning r.0 tables env params))
holding_step (rel.Ord k r s lo hi) tables env run params = keyed (λ a. s.1 tables (bind env k a) run params) (keys_of (meaning r.0 tables env params))

-- a relation beside what it stores
abbrev pub with_holding : Rel-F (Rel × Holding) → Rel × Holding
with_holding layer = (roll-Rel (map-Rel (Rel × Holding) Rel (λ (r : Rel × Holding). r.0) layer), holding_step layer)

-- the tree and the joined faults of all sources and scalars that are met
abbrev pub held_under : Rel → Holding
held_under q = (fold-Rel (Rel × Holding) with_holding q).1

-- the tree, or the faults where there are any
abbrev pub tree_or_faults : HeldOut → Result Held Faults
tree_or_faults out = if has_faults out.faults then Err out.faults else Ok out.held

-- what is stored for a whole query over tables: no scope is bound around it and there are no parameters
abbrev pub held_data : Rel → List Table → Result Held Faults
held_data q tables = tree_or_faults (held_under q tables unbound unbound [])
