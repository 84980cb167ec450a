use Rattle.std.proofs.Common.{◌≡◌, drop}
use Rattle.castor_names.specs.Scopes.{scopes_of}
use Rattle.castor_names.specs.Turns.{in_order}
use Rattle.castor_exprs.specs.Indexes.{index_keys, with_index_key}
use Rattle.castor_exprs.proofs.indexes.index_keys.Given as goal

abbrev pub invariant-loop-e : goal.invariant-loop-e
invariant-loop-e l = index_keys l.known (scopes_of l.scopes) l.es ≡ in_order (with_index_key l.known (scopes_of l.scopes)) l.found (drop l.e-index l.es)
