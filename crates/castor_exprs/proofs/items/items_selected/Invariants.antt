use Rattle.std.proofs.Common.{◌≡◌, drop}
use Rattle.castor_names.specs.Scopes.{scopes_of}
use Rattle.castor_names.specs.Turns.{in_order}
use Rattle.castor_exprs.specs.Items.{items_selected, with_item}
use Rattle.castor_exprs.proofs.items.items_selected.Given as goal

abbrev pub invariant-loop-item : goal.invariant-loop-item
invariant-loop-item l = items_selected l.known (scopes_of l.scopes) l.columns l.items ≡ in_order (with_item l.known (scopes_of l.scopes) l.columns) l.found (drop l.item-index l.items)
