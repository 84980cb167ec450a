-- Held data by its shape.
use Rattle.std.specs.Prelude.{List, Option, Some, None}
use Rattle.castor_val.specs.declared.value.Value.{Value}
use Rattle.castor_alg.specs.declared.held.Entry.{Entry}
use Rattle.castor_alg.specs.declared.held.Held.{Held, out-Held}
use Rattle.castor_alg.specs.declared.held.Held.TheOpen as held

-- one layer of held data
abbrev pub Layer : Type 0
Layer = held.Held-F Held Entry

abbrev pub leaf_in : Layer → Option Value
leaf_in (held.Leaf v) = Some v
leaf_in (held.Parts hs) = None
leaf_in (held.Rows hs) = None
leaf_in (held.Keyed es) = None
leaf_in (held.Inner h) = None

abbrev pub parts_in : Layer → Option (List Held)
parts_in (held.Leaf v) = None
parts_in (held.Parts hs) = Some hs
parts_in (held.Rows hs) = None
parts_in (held.Keyed es) = None
parts_in (held.Inner h) = None

abbrev pub rows_in : Layer → Option (List Held)
rows_in (held.Leaf v) = None
rows_in (held.Parts hs) = None
rows_in (held.Rows hs) = Some hs
rows_in (held.Keyed es) = None
rows_in (held.Inner h) = None

abbrev pub keyed_in : Layer → Option (List Entry)
keyed_in (held.Leaf v) = None
keyed_in (held.Parts hs) = None
keyed_in (held.Rows hs) = None
keyed_in (held.Keyed es) = Some es
keyed_in (held.Inner h) = None

abbrev pub inner_in : Layer → Option Held
inner_in (held.Leaf v) = None
inner_in (held.Parts hs) = None
inner_in (held.Rows hs) = None
inner_in (held.Keyed es) = None
inner_in (held.Inner h) = Some h

-- the value of a leaf
abbrev pub leaf_of : Held → Option Value
leaf_of h = leaf_in (out-Held h)

-- the parts of a combination
abbrev pub parts_of : Held → Option (List Held)
parts_of h = parts_in (out-Held h)

-- the children of a list
abbrev pub rows_of : Held → Option (List Held)
rows_of h = rows_in (out-Held h)

-- the entries of an index
abbrev pub keyed_of : Held → Option (List Entry)
keyed_of h = keyed_in (out-Held h)

-- what the operand holds
abbrev pub inner_of : Held → Option Held
inner_of h = inner_in (out-Held h)
