-- Rows that stand in a table or were made, with the faults that were met.
use Rattle.std.specs.Cow.{cow_slice_items}
use Rattle.castor_alg.specs.declared.out.Out.{Out}
use Rattle.castor_eval.specs.declared.part.Part.{Part}

-- the rows and the faults of a part
abbrev pub out_of : Part → Out
out_of part = record { rows = cow_slice_items part.rows; faults = part.faults }
