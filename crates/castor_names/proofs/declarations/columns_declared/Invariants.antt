use Rattle.std.proofs.Common.{◌≡◌, drop}
use Rattle.castor_names.specs.Declarations.{columns_declared, with_column}
use Rattle.castor_names.specs.Turns.{in_order}
use Rattle.castor_names.proofs.declarations.columns_declared.Given as goal

abbrev pub invariant-loop-word : goal.invariant-loop-word
invariant-loop-word l = columns_declared l.columns ≡ in_order with_column l.found (drop l.word-index l.columns)
