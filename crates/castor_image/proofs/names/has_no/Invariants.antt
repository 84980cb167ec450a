use Rattle.std.proofs.Common.{◌≡◌, drop, not}
use Rattle.std.specs.List.{list_all}
use Rattle.std.specs.Str.{bytes_eq}
use Rattle.castor_image.specs.Heads.{names}
use Rattle.castor_image.proofs.names.has_no.Given as goal

abbrev pub invariant-loop-column : goal.invariant-loop-column
invariant-loop-column l = list_all (λ u. not (bytes_eq l.name u)) (names l.columns) ≡ list_all (λ u. not (bytes_eq l.name u)) (names (drop l.column-index l.columns))
