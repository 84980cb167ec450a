use Rattle.std.proofs.Common.{◌≡◌, ◌++◌, drop}
use Rattle.std.specs.Prelude.{position}
use Rattle.castor_script.specs.KnownKeys.{is_column, moved}
use Rattle.castor_script.proofs.known_keys.move_to_columns.Given as goal

abbrev pub invariant-loop-key : goal.invariant-loop-key
invariant-loop-key l = moved (λ c. position (is_column c) l.items) l.keys ≡ l.kept.items ++ moved (λ c. position (is_column c) l.items) (drop l.key-index l.keys)
