use Rattle.std.proofs.Common.{◌≡◌, ◌++◌, drop}
use Rattle.std.specs.Prelude.{position}
use Rattle.castor_alg.specs.declared.rel.Rel.{Rel}
use Rattle.castor_script.specs.KnownKeys.{is_value_of, known, moved}
use Rattle.castor_script.proofs.known_keys.move_to_scalars.Given as goal

abbrev pub invariant-loop-key : goal.invariant-loop-key
invariant-loop-key l = moved (λ c. position {X = Rel} (λ r. is_value_of l.scope c (known r).value) l.scalars) l.keys ≡ l.kept.items ++ moved (λ c. position {X = Rel} (λ r. is_value_of l.scope c (known r).value) l.scalars) (drop l.key-index l.keys)
