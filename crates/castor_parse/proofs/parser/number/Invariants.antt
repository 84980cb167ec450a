use Rattle.std.proofs.Common.{◌≡◌, ◌+◌, ◌-◌, ◌*◌, drop}
use Rattle.std.specs.Prelude.{fold}
use Rattle.castor_parse.specs.Lexemes.{number_of, slice}
use Rattle.castor_parse.proofs.parser.number.Given as goal

abbrev pub invariant-loop-digit : goal.invariant-loop-digit
invariant-loop-digit l = fold (λ n b. 10 * n + (b - 48)) l.number (drop l.digit-index l.digit-items) ≡ number_of (slice l.text l.fn.span)
