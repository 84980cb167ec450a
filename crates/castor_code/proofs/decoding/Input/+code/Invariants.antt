use Rattle.std.proofs.Common.{◌≡◌, ◌+◌, ◌*◌, ◌-◌}
use Rattle.castor_code.specs.CodeAnswers.{seen}
use Rattle.castor_code.specs.CodeReadings.{code_in, key_code_in, key_codes_in}
use Rattle.castor_code.specs.Steps.{many, behind}
use Rattle.castor_code.proofs.decoding.Input.+code.Given as goal

abbrev pub invariant-codes-loop : goal.invariant-codes-loop
invariant-codes-loop l = many l.number (code_in l.levels) (seen l.fn.self) ≡ behind l.codes (many (l.number - l.counter) (code_in l.levels) (seen l.self))

abbrev pub invariant-key_codes-loop : goal.invariant-key_codes-loop
invariant-key_codes-loop l = key_codes_in (code_in l.levels) (seen l.fn.self) ≡ behind l.codes (many (l.number - l.counter) (key_code_in (code_in l.levels)) (seen l.self))

abbrev pub decreases-code : goal.decreases-code
decreases-code l = 5 * l.levels

abbrev pub decreases-boxed_code : goal.decreases-boxed_code
decreases-boxed_code l = 5 * l.levels + 1

abbrev pub decreases-key_code : goal.decreases-key_code
decreases-key_code l = 5 * l.levels + 1

abbrev pub decreases-codes : goal.decreases-codes
decreases-codes l = 5 * l.levels + 1

abbrev pub decreases-key_codes : goal.decreases-key_codes
decreases-key_codes l = 5 * l.levels + 2

abbrev pub decreases-some_codes : goal.decreases-some_codes
decreases-some_codes l = 5 * l.levels + 2

abbrev pub decreases-list_code : goal.decreases-list_code
decreases-list_code l = 5 * l.levels + 3

abbrev pub decreases-hash_code : goal.decreases-hash_code
decreases-hash_code l = 5 * l.levels + 3

abbrev pub decreases-ord_code : goal.decreases-ord_code
decreases-ord_code l = 5 * l.levels + 3

abbrev pub decreases-group_code : goal.decreases-group_code
decreases-group_code l = 5 * l.levels + 3

abbrev pub decreases-code_behind : goal.decreases-code_behind
decreases-code_behind l = 5 * l.levels + 4
