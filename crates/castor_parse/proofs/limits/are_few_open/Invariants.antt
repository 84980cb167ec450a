use Rattle.std.proofs.Common.{◌≡◌, ◌≤◌, drop}
use Rattle.castor_parse.specs.Lexemes.{lexemes}
use Rattle.castor_parse.specs.Limits.{are_few_open}
use Rattle.castor_parse.proofs.limits.are_few_open.Given as goal

abbrev pub invariant-loop-token : goal.invariant-loop-token
invariant-loop-token l = (are_few_open 0 (lexemes l.text l.tokens) ≡ are_few_open l.open (lexemes l.text (drop l.token-index l.tokens))) × (l.open ≤ 256)
