use Rattle.std.proofs.Common.{◌≡◌, drop}
use Rattle.std.specs.List.{list_all}
use Rattle.castor_parse.specs.Lexemes.{lexemes}
use Rattle.castor_parse.specs.Limits.{is_short}
use Rattle.castor_parse.proofs.limits.are_short.Given as goal

abbrev pub invariant-loop-token : goal.invariant-loop-token
invariant-loop-token l = list_all is_short (lexemes l.text l.tokens) ≡ list_all is_short (lexemes l.text (drop l.token-index l.tokens))
