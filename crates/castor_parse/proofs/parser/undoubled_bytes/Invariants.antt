use Rattle.std.proofs.Common.{◌≡◌, ◌++◌, drop}
use Rattle.castor_parse.specs.Lexemes.{undoubled, undoubled_from}
use Rattle.castor_parse.proofs.parser.undoubled_bytes.Given as goal

abbrev pub invariant-loop-byte : goal.invariant-loop-byte
invariant-loop-byte l = undoubled l.text ≡ l.bytes.items ++ undoubled_from l.was_quote (drop l.byte-index l.text)
