use Rattle.std.proofs.Common.{◌≡◌, ◌+◌, ◌≤◌, length, drop}
use Rattle.castor_parse.specs.Lexemes.{undoubled, undoubled_from}
use Rattle.castor_parse.proofs.limits.undoubled_len.Given as goal

abbrev pub invariant-loop-byte : goal.invariant-loop-byte
invariant-loop-byte l = (length (undoubled l.text) ≡ l.len + length (undoubled_from l.was_quote (drop l.byte-index l.text))) × (l.len ≤ l.byte-index)
