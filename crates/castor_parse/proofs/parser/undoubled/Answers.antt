use Rattle.std.proofs.Common.{IsUtf8, sym, subst}
use Rattle.castor_parse.specs.Lexemes.{undoubled}
use Rattle.castor_parse.proofs.Quotes.{IsUtf8-undoubled}
use Rattle.castor_parse.proofs.parser.undoubled.Goals as goal

pub unwrap-requires : goal.unwrap-requires
unwrap-requires c = c.from_utf8.ensures.succeeds (subst IsUtf8 (sym c.in_ok-bytes.ensures) (subst (λ z. IsUtf8 (undoubled z)) (sym c.as_bytes.ensures.value) (IsUtf8-undoubled c.args.text.now c.utf8.text)))
