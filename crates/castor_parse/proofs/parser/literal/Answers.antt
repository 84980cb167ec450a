use Rattle.std.proofs.Common.{arith}
use Rattle.std.proofs.lemmas.Str.{IsCharBoundary-after_ascii}
use Rattle.castor_parse.proofs.parser.literal.Goals as goal

-- the quotes are ASCII
pub range-within-requires-clause-start_boundary : goal.range-within-requires-clause-start_boundary
range-within-requires-clause-start_boundary c some =
    let stands = c.requires.stands in
    IsCharBoundary-after_ascii c.args.text.now c.args.span.from c.utf8.text (omega (arith, stands.0, stands.1)) (omega (arith, stands.2))
