use Rattle.std.proofs.Common.{◌≡◌, ◌+◌, ◌-◌, subst, arith}
use Rattle.std.specs.Str.{IsCharBoundary}
use Rattle.std.proofs.lemmas.Str.{IsCharBoundary-after_ascii}
use Rattle.castor_parse.proofs.parser.word.Goals as goal

-- the last byte of a name is ASCII
pub range-name-requires-clause-end_boundary : goal.range-name-requires-clause-end_boundary
range-name-requires-clause-end_boundary c =
    let text = c.args.text.now in
    let to = c.args.span.to in
    let stands = c.requires.stands in
    let e : to - 1 + 1 ≡ to = omega (arith, stands.0) in
    subst (IsCharBoundary text) e (IsCharBoundary-after_ascii text (to - 1) c.utf8.text (omega (arith, stands.0, stands.1)) stands.3)
