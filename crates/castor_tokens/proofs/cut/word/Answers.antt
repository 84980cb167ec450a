use Rattle.std.proofs.Common.{◌≡◌, ◌-◌, ◌<◌, true, take, get_or, sym, subst, arith}
use Rattle.std.proofs.lemmas.Grind.{common_steps}
use Rattle.castor_tokens.specs.Tokens.{is_name}
use Rattle.castor_tokens.proofs.TokenLaws.{name_is}
use Rattle.castor_tokens.proofs.cut.word.Goals as goal

pub returns-in-None-clause-stands : goal.returns-in-None-clause-stands
returns-in-None-clause-stands c =
    let z = c.args.z.now in
    let end = c.run-end.result in
    let some : 0 < end = c.run-end.ensures.some c.requires.some c.requires.goes_on in
    let last = c.run-end.ensures.last some in
    let first_ascii : get_or z 0 0 < 128 = grind (arith, common_steps, c.requires.goes_on) in
    let last_ascii : get_or z (end - 1) 0 < 128 = grind (arith, common_steps, last) in
    let whole : end - 0 ≡ end = omega arith in
    (some, c.run-end.ensures.within, first_ascii, last_ascii, subst (λ n. is_name (take n z) ≡ true) (sym whole) (name_is z end c.run-end.ensures.value some c.requires.begins (sym c.in-None.ensures)))
