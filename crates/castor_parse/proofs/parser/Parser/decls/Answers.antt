use Rattle.std.proofs.Common.{rules, arith}
use Rattle.std.proofs.lemmas.Grind.{common_steps}
use Rattle.castor_parse.specs.Parser.{decls_from}
use Rattle.castor_parse.proofs.Turns.{one_more}
use Rattle.castor_parse.proofs.parser.Parser.decls.Goals as goal

pub returns-in_default : goal.returns-in_default
unfolding decls_from
returns-in_default c =
    let e = one_more (λ n. decls_from n c.loop-turn.found c.loop-turn.self) _ c.loop-turn._turn c.loop-turn-test.true c.loop-turn.invariant in
    first_of (search rules, grind (arith, common_steps))

pub loop-turn-preserved : goal.loop-turn-preserved
unfolding decls_from
loop-turn-preserved c =
    let e = one_more (λ n. decls_from n c.loop-turn.found c.loop-turn.self) _ c.loop-turn._turn c.loop-turn-test.true c.loop-turn.invariant in
    first_of (search rules, grind (arith, common_steps))
