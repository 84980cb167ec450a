use Rattle.std.proofs.Common.{rules, arith}
use Rattle.std.proofs.lemmas.Grind.{common_steps}
use Rattle.castor_parse.specs.Parser.{negated}
use Rattle.castor_parse.proofs.Turns.{one_more}
use Rattle.castor_parse.proofs.parser.Parser.negated.Goals as goal

pub loop-turn-preserved : goal.loop-turn-preserved
unfolding negated
loop-turn-preserved c =
    let e = one_more (λ n. negated n c.loop-turn.tree c.loop-turn.self) _ c.loop-turn._turn c.loop-turn-test.true c.loop-turn.invariant in
    first_of (search rules, grind (arith, common_steps))
