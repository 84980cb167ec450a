use Rattle.std.proofs.Common.{rules, arith}
use Rattle.std.proofs.lemmas.Grind.{common_steps}
use Rattle.castor_parse.specs.Parser.{read_key, separated_from}
use Rattle.castor_parse.proofs.Turns.{one_more}
use Rattle.castor_parse.proofs.parser.Parser.keys.Goals as goal

pub loop-turn-preserved : goal.loop-turn-preserved
unfolding separated_from
loop-turn-preserved c =
    let e = one_more (λ n. separated_from (read_key) n c.loop-turn.found c.loop-turn.self) _ c.loop-turn._turn c.loop-turn-test.true c.loop-turn.invariant in
    first_of (search rules, grind (arith, common_steps))
