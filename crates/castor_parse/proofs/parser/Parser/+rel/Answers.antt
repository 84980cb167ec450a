use Rattle.std.proofs.Common.{rules, arith}
use Rattle.std.proofs.lemmas.Grind.{common_steps}
use Rattle.castor_parse.specs.Parser.{rel_at, read_rel, separated_from}
use Rattle.castor_parse.proofs.Turns.{one_more, deeper}
use Rattle.castor_parse.proofs.parser.Parser.+rel.Goals as goal

pub rels-loop-turn-preserved : goal.rels-loop-turn-preserved
unfolding separated_from
rels-loop-turn-preserved t c =
    let e = one_more (λ n. separated_from (rel_at c.args.depth) n c.loop-turn.found c.loop-turn.self) _ c.loop-turn._turn c.loop-turn-test.true c.loop-turn.invariant in
    first_of (search rules, grind (arith, common_steps))

pub rel-returns-in-Some-Name : goal.rel-returns-in-Some-Name
unfolding rel_at read_rel
rel-returns-in-Some-Name t c = rw (deeper (λ n. rel_at n c.args.self.now) c.args.depth (omega arith)) (first_of (search rules, grind (arith, common_steps)))

pub rel-returns-in_ok-expect_symbol-in-Some-Keyword : goal.rel-returns-in_ok-expect_symbol-in-Some-Keyword
unfolding rel_at read_rel
rel-returns-in_ok-expect_symbol-in-Some-Keyword t c = rw (deeper (λ n. rel_at n c.args.self.now) c.args.depth (omega arith)) (first_of (search rules, grind (arith, common_steps)))
