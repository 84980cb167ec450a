use Rattle.std.proofs.Common.{rules, arith}
use Rattle.std.proofs.lemmas.Grind.{common_steps}
use Rattle.castor_parse.specs.Parser.{expr_at, read_and, read_not, read_term, read_prim, chain_from, or_operator, and_operator, sum_operator, term_operator}
use Rattle.castor_parse.proofs.Turns.{one_more, deeper}
use Rattle.castor_parse.proofs.parser.Parser.+expr.Goals as goal

pub expr-returns : goal.expr-returns
unfolding expr_at
expr-returns t c = rw (deeper (λ n. expr_at n c.args.self.now) c.args.depth (omega arith)) c.or_expr.ensures

pub or_expr-loop-turn-preserved : goal.or_expr-loop-turn-preserved
unfolding chain_from
or_expr-loop-turn-preserved t c =
    let e = one_more (λ n. chain_from or_operator (read_and (expr_at c.args.depth)) n c.loop-turn.left c.loop-turn.self) _ c.loop-turn._turn c.loop-turn-test.true c.loop-turn.invariant in
    first_of (search rules, grind (arith, common_steps))

pub and_expr-loop-turn-preserved : goal.and_expr-loop-turn-preserved
unfolding chain_from
and_expr-loop-turn-preserved t c =
    let e = one_more (λ n. chain_from and_operator (read_not (expr_at c.args.depth)) n c.loop-turn.left c.loop-turn.self) _ c.loop-turn._turn c.loop-turn-test.true c.loop-turn.invariant in
    first_of (search rules, grind (arith, common_steps))

pub sum-loop-turn-preserved : goal.sum-loop-turn-preserved
unfolding chain_from
sum-loop-turn-preserved t c =
    let e = one_more (λ n. chain_from sum_operator (read_term (expr_at c.args.depth)) n c.loop-turn.left c.loop-turn.self) _ c.loop-turn._turn c.loop-turn-test.true c.loop-turn.invariant in
    first_of (search rules, grind (arith, common_steps))

pub term-loop-turn-preserved : goal.term-loop-turn-preserved
unfolding chain_from
term-loop-turn-preserved t c =
    let e = one_more (λ n. chain_from term_operator (read_prim (expr_at c.args.depth)) n c.loop-turn.left c.loop-turn.self) _ c.loop-turn._turn c.loop-turn-test.true c.loop-turn.invariant in
    first_of (search rules, grind (arith, common_steps))
