use Rattle.std.proofs.Common.{◌≡◌, Some, ap, ◌∙◌, arith}
use Rattle.castor_parse.proofs.Outcomes.{pair}
use Rattle.castor_parse.proofs.Nots.{counts_none, counts_more, counts_stop, counts_end}
use Rattle.castor_parse.proofs.parser.Parser.nots.Goals as goal

pub loop-nots-init : goal.loop-nots-init
loop-nots-init c = counts_none c.args.self.now

pub loop-nots-preserved : goal.loop-nots-preserved
loop-nots-preserved c = counts_more c.args.self.now c.loop-nots.self c.eat_keyword.new.self c.loop-nots.nots c.loop-nots.invariant c.if-not-eat_keyword.ensures

pub returns : goal.returns
returns c =
    let all : c.loop-nots.nots ≡ c.left-left.result = omega (arith, c.loop-nots-test.false, c.loop-nots.auto.nots-end) in
    counts_end c.args.self.now c.loop-nots.self c.loop-nots.nots c.loop-nots.invariant (omega (arith, c.left-left.ensures, all)) ∙ ap (λ n. Some (pair n c.loop-nots.self)) all

pub returns-then-not-eat_keyword : goal.returns-then-not-eat_keyword
returns-then-not-eat_keyword c = counts_stop c.args.self.now c.loop-nots.self c.eat_keyword.new.self c.loop-nots.nots c.loop-nots.invariant c.if-not-eat_keyword.ensures
