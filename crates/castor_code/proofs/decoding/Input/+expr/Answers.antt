use Rattle.std.proofs.Common.{◌∙◌, arith, sym}
use Rattle.castor_code.specs.CodeAnswers.{seen}
use Rattle.castor_code.proofs.LevelLaws.{expr_takes}
use Rattle.castor_code.proofs.decoding.Input.+expr.Goals as goal

pub expr-returns-in-Some : goal.expr-returns-in-Some
expr-returns-in-Some t c =
    expr_takes c.args.levels (seen c.args.self.now) (seen c.tag.new.self) (seen c.expr_behind.new.self) _ c.in-Some.kind c.expr_behind.result (omega arith) c.in_ok-tag.ensures (sym c.expr_tag.ensures ∙ c.in-Some.is) c.expr_behind.ensures
