use Rattle.std.proofs.Common.{sym, subst, arith}
use Rattle.castor_parse.specs.Lexemes.{IsNumber}
use Rattle.castor_parse.proofs.Numbers.{too_large}
use Rattle.castor_parse.proofs.parser.number.Goals as goal

pub returns-in_err-checked_mul : goal.returns-in_err-checked_mul
returns-in_err-checked_mul c =
    subst (IsNumber _) (sym c.from_residual.ensures) (too_large _ c.loop-digit.digit-index c.loop-digit.number _ c.loop-digit-test.true c.loop-digit.invariant (omega (arith, c.in_err-checked_mul.ensures)))

pub returns-in_err-number : goal.returns-in_err-number
returns-in_err-number c =
    subst (IsNumber _) (sym c.from_residual-in_err-number.ensures) (too_large _ c.loop-digit.digit-index c.loop-digit.number _ c.loop-digit-test.true c.loop-digit.invariant (omega (arith, c.in_err-number.ensures, c.in_ok-checked_mul.ensures, c.from-value.ensures, c.saturating_sub.ensures)))
