-- A node of at most so many levels, by its tag and what stands behind it.
use Rattle.std.proofs.Common.{◌≡◌, ◌∙◌, ℕ, zero, suc, ◌-◌, ◌<◌, Option, Some, Result, subst, ap, sym, arith}
use Rattle.castor_alg.specs.declared.expr.Expr.{Expr}
use Rattle.castor_code.specs.declared.code.Code.{Code}
use Rattle.castor_code.specs.declared.decoding.CodeError.{CodeError}
use Rattle.castor_code.specs.declared.tag.CodeTag.{CodeTag}
use Rattle.castor_code.specs.declared.tag.ExprTag.{ExprTag}
use Rattle.castor_code.specs.CodeAnswers.{Takes}
use Rattle.castor_code.specs.CodeReadings.{Input, told, with_left, tag_in, expr_tag, expr_after, expr_in, code_tag, code_after, code_in}
use Rattle.castor_code.proofs.StepLaws.{next_of}

-- the kind of a node, from its tag
kind_told : {K : Type 0} (f : ℕ → Option K) (s u : Input) (n : ℕ) (kind : K) → tag_in s ≡ Some (n, u) → f n ≡ Some kind → told f tag_in s ≡ Some (kind, u)
kind_told {K} f s u n kind read is = next_of (tag_in s) (λ x t. with_left (f x) t) n u read ∙ ap (λ (o : Option K). with_left o u) is

expr_due : (levels : ℕ) (s u : Input) (kind : ExprTag) → 0 < levels → told expr_tag tag_in s ≡ Some (kind, u) → expr_in levels s ≡ expr_after kind (expr_in (levels - 1)) u
expr_due zero s u kind some read = absurd (omega arith)
expr_due (suc levels) s u kind some read =
    let below : levels ≡ suc levels - 1 = omega arith in
    next_of (told expr_tag tag_in s) (λ k t. expr_after k (expr_in levels) t) kind u read ∙ ap (λ n. expr_after kind (expr_in n) u) below

pub expr_takes : (levels : ℕ) (s u left : Input) (n : ℕ) (kind : ExprTag) (r : Result Expr CodeError) → 0 < levels → tag_in s ≡ Some (n, u) → expr_tag n ≡ Some kind → Takes (λ e. e) (expr_after kind (expr_in (levels - 1)) u) left r → Takes (λ e. e) (expr_in levels s) left r
expr_takes levels s u left n kind r some read is took =
    subst (λ (o : Option (Expr × Input)). Takes (λ e. e) o left r) (sym (expr_due levels s u kind some (kind_told expr_tag s u n kind read is))) took

code_due : (levels : ℕ) (s u : Input) (kind : CodeTag) → 0 < levels → told code_tag tag_in s ≡ Some (kind, u) → code_in levels s ≡ code_after kind (code_in (levels - 1)) (expr_in (levels - 1)) u
code_due zero s u kind some read = absurd (omega arith)
code_due (suc levels) s u kind some read =
    let below : levels ≡ suc levels - 1 = omega arith in
    next_of (told code_tag tag_in s) (λ k t. code_after k (code_in levels) (expr_in levels) t) kind u read ∙ ap (λ n. code_after kind (code_in n) (expr_in n) u) below

pub code_takes : (levels : ℕ) (s u left : Input) (n : ℕ) (kind : CodeTag) (r : Result Code CodeError) → 0 < levels → tag_in s ≡ Some (n, u) → code_tag n ≡ Some kind → Takes (λ c. c) (code_after kind (code_in (levels - 1)) (expr_in (levels - 1)) u) left r → Takes (λ c. c) (code_in levels s) left r
code_takes levels s u left n kind r some read is took =
    subst (λ (o : Option (Code × Input)). Takes (λ c. c) o left r) (sym (code_due levels s u kind some (kind_told code_tag s u n kind read is))) took
