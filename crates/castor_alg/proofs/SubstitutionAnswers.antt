-- What code that rebuilds an expression has shown.
use Rattle.std.proofs.Common.{◌≡◌, ◌∙◌, sym, subst, Result, Ok}
use Rattle.std.specs.Prelude.{IfOk}
use Rattle.castor_val.specs.declared.memory.Memory.{Memory}
use Rattle.castor_alg.specs.declared.expr.Op.{Op}
use Rattle.castor_alg.specs.declared.expr.Expr.{Expr, fold-Expr, roll-Expr}
use Rattle.castor_alg.specs.declared.expr.Expr as E
use Rattle.castor_alg.specs.declared.expr.Expr.TheVariants.{rolls-Bin}
use Rattle.castor_alg.specs.declared.expr.Expr.TheOpen as F
use Rattle.castor_alg.proofs.ExprInduction.{fold-Bin}

from_ok : (r : Result Expr Memory) (P : Expr → Type 0) (x : Expr) → r ≡ Ok x → IfOk r P → P x
from_ok r P x is holds = subst (λ s. IfOk s P) is holds

-- an operator over both sides, where each was made and then put in a box
pub made_bin : (step : F.Expr-F Expr → Expr) → ((op : Op) (x y : Expr) → step (F.Bin op x y) ≡ roll-Expr (F.Bin op x y)) → (e a b at_a at_b x y : Expr) (op : Op) (made_a boxed_a made_b boxed_b : Result Expr Memory) → e ≡ E.Bin op a b → at_a ≡ a → at_b ≡ b → IfOk made_a (λ made. made ≡ fold-Expr Expr step at_a) → IfOk boxed_a (λ kept. made_a ≡ Ok kept) → IfOk made_b (λ made. made ≡ fold-Expr Expr step at_b) → IfOk boxed_b (λ kept. made_b ≡ Ok kept) → boxed_a ≡ Ok x → boxed_b ≡ Ok y → E.Bin op x y ≡ fold-Expr Expr step e
made_bin step rolls e a b at_a at_b x y op made_a boxed_a made_b boxed_b is same_a same_b from_a kept_a from_b kept_b at_x at_y =
    let first = from_ok made_a (λ made. made ≡ fold-Expr Expr step at_a) x (from_ok boxed_a (λ kept. made_a ≡ Ok kept) x at_x kept_a) from_a in
    let second = from_ok made_b (λ made. made ≡ fold-Expr Expr step at_b) y (from_ok boxed_b (λ kept. made_b ≡ Ok kept) y at_y kept_b) from_b in
    rw (first, second, same_a, same_b, is) (sym (
    fold-Bin Expr step op a b
    ∙ rolls op (fold-Expr Expr step a) (fold-Expr Expr step b)
    ∙ rolls-Bin op (fold-Expr Expr step a) (fold-Expr Expr step b)))
