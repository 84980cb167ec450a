-- Values that are found one after another are those that are found from the last to the first.
use Rattle.std.proofs.Common.{◌≡◌, ℕ, ◌<◌, ◌+◌, List, [], ◌∷◌, ◌++◌, length, take, get_or, refl, sym, ap, ◌∙◌, Result, Ok, Err}
use Rattle.std.proofs.lemmas.List.{take_more}
use Rattle.castor_val.specs.declared.fault.Faults.{Faults}
use Rattle.castor_val.specs.declared.row.Row.{Row}
use Rattle.castor_val.proofs.FaultLaws.{union_assoc}
use Rattle.castor_alg.specs.declared.expr.Expr.{Expr}
use Rattle.castor_alg.specs.Expression.{Answer, expr_value, expr_values, put_front}
use Rattle.castor_alg.specs.Scopes.{Scopes}
use Rattle.castor_eval.specs.Answers.{put_back}

pub put_back-put_front : (v : Answer) (row : Result Row Faults) (w : Answer) → put_back (put_front v row) w ≡ put_front v (put_back row w)
put_back-put_front (Ok v) (Ok row) (Ok w) = refl
put_back-put_front (Ok v) (Ok row) (Err f) = refl
put_back-put_front (Ok v) (Err g) (Ok w) = refl
put_back-put_front (Ok v) (Err g) (Err f) = refl
put_back-put_front (Err e) (Ok row) (Ok w) = refl
put_back-put_front (Err e) (Ok row) (Err f) = refl
put_back-put_front (Err e) (Err g) (Ok w) = refl
put_back-put_front (Err e) (Err g) (Err f) = ap Err (union_assoc e g f)

pub put_front-none : (a : Answer) → put_front a (Ok []) ≡ put_back (Ok []) a
put_front-none (Ok v) = refl
put_front-none (Err f) = refl

expr_values-more : (es : List Expr) (e : Expr) (row : Row) (env : Scopes) (p : Row) → expr_values (es ++ e ∷ []) row env p ≡ put_back (expr_values es row env p) (expr_value e row env p)
expr_values-more [] e row env p = put_front-none (expr_value e row env p)
expr_values-more (x ∷ es) e row env p = ap (put_front (expr_value x row env p)) (expr_values-more es e row env p) ∙ sym (put_back-put_front (expr_value x row env p) (expr_values es row env p) (expr_value e row env p))

-- one more expression of a list
pub expr_values-step : (es : List Expr) (i : ℕ) (e : Expr) (row : Row) (env : Scopes) (p : Row) (done out : Result Row Faults) (next : Answer) → i < length es → e ≡ get_or es i e → done ≡ expr_values (take i es) row env p → next ≡ expr_value e row env p → out ≡ put_back done next → out ≡ expr_values (take (i + 1) es) row env p
expr_values-step es i e row env p done out next h at d n o =
    o ∙ ap (λ a. put_back a next) d ∙ ap (put_back (expr_values (take i es) row env p)) n
    ∙ sym (expr_values-more (take i es) e row env p)
    ∙ ap (λ x. expr_values (take i es ++ x ∷ []) row env p) at
    ∙ ap (λ xs. expr_values xs row env p) (sym (take_more es i e h))
