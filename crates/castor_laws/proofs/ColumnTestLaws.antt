-- An expression rests on the columns that it has alone.
use Rattle.std.proofs.Common.{◌∙◌, ℕ, Bool, ◌&&◌, sym, ap, Ok}
use Rattle.std.proofs.lemmas.Bool.{and_parts}
use Rattle.castor_alg.specs.declared.expr.Expr.{Expr}
use Rattle.castor_alg.specs.Expression.{apply, both_sides, choice, negation}
use Rattle.castor_alg.specs.Typing.{choice_type, negation_type, operator_type}
use Rattle.castor_alg.proofs.ExprInduction.{expr_induction, fold-Col, fold-Bin, fold-Not, fold-If}
use Rattle.castor_laws.specs.ColumnTests.{TypeRestsOnColumns, ValueRestsOnColumns, columns_pass, columns_pass_step}
use Rattle.castor_laws.proofs.ExprClauseLaws.{expr_value-Col, expr_value-Scope, expr_value-Param, expr_value-Lit, expr_value-Bin, expr_value-Not, expr_value-If}
use Rattle.castor_laws.proofs.TypeClauseLaws.{type_under-Col, type_under-Scope, type_under-Param, type_under-Lit, type_under-Bin, type_under-Not, type_under-If}

module _ (test : ℕ → Bool) where
  pub value_rests_on_columns : (e : Expr) → ValueRestsOnColumns test e
  value_rests_on_columns = expr_induction (ValueRestsOnColumns test) record {
    col = λ i is row other same env p. expr_value-Col row env p i ∙ ap Ok (same i (sym (fold-Col Bool (columns_pass_step test) i) ∙ is)) ∙ sym (expr_value-Col other env p i);
    scope = λ k i is row other same env p. expr_value-Scope row env p k i ∙ sym (expr_value-Scope other env p k i);
    param = λ i is row other same env p. expr_value-Param row env p i ∙ sym (expr_value-Param other env p i);
    lit = λ v is row other same env p. expr_value-Lit row env p v ∙ sym (expr_value-Lit other env p v);
    bin = λ op a b x y is row other same env p.
        let parts = and_parts (columns_pass test a) (columns_pass test b) (sym (fold-Bin Bool (columns_pass_step test) op a b) ∙ is) in
        expr_value-Bin row env p op a b ∙ (λ i. both_sides (apply op) (x parts.0 row other same env p i) (y parts.1 row other same env p i)) ∙ sym (expr_value-Bin other env p op a b);
    not = λ a x is row other same env p.
        expr_value-Not row env p a ∙ ap negation (x (sym (fold-Not Bool (columns_pass_step test) a) ∙ is) row other same env p) ∙ sym (expr_value-Not other env p a);
    cond = λ c a b w x y is row other same env p.
        let parts = and_parts (columns_pass test c) (columns_pass test a && columns_pass test b) (sym (fold-If Bool (columns_pass_step test) c a b) ∙ is) in
        let sides = and_parts (columns_pass test a) (columns_pass test b) parts.1 in
        expr_value-If row env p c a b ∙ (λ i. choice (w parts.0 row other same env p i) (x sides.0 row other same env p i) (y sides.1 row other same env p i)) ∙ sym (expr_value-If other env p c a b);
  }

  pub type_rests_on_columns : (e : Expr) → TypeRestsOnColumns test e
  type_rests_on_columns = expr_induction (TypeRestsOnColumns test) record {
    col = λ i is columns others same context. type_under-Col columns context i ∙ same i (sym (fold-Col Bool (columns_pass_step test) i) ∙ is) ∙ sym (type_under-Col others context i);
    scope = λ k i is columns others same context. type_under-Scope columns context k i ∙ sym (type_under-Scope others context k i);
    param = λ i is columns others same context. type_under-Param columns context i ∙ sym (type_under-Param others context i);
    lit = λ v is columns others same context. type_under-Lit columns context v ∙ sym (type_under-Lit others context v);
    bin = λ op a b x y is columns others same context.
        let parts = and_parts (columns_pass test a) (columns_pass test b) (sym (fold-Bin Bool (columns_pass_step test) op a b) ∙ is) in
        type_under-Bin columns context op a b ∙ (λ i. operator_type op (x parts.0 columns others same context i) (y parts.1 columns others same context i)) ∙ sym (type_under-Bin others context op a b);
    not = λ a x is columns others same context.
        type_under-Not columns context a ∙ ap negation_type (x (sym (fold-Not Bool (columns_pass_step test) a) ∙ is) columns others same context) ∙ sym (type_under-Not others context a);
    cond = λ c a b w x y is columns others same context.
        let parts = and_parts (columns_pass test c) (columns_pass test a && columns_pass test b) (sym (fold-If Bool (columns_pass_step test) c a b) ∙ is) in
        let sides = and_parts (columns_pass test a) (columns_pass test b) parts.1 in
        type_under-If columns context c a b ∙ (λ i. choice_type (w parts.0 columns others same context i) (x sides.0 columns others same context i) (y sides.1 columns others same context i)) ∙ sym (type_under-If others context c a b);
  }
