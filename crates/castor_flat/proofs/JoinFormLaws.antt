-- What the rules over joins make by the numbers of columns of their operands.
use Rattle.std.proofs.Common.{◌≡◌, ℕ, List, sym, subst, Some, Result, Ok, Option}
use Rattle.castor_val.specs.Gives.{Gives}
use Rattle.castor_val.specs.declared.value.Ty.{Ty}
use Rattle.castor_alg.specs.declared.expr.Expr.{Expr}
use Rattle.castor_alg.specs.declared.rel.Rel.{Rel}
use Rattle.castor_alg.specs.declared.rule_error.RuleError.{RuleError}
use Rattle.castor_alg.specs.declared.rule_error.RuleError.TheVariants.{Memory}
use Rattle.castor_alg.specs.ColumnCount.{column_count}
use Rattle.castor_flat.specs.Columns.{changed_places}
use Rattle.castor_flat.specs.FilterJoinLeft.{filter_join_left, to_left}
use Rattle.castor_flat.specs.FilterJoinRight.{filter_join_right, to_right}
use Rattle.castor_flat.specs.Forms.{Rewriting, filter_of, join_of, with_three, with_two}
use Rattle.castor_flat.specs.JoinCommute.{commuted, join_commute}

abbrev Answers : Result Rel RuleError → Rewriting → Type 0
Answers result due = Gives (λ (r : Rel). r) Memory due result

-- a filter over a join
filter_of_join : (q inner r s : Rel) (p c : Expr) (made : Expr → Expr → Rel → Rel → Rewriting) (result : Result Rel RuleError) → filter_of q ≡ Some (p, inner) → join_of inner ≡ Some (c, r, s) → Answers result (made p c r s) → Answers result (with_two (filter_of q) (λ p inner. with_three (join_of inner) (λ c r s. made p c r s)))
filter_of_join q inner r s p c made result whole below gives =
    subst (λ (o : Option (Expr × Rel)). Answers result (with_two o (λ p inner. with_three (join_of inner) (λ c r s. made p c r s)))) (sym whole)
    (subst (λ (o : Option (Expr × Rel × Rel)). Answers result (with_three o (λ c r s. made p c r s))) (sym below) gives)

pub left_made : (tables : List (List Ty)) (q inner r s : Rel) (p c : Expr) (n : ℕ) (result : Result Rel RuleError) → filter_of q ≡ Some (p, inner) → join_of inner ≡ Some (c, r, s) → n ≡ column_count tables r → Answers result (to_left n p c r s) → Answers result (filter_join_left tables q)
left_made tables q inner r s p c n result whole below same gives =
    filter_of_join q inner r s p c (λ p c r s. to_left (column_count tables r) p c r s) result whole below
    (subst (λ (m : ℕ). Answers result (to_left m p c r s)) same gives)

pub right_made : (tables : List (List Ty)) (q inner r s : Rel) (p c : Expr) (n m : ℕ) (result : Result Rel RuleError) → filter_of q ≡ Some (p, inner) → join_of inner ≡ Some (c, r, s) → n ≡ column_count tables r → m ≡ column_count tables s → Answers result (to_right n m p c r s) → Answers result (filter_join_right tables q)
right_made tables q inner r s p c n m result whole below same also gives =
    filter_of_join q inner r s p c (λ p c r s. to_right (column_count tables r) (column_count tables s) p c r s) result whole below
    (subst (λ (k : ℕ). Answers result (to_right k (column_count tables s) p c r s)) same
    (subst (λ (k : ℕ). Answers result (to_right n k p c r s)) also gives))

pub commuted_made : (tables : List (List Ty)) (q r s : Rel) (c : Expr) (n m : ℕ) (result : Result Rel RuleError) → join_of q ≡ Some (c, r, s) → n ≡ column_count tables r → m ≡ column_count tables s → Answers result (Ok (commuted (changed_places n m) c r s)) → Answers result (join_commute tables q)
commuted_made tables q r s c n m result whole same also gives =
    subst (λ (o : Option (Expr × Rel × Rel)). Answers result (with_three o (λ c r s. Ok (commuted (changed_places (column_count tables r) (column_count tables s)) c r s)))) (sym whole)
    (subst (λ (k : ℕ). Answers result (Ok (commuted (changed_places k (column_count tables s)) c r s))) same
    (subst (λ (k : ℕ). Answers result (Ok (commuted (changed_places n k) c r s))) also gives))
