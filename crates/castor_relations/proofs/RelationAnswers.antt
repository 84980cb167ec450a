-- What a relation over a list of operands is found to be.
use Rattle.std.proofs.Common.{◌≡◌, ◌∙◌, ℕ, refl, sym, ap, List, [], map, Result, Ok, Err, inr, ◌⊎◌}
use Rattle.castor_val.specs.Gives.{Gives}
use Rattle.castor_alg.specs.declared.rel.Rel as core
use Rattle.castor_tree.specs.declared.tree.PRel.{PRel}
use Rattle.castor_tree.specs.declared.tree.PRel as R
use Rattle.castor_names.specs.Turns.{and_then, in_order}
use Rattle.castor_names.specs.declared.declarations.Declarations.{Declarations}
use Rattle.castor_names.specs.declared.error.SchemaError.{SchemaError}
use Rattle.castor_names.specs.declared.scopes.Scope.{Scope}
use Rattle.castor_operators.proofs.RelInduction.{fold-Concat, fold-Cross}
use Rattle.castor_operators.specs.Operators.{concatenated, limited}
use Rattle.castor_operators.specs.Relations.{Finding, relation, relation_step, with_crossed, with_operand}
use Rattle.castor_operators.specs.declared.found.Found.{Found}
use Rattle.castor_operators.specs.declared.operands.Crossing.{Crossing}
use Rattle.castor_operators.specs.declared.operands.Operands.{Operands}

-- the answer is just what is due
pub gives_due : {X E : Type 0} (memory : E) (due r : Result X E) → due ≡ r → Gives (λ x. x) memory due r
gives_due memory due (Ok x) is = is
gives_due memory due (Err why) is = inr is

-- what follows on the operands of a cross
abbrev pub after_crossed : Crossing → Result Found SchemaError
after_crossed all = limited (core.Cross all.queries) all.columns all.next

module _ (q : PRel) (rs slice : List PRel) (known : Declarations) (scopes : List Scope) (next : ℕ) where
  pub cross_is : q ≡ R.Cross rs → slice ≡ rs → relation q known scopes next ≡ and_then (in_order (with_crossed known scopes) (record { queries = []; columns = []; next = next }) (map relation slice)) after_crossed
  cross_is is same =
      ap (λ (q : PRel). relation q known scopes next) is
      ∙ ap (λ (m : Finding). m known scopes next) (fold-Cross Finding relation_step rs)
      ∙ ap (λ (ps : List PRel). and_then (in_order (with_crossed known scopes) (record { queries = []; columns = []; next = next }) (map relation ps)) after_crossed) (sym same)

  pub concat_is : q ≡ R.Concat rs → slice ≡ rs → relation q known scopes next ≡ and_then (in_order (with_operand known scopes) (record { queries = []; columns = []; next = next }) (map relation slice)) concatenated
  concat_is is same =
      ap (λ (q : PRel). relation q known scopes next) is
      ∙ ap (λ (m : Finding). m known scopes next) (fold-Concat Finding relation_step rs)
      ∙ ap (λ (ps : List PRel). and_then (in_order (with_operand known scopes) (record { queries = []; columns = []; next = next }) (map relation ps)) concatenated) (sym same)
