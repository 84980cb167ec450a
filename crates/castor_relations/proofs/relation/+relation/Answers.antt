use Rattle.std.proofs.Common.{◌∙◌, ap, subst, sym, rules, Result}
use Rattle.castor_val.specs.Gives.{Gives}
use Rattle.castor_names.specs.Scopes.{scopes_of}
use Rattle.castor_names.specs.Turns.{and_then}
use Rattle.castor_names.specs.declared.error.SchemaError.{SchemaError}
use Rattle.castor_names.specs.declared.error.SchemaError.TheVariants as error
use Rattle.castor_operators.specs.Operators.{concatenated}
use Rattle.castor_operators.specs.declared.found.Found.{Found}
use Rattle.castor_operators.specs.declared.operands.Crossing.{Crossing}
use Rattle.castor_operators.specs.declared.operands.Operands.{Operands}
use Rattle.castor_relations.proofs.RelationAnswers.{after_crossed, concat_is, cross_is, gives_due}
use Rattle.castor_relations.proofs.relation.+relation.Goals as goal

abbrev Answered : Result Found SchemaError → Result Found SchemaError → Type 0
Answered r due = Gives (λ (f : Found). f) error.Memory due r

pub relation-returns-in_err-all-in-Cross : goal.relation-returns-in_err-all-in-Cross
relation-returns-in_err-all-in-Cross t c =
    let is = cross_is c.args.query.now c.in-Cross.rs c.as_slice-in-Cross.result.now c.args.known.now (scopes_of c.args.scopes.now) c.args.next c.in-Cross.is c.as_slice-in-Cross.ensures in
    subst (Answered c.from_residual.result) (sym is) (search rules)

pub relation-returns-in_err-all-in-Concat : goal.relation-returns-in_err-all-in-Concat
relation-returns-in_err-all-in-Concat t c =
    let is = concat_is c.args.query.now c.in-Concat.rs c.as_slice-in-Concat.result.now c.args.known.now (scopes_of c.args.scopes.now) c.args.next c.in-Concat.is c.as_slice-in-Concat.ensures in
    subst (Answered c.from_residual-in_err-all-in-Concat.result) (sym is) (search rules)

pub relation-returns-in_ok-all-in-Cross : goal.relation-returns-in_ok-all-in-Cross
relation-returns-in_ok-all-in-Cross t c =
    let is = cross_is c.args.query.now c.in-Cross.rs c.as_slice-in-Cross.result.now c.args.known.now (scopes_of c.args.scopes.now) c.args.next c.in-Cross.is c.as_slice-in-Cross.ensures in
    gives_due error.Memory _ c.limited.result (is ∙ ap (λ (r : Result Crossing SchemaError). and_then r after_crossed) c.in_ok-all-in-Cross.ensures ∙ sym c.limited.ensures)

pub relation-returns-in_ok-all-in-Concat : goal.relation-returns-in_ok-all-in-Concat
relation-returns-in_ok-all-in-Concat t c =
    let is = concat_is c.args.query.now c.in-Concat.rs c.as_slice-in-Concat.result.now c.args.known.now (scopes_of c.args.scopes.now) c.args.next c.in-Concat.is c.as_slice-in-Concat.ensures in
    gives_due error.Memory _ c.concatenated.result (is ∙ ap (λ (r : Result Operands SchemaError). and_then r concatenated) c.in_ok-all-in-Concat.ensures ∙ sym c.concatenated.ensures)
