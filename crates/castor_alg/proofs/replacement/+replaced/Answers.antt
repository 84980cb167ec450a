use Rattle.std.proofs.Common.{◌≡◌, ◌∙◌, IfOk, List, Some, None, Ok, refl, subst, sym, ap}
use Rattle.std.specs.Option.{option_copied}
use Rattle.castor_alg.specs.declared.rel.Rel.{Rel}
use Rattle.castor_alg.specs.Places as spec
use Rattle.castor_alg.proofs.EachOperandLaws.{known_of, on_each-none, put_between}
use Rattle.castor_alg.proofs.replacement.+replaced.Goals as goal

pub on_each-returns-in_ok-before-in-Some : goal.on_each-returns-in_ok-before-in-Some
on_each-returns-in_ok-before-in-Some t c =
    let parts = c.in_ok-before-in-Some.ensures in
    let one = subst (λ r. IfOk r (λ pair. c.replaced-made.result ≡ Ok pair.0)) parts.second c.both.ensures.first in
    let behind = subst (λ r. IfOk r (λ pair. c.copy_all-after.result ≡ Ok pair.1)) parts.second c.both.ensures.second in
    let front = known_of c.copy_all.result _ _ parts.first c.copy_all.ensures in
    let new = known_of c.replaced-made.result _ _ one c.replaced-made.ensures in
    let back = known_of c.copy_all-after.result _ _ behind c.copy_all-after.ensures in
    let at = sym c.at.ensures ∙ ap option_copied c.in-Some.is in
    subst (λ (due : List Rel). IfOk c.between.result (λ made. made ≡ due)) (put_between c.args.number (spec.replaced c.args.rest.now c.args.new.now) c.args.rs.now _ _ _ _ at front new back) c.between.ensures

pub on_each-returns-in-None : goal.on_each-returns-in-None
on_each-returns-in-None t c =
    let at = sym c.at.ensures ∙ ap option_copied c.in-None.is in
    subst (λ (due : List Rel). IfOk c.copy_all-in-None.result (λ made. made ≡ due)) (sym (on_each-none c.args.number (spec.replaced c.args.rest.now c.args.new.now) c.args.rs.now at)) c.copy_all-in-None.ensures
