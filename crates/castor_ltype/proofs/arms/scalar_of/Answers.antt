use Rattle.std.proofs.Common.{◌∙◌, Bor, Option, ap, map, option_map, subst}
use Rattle.castor_val.specs.declared.value.Ty.{Ty}
use Rattle.castor_val.specs.Values.{value_of}
use Rattle.castor_alg.specs.declared.held.Held.{Held}
use Rattle.castor_code.specs.Shapes.{leaf_of}
use Rattle.castor_ltype.specs.Generation.{scalar_code}
use Rattle.castor_ltype.specs.Sizes.{IsLaid}
use Rattle.castor_ltype.proofs.LaidLaws.{scalar_found}
use Rattle.castor_ltype.proofs.arms.scalar_of.Goals as goal

pub returns : goal.returns
returns c =
    let hs = map (λ (h : Bor Held). h.now) c.args.held.now in
    subst (λ (t : Option Ty). IsLaid (scalar_code t (map leaf_of hs)) hs c.in_ok-scalar.field-0) c.expr_type_in.ensures
    (scalar_found hs c.expr_type_in.result c.as_slice.result.now c.in_ok-scalar.field-0 (ap (map (option_map value_of)) c.as_slice.ensures.value ∙ c.in_ok-values.ensures) c.in_ok-scalar.ensures.code c.in_ok-scalar.ensures.sizes)
