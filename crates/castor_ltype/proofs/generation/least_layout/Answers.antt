use Rattle.std.proofs.Common.{◌∙◌, ◌∷◌, [], List, ℕ, ap, sym}
use Rattle.std.specs.Prelude.{slice_index_or}
use Rattle.castor_code.specs.declared.code.Code.{Code}
use Rattle.castor_ltype.specs.declared.laid.Laid.{Laid}
use Rattle.castor_ltype.specs.Generation.{code_for}
use Rattle.castor_ltype.specs.Sizes.{IsLaid, held_size}
use Rattle.castor_ltype.proofs.LayingLaws.{over_made, over_made_twice}
use Rattle.castor_ltype.proofs.generation.least_layout.Goals as goal

pub returns-clause-value : goal.returns-clause-value
returns-clause-value c = over_made _ _ (λ (laid : Laid). IsLaid (code_for c.args.q.now c.args.types.now c.args.held.now) (c.args.held.now ∷ []) laid) _ _ c.lay_one-laid.ensures c.layout_of.ensures.code (λ layout laid so same. same ∙ so.code)

pub returns-clause-size : goal.returns-clause-size
returns-clause-size c =
    over_made_twice _ _ (λ (laid : Laid). IsLaid (code_for c.args.q.now c.args.types.now c.args.held.now) (c.args.held.now ∷ []) laid) _ _ _ c.lay_one-laid.ensures c.layout_of.ensures.code c.layout_of.ensures.size
    (λ layout laid so same first. first ∙ ap (λ (ns : List ℕ). slice_index_or ns 0 0) so.sizes ∙ ap (λ (code : Code). held_size code c.args.held.now) (sym same))
