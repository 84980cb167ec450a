use Rattle.std.proofs.Common.{◌≡◌, ◌∙◌, ap, length, subst, sym, true}
use Rattle.castor_code.specs.declared.code.Code.{Code}
use Rattle.castor_code.specs.Data.{data_of}
use Rattle.castor_ltype.specs.declared.generation.Layout.{Layout}
use Rattle.castor_ltype.specs.Formed.{is_sized}
use Rattle.castor_ltype.specs.Generation.{code_for}
use Rattle.castor_ltype.specs.Layouts.{FitsHeld, HasTypes, IsFormed, MeansQuery}
use Rattle.castor_ltype.proofs.FormedLaws.{code_formed}
use Rattle.castor_ltype.proofs.IndexFitLaws.{code_fits}
use Rattle.castor_ltype.proofs.LayingLaws.{over_made, over_seen}
use Rattle.castor_ltype.proofs.MeaningLaws.{code_means}
use Rattle.castor_ltype.proofs.TypeLaws.{code_typed}
use Rattle.castor_ltype.proofs.generation.lay_out.Goals as goal

pub returns-clause-value : goal.returns-clause-value
returns-clause-value c = over_made c.sized_layout.result c.least_layout-layout.result (λ (l : Layout). l.code ≡ code_for c.args.q.now c.args.types.now c.args.held.now) (λ (seen given : Layout). seen ≡ given) (λ (l : Layout). l.code ≡ code_for c.args.q.now c.args.types.now c.args.held.now) c.least_layout-layout.ensures.value c.sized_layout.ensures.same (λ seen given so same. ap (λ (l : Layout). l.code) same ∙ so)

pub returns-clause-size : goal.returns-clause-size
returns-clause-size c = over_made c.sized_layout.result c.least_layout-layout.result (λ (l : Layout). l.size ≡ length (data_of l.code c.args.held.now)) (λ (seen given : Layout). seen ≡ given) (λ (l : Layout). l.size ≡ length (data_of l.code c.args.held.now)) c.least_layout-layout.ensures.size c.sized_layout.ensures.same (λ seen given so same. subst (λ (l : Layout). l.size ≡ length (data_of l.code c.args.held.now)) (sym same) so)

pub returns-clause-types : goal.returns-clause-types
returns-clause-types c =
    over_made c.sized_layout.result c.least_layout-layout.result (λ (l : Layout). l.code ≡ code_for c.args.q.now c.args.types.now c.args.held.now) (λ (seen given : Layout). seen ≡ given) (λ (l : Layout). HasTypes c.args.q.now c.args.types.now l.code) c.least_layout-layout.ensures.value c.sized_layout.ensures.same
    (λ seen given so same. subst (λ (code : Code). HasTypes c.args.q.now c.args.types.now code) (sym (ap (λ (l : Layout). l.code) same ∙ so)) (code_typed c.args.q.now c.args.types.now c.args.held.now))

pub returns-clause-fits : goal.returns-clause-fits
returns-clause-fits c =
    over_made c.sized_layout.result c.least_layout-layout.result (λ (l : Layout). l.code ≡ code_for c.args.q.now c.args.types.now c.args.held.now) (λ (seen given : Layout). seen ≡ given) (λ (l : Layout). FitsHeld c.args.q.now c.args.types.now c.args.held.now l.code) c.least_layout-layout.ensures.value c.sized_layout.ensures.same
    (λ seen given so same. subst (λ (code : Code). FitsHeld c.args.q.now c.args.types.now c.args.held.now code) (sym (ap (λ (l : Layout). l.code) same ∙ so)) (code_fits c.args.q.now c.args.types.now c.args.held.now))

pub returns-clause-formed : goal.returns-clause-formed
returns-clause-formed c =
    over_seen c.sized_layout.result c.least_layout-layout.result (λ (l : Layout). l.code ≡ code_for c.args.q.now c.args.types.now c.args.held.now) (λ (seen given : Layout). seen ≡ given) (λ (l : Layout). is_sized l.code ≡ true) (λ (l : Layout). IsFormed c.args.q.now c.args.types.now l.code) c.least_layout-layout.ensures.value c.sized_layout.ensures.same c.sized_layout.ensures.sizes
    (λ seen given so same sizes.
    let is = ap (λ (l : Layout). l.code) same ∙ so in
    subst (λ (code : Code). IsFormed c.args.q.now c.args.types.now code) (sym is)
    (code_formed c.args.q.now c.args.types.now c.args.held.now (subst (λ (code : Code). is_sized code ≡ true) is sizes)))

pub returns-clause-meaning : goal.returns-clause-meaning
returns-clause-meaning c =
    over_made c.sized_layout.result c.least_layout-layout.result (λ (l : Layout). l.code ≡ code_for c.args.q.now c.args.types.now c.args.held.now) (λ (seen given : Layout). seen ≡ given) (λ (l : Layout). MeansQuery c.args.q.now c.args.held.now l.code) c.least_layout-layout.ensures.value c.sized_layout.ensures.same
    (λ seen given so same. subst (λ (code : Code). MeansQuery c.args.q.now c.args.held.now code) (sym (ap (λ (l : Layout). l.code) same ∙ so)) (code_means c.args.q.now c.args.types.now c.args.held.now))
