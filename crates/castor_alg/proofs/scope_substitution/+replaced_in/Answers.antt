use Rattle.std.proofs.Common.{refl}
use Rattle.castor_alg.specs.Substitution.{subst_scope_expr_step}
use Rattle.castor_alg.proofs.SubstitutionAnswers.{made_bin}
use Rattle.castor_alg.proofs.scope_substitution.+replaced_in.Goals as goal

pub returns-in_ok-a-in-Bin : goal.returns-in_ok-a-in-Bin
returns-in_ok-a-in-Bin t c = made_bin (subst_scope_expr_step c.args.scope c.args.by.now) (λ op x y. refl) c.args.e.now c.in-Bin.a c.in-Bin.b c.get.result.now c.get-in-Bin.result.now c.in_ok-a-in-Bin.a c.in_ok-a-in-Bin.b c.in-Bin.op c.replaced_in.result c.boxed-a.result c.replaced_in-in-Bin.result c.boxed-b.result c.in-Bin.is c.get.ensures c.get-in-Bin.ensures c.replaced_in.ensures c.boxed-a.ensures c.replaced_in-in-Bin.ensures c.boxed-b.ensures c.in_ok-a-in-Bin.ensures.first c.in_ok-a-in-Bin.ensures.second
