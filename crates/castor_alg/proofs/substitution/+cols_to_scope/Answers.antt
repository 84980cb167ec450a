use Rattle.std.proofs.Common.{refl}
use Rattle.castor_alg.specs.Substitution.{cols_to_scope_step}
use Rattle.castor_alg.proofs.SubstitutionAnswers.{made_bin}
use Rattle.castor_alg.proofs.substitution.+cols_to_scope.Goals as goal

pub returns-in_ok-a-in-Bin : goal.returns-in_ok-a-in-Bin
returns-in_ok-a-in-Bin t c = made_bin (cols_to_scope_step c.args.scope) (λ op x y. refl) c.args.e.now c.in-Bin.a c.in-Bin.b c.get.result.now c.get-in-Bin.result.now c.in_ok-a-in-Bin.a c.in_ok-a-in-Bin.b c.in-Bin.op c.cols_to_scope.result c.boxed-a.result c.cols_to_scope-in-Bin.result c.boxed-b.result c.in-Bin.is c.get.ensures c.get-in-Bin.ensures c.cols_to_scope.ensures c.boxed-a.ensures c.cols_to_scope-in-Bin.ensures c.boxed-b.ensures c.in_ok-a-in-Bin.ensures.first c.in_ok-a-in-Bin.ensures.second
