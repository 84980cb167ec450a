use Rattle.std.proofs.Common.{◌∙◌, ap, sym, option_and_then, slice_get}
use Rattle.castor_alg.specs.declared.type_env.TypeEnv.{TypeEnv}
use Rattle.castor_alg.specs.TypeEnvs.{context_of}
use Rattle.castor_alg.specs.Typing.{scope_types}
use Rattle.castor_alg.proofs.TypingLaws.{column-bound}
use Rattle.castor_alg.proofs.type_env.TypeEnv.+scope_column.Goals as goal

pub returns-then-bound-scope : goal.returns-then-bound-scope
returns-then-bound-scope t c =
    column-bound (context_of c.in-Bind.outer.now) c.in-Bind.bound c.in-Bind.types.now c.args.scope c.args.at _ c.if-bound-scope.true c.type_at.ensures
    ∙ ap (λ (env : TypeEnv). option_and_then (λ types. slice_get types c.args.at) (scope_types (context_of env).scopes c.args.scope)) (sym c.in-Bind.is)
