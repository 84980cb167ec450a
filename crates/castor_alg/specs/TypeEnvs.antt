-- The contexts that borrowed type environments stand for.
use Rattle.castor_alg.specs.declared.context.Context.{Context}
use Rattle.castor_alg.specs.declared.type_env.TypeEnv.{TypeEnv}
use Rattle.castor_alg.specs.declared.type_env.TypeEnv.TheVariants.{Outer, Bind'}
use Rattle.castor_alg.specs.Typing.{extended}

-- the context within the binders
abbrev pub context_of : TypeEnv → Context
context_of (Outer context) = context.now
context_of (Bind' k types p outer) = extended (context_of outer) k types.now
