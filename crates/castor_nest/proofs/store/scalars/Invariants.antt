use Rattle.castor_nest.proofs.ScopeColumnLaws.{MadeBefore}
use Rattle.castor_nest.proofs.store.scalars.Given as goal

abbrev pub invariant-loop-at : goal.invariant-loop-at
invariant-loop-at l = MadeBefore l.scope l.columns l.at l.scalars
