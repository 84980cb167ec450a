use Rattle.castor_tree.specs.Formed.{IsFormed}
use Rattle.castor_schema_tests.proofs.limits.ordering_refusal.Given as goal

abbrev pub invariant-loop : goal.invariant-loop
invariant-loop l = IsFormed l.file
