use Rattle.std.proofs.Common.{◌^◌, ◌≤◌}
use Rattle.castor_script.specs.Binders.{run_scopes_of}
use Rattle.castor_script.proofs.OperandLaws.{MadeSoFar}
use Rattle.castor_script.proofs.finishing.+finish_under.Given as goal

abbrev pub invariant-finish_all-loop-operand : goal.invariant-finish_all-loop-operand
invariant-finish_all-loop-operand l = MadeSoFar l.tables (run_scopes_of l.binders) l.operands l.fn.next l.operand-index l.made l.number × (l.number ≤ 2 ^ 32)
