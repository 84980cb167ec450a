use Rattle.std.proofs.Common.{◌≡◌, drop}
use Rattle.castor_names.specs.Declarations.{declared, with_declaration}
use Rattle.castor_names.specs.Turns.{in_order}
use Rattle.castor_names.proofs.declarations.declared.Given as goal

abbrev pub invariant-loop-decl : goal.invariant-loop-decl
invariant-loop-decl l = declared l.decls ≡ in_order with_declaration l.found (drop l.decl-index l.decls)
