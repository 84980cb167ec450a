use Rattle.std.proofs.Common.{◌≡◌, [], drop, map}
use Rattle.castor_names.specs.Scopes.{scopes_of}
use Rattle.castor_names.specs.Turns.{in_order}
use Rattle.castor_operators.specs.Relations.{relation, with_crossed, with_operand}
use Rattle.castor_relations.proofs.relation.+relation.Given as goal

abbrev pub invariant-crossed-loop-query : goal.invariant-crossed-loop-query
invariant-crossed-loop-query l =
    in_order (with_crossed l.known (scopes_of l.scopes)) (record { queries = []; columns = []; next = l.next }) (map relation l.queries)
    ≡ in_order (with_crossed l.known (scopes_of l.scopes)) l.found (map relation (drop l.query-index l.queries))

abbrev pub invariant-operands_found-loop-query : goal.invariant-operands_found-loop-query
invariant-operands_found-loop-query l =
    in_order (with_operand l.known (scopes_of l.scopes)) (record { queries = []; columns = []; next = l.next }) (map relation l.queries)
    ≡ in_order (with_operand l.known (scopes_of l.scopes)) l.found (map relation (drop l.query-index l.queries))
