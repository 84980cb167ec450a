use Rattle.std.proofs.Common.{◌≡◌, [], map, take}
use Rattle.castor_val.specs.declared.row.Row.{Row}
use Rattle.castor_val.specs.Values.{union}
use Rattle.castor_alg.specs.declared.rel.Rel.{Rel}
use Rattle.castor_alg.specs.Rows.{union_over}
use Rattle.castor_alg.specs.Scopes.{bind, scopes_of, unbound}
use Rattle.castor_alg.specs.HeldData.{entry, held_under}
use Rattle.castor_stage.proofs.holding.+hold.Given as goal

abbrev pub invariant-hold_parts-loop-r : goal.invariant-hold_parts-loop-r
invariant-hold_parts-loop-r l = record {
  parts : l.parts ≡ map (λ (r : Rel). (held_under r l.tables (scopes_of l.env) unbound []).held) (take l.r-index l.rs);
  faults : l.faults ≡ union_over (λ (r : Rel). (held_under r l.tables (scopes_of l.env) unbound []).faults) (take l.r-index l.rs);
}

abbrev pub invariant-hold_rows-loop-row : goal.invariant-hold_rows-loop-row
invariant-hold_rows-loop-row l = record {
  kids : l.kids ≡ map (λ (a : Row). (held_under l.s l.tables (bind (scopes_of l.env) l.k a) unbound []).held) (take l.row-index l.source.rows);
  faults : l.faults ≡ union l.initial.faults (union_over (λ (a : Row). (held_under l.s l.tables (bind (scopes_of l.env) l.k a) unbound []).faults) (take l.row-index l.source.rows));
}

abbrev pub invariant-hold_keys-loop-key : goal.invariant-hold_keys-loop-key
invariant-hold_keys-loop-key l = record {
  entries : l.entries ≡ map (entry (λ (a : Row). held_under l.s l.tables (bind (scopes_of l.env) l.k a) unbound [])) l.yielded;
  faults : l.faults ≡ union l.initial.faults (union_over (λ (a : Row). (held_under l.s l.tables (bind (scopes_of l.env) l.k a) unbound []).faults) l.yielded);
}
