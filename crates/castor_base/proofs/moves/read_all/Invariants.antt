use Rattle.std.proofs.Common.{◌-◌, ◌+◌, ◌≤◌, take, vec_len}
use Rattle.std.specs.Io.KnownBytes.{Consumes}
use Rattle.castor_base.proofs.moves.read_all.Given as goal

abbrev pub invariant-loop-all : goal.invariant-loop-all
invariant-loop-all g l = record {
  within : l.taken ≤ l.limit;
  room : l.taken ≤ vec_len l.all;
  most : vec_len l.all ≤ l.limit + 1;
  taken : Consumes (g.I.Source.left l.fn.source) (g.I.Source.left l.source) (take l.taken l.all.items);
  later : g.I.Source.faults l.fn.source ≤ g.I.Source.faults l.source;
}

abbrev pub decreases-loop-all : goal.decreases-loop-all
decreases-loop-all g l = l.limit - l.taken
