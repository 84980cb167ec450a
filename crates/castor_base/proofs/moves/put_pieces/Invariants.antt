use Rattle.std.proofs.Common.{take, ◌≤◌}
use Rattle.std.specs.List.{flat_map}
use Rattle.std.specs.Io.KnownBytes.{Appends}
use Rattle.castor_base.proofs.moves.put_pieces.Given as goal

abbrev pub invariant-loop-piece : goal.invariant-loop-piece
invariant-loop-piece g l = record {
  given : Appends (g.K.Sink.given l.fn.sink) (g.K.Sink.given l.sink) (flat_map (λ p. p.now) (take l.piece-index l.pieces));
  later : g.K.Sink.faults l.fn.sink ≤ g.K.Sink.faults l.sink;
}
