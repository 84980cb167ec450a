use Rattle.castor_base.proofs.Known.{pieces-prefix, on_err}
use Rattle.castor_base.proofs.moves.put_pieces.Goals as goal

pub returns-in_err-put_all-clause-err : goal.returns-in_err-put_all-clause-err
returns-in_err-put_all-clause-err g c =
    on_err c.from_residual.result (
    pieces-prefix (λ p. p.now) c.args.pieces.now c.loop-piece.piece-index _ _ _ _ c.loop-piece-test.true c.loop-piece.invariant.given c.in_err-put_all.ensures.err
    )
