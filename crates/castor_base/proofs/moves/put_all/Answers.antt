use Rattle.std.proofs.Common.{take, sym, arith, length-drop}
use Rattle.std.proofs.Math.Seq.{take-add}
use Rattle.std.proofs.lemmas.List.{take_rest}
use Rattle.castor_base.proofs.Known.{appends_more, keeps_appends, prefix_at, on_err}
use Rattle.castor_base.proofs.moves.put_all.Goals as goal

pub returns-in_err-n-clause-err : goal.returns-in_err-n-clause-err
returns-in_err-n-clause-err g c =
    on_err c.from_residual.result (
      take c.loop-at.at c.args.bytes.now,
      prefix_at _ _,
      keeps_appends _ _ _ _ c.loop-at.invariant.given c.in_err-n.ensures.bytes,
    )

pub loop-at-preserved : goal.loop-at-preserved
loop-at-preserved g c = record {
  within = omega (arith, c.in_ok-n.ensures.bound, length-drop c.loop-at.at c.args.bytes.now);
  given = appends_more _ _ _ _ _ _ c.loop-at.invariant.given c.in_ok-n.ensures.bytes (rw (take_rest c.args.bytes.now c.loop-at.at) (sym (take-add c.loop-at.at c.in_ok-n.n c.args.bytes.now)));
  later = omega arith;
}
