use Rattle.std.proofs.Common.{◌∙◌, arith, sym}
use Rattle.std.proofs.lemmas.Result.{err_from_is_err_and}
use Rattle.castor_code.specs.CodeAnswers.{seen}
use Rattle.castor_code.specs.CodeReadings.{code_in, expr_in, key_code_in}
use Rattle.castor_code.proofs.HashReads.{hash_stopped, hash_there}
use Rattle.castor_code.proofs.LevelLaws.{code_takes}
use Rattle.castor_code.proofs.LoopLaws.{loop_more, loop_stopped, some_takes}
use Rattle.castor_code.proofs.decoding.Input.+code.Goals as goal

pub code-returns-in-Some : goal.code-returns-in-Some
code-returns-in-Some t c =
    code_takes c.args.levels (seen c.args.self.now) (seen c.tag.new.self) (seen c.code_behind.new.self) _ c.in-Some.kind c.code_behind.result (omega arith) c.in_ok-tag.ensures (sym c.code_tag.ensures ∙ c.in-Some.is) c.code_behind.ensures

pub codes-loop-preserved : goal.codes-loop-preserved
codes-loop-preserved t c = loop_more (code_in c.args.levels) _ c.loop.codes _ c.in-Ok.code c.args.number c.loop.counter (seen c.loop.self) (seen c.code.new.self) c.loop.invariant (omega arith) c.in-Ok.ensures c.in_ok-push.ensures.ok

pub codes-returns-in-Err : goal.codes-returns-in-Err
codes-returns-in-Err t c = loop_stopped (code_in c.args.levels) _ c.loop.codes c.args.number c.loop.counter (seen c.loop.self) _ c.loop.invariant (omega arith) c.in-Err.ensures

pub key_codes-loop-preserved : goal.key_codes-loop-preserved
key_codes-loop-preserved t c = loop_more (key_code_in (code_in c.args.levels)) _ c.loop.codes _ c.in-Ok.code c.in_ok-number.number c.loop.counter (seen c.loop.self) (seen c.key_code.new.self) c.loop.invariant (omega arith) c.in-Ok.ensures c.in_ok-push.ensures.ok

pub some_codes-returns : goal.some_codes-returns
some_codes-returns t c = some_takes (code_in c.args.levels) c.in_ok-number.number (seen c.args.self.now) (seen c.u16.new.self) (seen c.codes.new.self) c.codes.result c.in_ok-number.ensures (omega arith) c.codes.ensures

pub hash_code-returns : goal.hash_code-returns
hash_code-returns t c = hash_there (code_in c.args.levels) (expr_in c.args.levels) (seen c.args.self.now) (seen c.ranges-2.new.self) (seen c.key_codes.new.self) (seen c.boxed_code.new.self) (seen c.exprs.new.self) c.in_ok-count.count c.in_ok-count.body c.in_ok-key.key c.in_ok-kid.kid c.len.result c.in_ok-count.ensures c.in_ok-key.ensures c.in_ok-kid.ensures c.len.ensures c.in_ok-by.by c.in_ok-by.ensures

pub hash_code-returns-in_err-by : goal.hash_code-returns-in_err-by
hash_code-returns-in_err-by t c =
    let p = err_from_is_err_and c.from_residual-in_err-by.result c.from_residual-in_err-by.ensures.1 in
    rw (p.1, p.2) (hash_stopped (code_in c.args.levels) (expr_in c.args.levels) (seen c.args.self.now) (seen c.ranges-2.new.self) (seen c.key_codes.new.self) (seen c.boxed_code.new.self) (seen c.exprs.new.self) c.in_ok-count.count c.in_ok-count.body c.in_ok-key.key c.in_ok-kid.kid c.len.result c.in_ok-count.ensures c.in_ok-key.ensures c.in_ok-kid.ensures c.len.ensures _ c.in_err-by.ensures)
