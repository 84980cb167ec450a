use Rattle.std.proofs.Common.{List, map, ℕ, refl}
use Rattle.castor_code.specs.declared.code.Code.{Code}
use Rattle.castor_code.specs.Data.{format, readers, data_read}
use Rattle.castor_image.specs.IndexReadings.{key_read, value_read}
use Rattle.castor_image.proofs.TakeLaws.{turn_more, turn_stopped}
use Rattle.castor_image.proofs.reading.Input.key.Goals as goal

pub loop-code-preserved : goal.loop-code-preserved
loop-code-preserved c =
    turn_more (λ (ks : List Code) (s : List ℕ). key_read (readers (map format ks)) s) (λ (k : Code) (s : List ℕ). value_read (data_read k) s) (λ k ks s. refl)
    _ c.loop-code.key _ c.in-Ok.value c.args.codes.now c.loop-code.code-index c.code-item.result c.loop-code.self.rest.now _
    c.loop-code.invariant c.loop-code-test.true c.code-item.is c.in-Ok.ensures c.in_ok-push.ensures.ok

pub returns-in-Err : goal.returns-in-Err
returns-in-Err c =
    turn_stopped (λ (ks : List Code) (s : List ℕ). key_read (readers (map format ks)) s) (λ (k : Code) (s : List ℕ). value_read (data_read k) s) (λ k ks s. refl)
    _ c.loop-code.key c.args.codes.now c.loop-code.code-index c.code-item.result c.loop-code.self.rest.now c.in-Err.why
    c.loop-code.invariant c.loop-code-test.true c.code-item.is c.in-Err.ensures
