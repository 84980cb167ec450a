use Rattle.castor_load.proofs.Written.{byte-other, byte-quote}
use Rattle.castor_load.proofs.quoting.put_escaped.Goals as goal
use Rattle.castor_load.proofs.quoting.put_escaped.Goals.{then-byte-eq34+in_ok-push, else-byte-eq34}

pub returns : goal.returns
returns c =
    elim c.if-byte-eq34.branch [
      | then-byte-eq34+in_ok-push w ↦
          byte-quote c.args.text.now.items w.push.new.self.items c.push-2.new.self.items c.args.byte w.if-byte-eq34.true w.in_ok-push.ensures.items (rw w.text-is at c.in_ok-push-2.ensures.items)
      | else-byte-eq34 w ↦
          byte-other c.args.text.now.items c.push-2.new.self.items c.args.byte w.if-byte-eq34.false (rw w.text-is at c.in_ok-push-2.ensures.items)
    ]
