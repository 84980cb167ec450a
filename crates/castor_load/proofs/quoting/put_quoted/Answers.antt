use Rattle.std.proofs.Common.{◌∙◌, refl}
use Rattle.castor_load.proofs.Written.{quoted-end, quoted-more, quoted-start}
use Rattle.castor_load.proofs.quoting.put_quoted.Goals as goal

pub loop-b-init : goal.loop-b-init
loop-b-init c = c.in_ok-push.ensures.items ∙ quoted-start c.args.text.now.items c.args.field.now

pub loop-b-preserved : goal.loop-b-preserved
loop-b-preserved c = quoted-more c.loop-b.text.items c.put_escaped.new.text.items c.args.text.now.items c.args.field.now c.loop-b.b-index _ c.loop-b-test.true refl c.loop-b.invariant c.in_ok-put_escaped.ensures

pub returns : goal.returns
returns c = quoted-end c.loop-b.text.items c.push-2.new.self.items c.args.text.now.items c.args.field.now c.loop-b.b-index c.loop-b-test.false c.loop-b.invariant c.in_ok-push-2.ensures.items
