use Rattle.std.proofs.Common.{◌≡◌, ℕ, ◌+◌, ◌++◌, List, Option, take, drop, sym, ap, ◌∙◌, arith, length-take}
use Rattle.std.proofs.Math.Seq.{take-add}
use Rattle.std.specs.Io.KnownBytes.{Consumes}
use Rattle.castor_base.proofs.Known.{consumes_more}
use Rattle.castor_base.proofs.moves.read_all.Goals as goal

-- the bytes that were taken, and those that were taken after them
taken_more : (a b c : Option (List ℕ)) (before after : List ℕ) (taken n : ℕ) → take taken after ≡ take taken before → Consumes a b (take taken before) → Consumes b c (take n (drop taken after)) → Consumes a c (take (taken + n) after)
taken_more a b c before after taken n front p q =
    consumes_more a b c (take taken before) (take n (drop taken after)) (take (taken + n) after) p q (ap (λ w. w ++ take n (drop taken after)) (sym front) ∙ sym (take-add taken n after))

pub returns-then-taken-limit-clause-why : goal.returns-then-taken-limit-clause-why
returns-then-taken-limit-clause-why g c =
    let after = c.take_after.new.all in
    let taken = take (c.loop-all.taken + c.in-Ok.n) after.items in (
      taken,
      omega (arith, c.in-Ok.ensures.bound, length-take (c.loop-all.taken + c.in-Ok.n) after.items, after.ok.0),
      taken_more _ _ _ _ _ _ _ (c.in-Ok.ensures.front ∙ c.make_room.ensures.front) c.loop-all.invariant.taken c.in-Ok.ensures.bytes,
    )

pub loop-all-preserved : goal.loop-all-preserved
loop-all-preserved g c = record {
  within = omega arith;
  room = omega (arith, c.in-Ok.ensures.bound);
  most = omega arith;
  taken = taken_more _ _ _ _ _ _ _ (c.in-Ok.ensures.front ∙ c.make_room.ensures.front) c.loop-all.invariant.taken c.in-Ok.ensures.bytes;
  later = omega arith;
}
