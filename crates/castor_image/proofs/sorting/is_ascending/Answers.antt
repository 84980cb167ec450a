use Rattle.std.proofs.Common.{◌≡◌, ◌∙◌, ◌-◌, drop, Bool, false, ◌&&◌, sym, ap, rules, arith}
use Rattle.castor_code.specs.Directories.{key_lt}
use Rattle.castor_image.proofs.AdjacentLaws.{adjacent, adjacent-end, adjacent-step, keys_order, rises-adjacent}
use Rattle.castor_image.proofs.sorting.is_ascending.Goals as goal

pub returns : goal.returns
returns c = sym (rises-adjacent key_lt keys_order c.args.entries.now ∙ c.loop-at.invariant ∙ adjacent-end key_lt c.args.entries.now (c.loop-at.at - 1) (omega arith))

pub returns-then-not-is_lt : goal.returns-then-not-is_lt
returns-then-not-is_lt c =
    let es = c.args.entries.now in
    let no : key_lt c.index-entries-at.result c.index-entries-at-in-loop-at.result ≡ false = search (rules, c.is_lt.ensures, c.compare_keys.ensures) in
    let here = adjacent-step key_lt es (c.loop-at.at - 1) c.loop-at.at c.index-entries-at.result c.index-entries-at-in-loop-at.result (omega arith) (omega arith) c.index-entries-at.is c.index-entries-at-in-loop-at.is in
    sym (rises-adjacent key_lt keys_order es ∙ c.loop-at.invariant ∙ here ∙ ap (λ (b : Bool). b && adjacent key_lt (drop c.loop-at.at es)) no)
