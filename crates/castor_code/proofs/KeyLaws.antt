-- Keys are in order one way alone.
use Rattle.std.proofs.Common.{◌≡◌, ◌∙◌, true, false, ap, sym, refl}
use Rattle.std.specs.declared.cmp.Ordering.{Ordering}
use Rattle.std.specs.declared.cmp.Ordering.TheVariants.{Less, Equal, Greater}
use Rattle.std.specs.Ordering.{is_lt, ordering_reverse}
use Rattle.castor_val.specs.Values.{row_cmp}
use Rattle.castor_val.proofs.OrderLaws.{row_order}
use Rattle.castor_alg.specs.declared.held.Entry.{Entry}
use Rattle.castor_code.specs.Directories.{key_lt}

turned : (a b : Ordering) → a ≡ ordering_reverse b → is_lt a ≡ true → is_lt b ≡ false
turned a Less is less = let no : false ≡ true = sym (ap is_lt is) ∙ less in absurd cc
turned a Equal is less = refl
turned a Greater is less = refl

-- an entry before another isn't behind it
pub keys_apart : (x y : Entry) → key_lt x y ≡ true → key_lt y x ≡ false
keys_apart x y less = turned (row_cmp x.key y.key) (row_cmp y.key x.key) (row_order.total.antisymm x.key y.key) less
