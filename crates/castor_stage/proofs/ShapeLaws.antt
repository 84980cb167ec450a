-- Whether the keys ascend in held data of each shape.
use Rattle.std.proofs.Common.{◌≡◌, ◌∙◌, List, [], ◌∷◌, map, Bool, true, ◌&&◌, refl, sym, ap}
use Rattle.std.specs.FinMap.Entries.{below_all, is_sorted}
use Rattle.std.specs.declared.cmp.Ordering.TheVariants.{Less}
use Rattle.std.specs.List.{AllByRecursion, list_all}
use Rattle.std.specs.List.Sorted.{IsStrictlySortedBy}
use Rattle.std.specs.Ordering.{is_lt}
use Rattle.castor_val.specs.declared.row.Row.{Row}
use Rattle.castor_val.specs.declared.value.Value.{Value}
use Rattle.castor_val.specs.Values.{row_cmp}
use Rattle.castor_alg.specs.declared.held.Entry.{Entry, fold-Entry, fold_out-Entry}
use Rattle.castor_alg.specs.declared.held.Held.{Held, Leaf, Parts, Rows, Keyed, Inner, fold-roll-Held}
use Rattle.castor_alg.specs.declared.held.Held.TheVariants.{rolls-Leaf, rolls-Parts, rolls-Rows, rolls-Keyed, rolls-Inner}
use Rattle.castor_alg.specs.declared.held.Held.TheOpen as F
use Rattle.castor_alg.specs.HeldKeys.{entry_step, has_ascending_keys, keys_step}

pub ascends-Leaf : (v : Value) → has_ascending_keys (Leaf v) ≡ true
ascends-Leaf v = ap has_ascending_keys (sym (rolls-Leaf v)) ∙ fold-roll-Held Bool (Row × Bool) keys_step entry_step (F.Leaf v)

pub ascends-Rows : (kids : List Held) → has_ascending_keys (Rows kids) ≡ list_all (λ (k : Bool). k) (map has_ascending_keys kids)
ascends-Rows kids = ap has_ascending_keys (sym (rolls-Rows kids)) ∙ fold-roll-Held Bool (Row × Bool) keys_step entry_step (F.Rows kids)

pub ascends-Parts : (kids : List Held) → has_ascending_keys (Parts kids) ≡ list_all (λ (k : Bool). k) (map has_ascending_keys kids)
ascends-Parts kids = ap has_ascending_keys (sym (rolls-Parts kids)) ∙ fold-roll-Held Bool (Row × Bool) keys_step entry_step (F.Parts kids)

pub ascends-Inner : (kid : Held) → has_ascending_keys (Inner kid) ≡ has_ascending_keys kid
ascends-Inner kid = ap has_ascending_keys (sym (rolls-Inner kid)) ∙ fold-roll-Held Bool (Row × Bool) keys_step entry_step (F.Inner kid)

abbrev beside : Entry → Row × Bool
beside e = fold-Entry Bool (Row × Bool) keys_step entry_step e

beside-is : (e : Entry) → beside e ≡ (e.key, has_ascending_keys e.kid)
beside-is e = fold_out-Entry Bool (Row × Bool) keys_step entry_step e

pub ascends-Keyed : (es : List Entry) → has_ascending_keys (Keyed es) ≡ (is_sorted row_cmp (map beside es) && list_all (λ (e : Row × Bool). e.1) (map beside es))
ascends-Keyed es = ap has_ascending_keys (sym (rolls-Keyed es)) ∙ fold-roll-Held Bool (Row × Bool) keys_step entry_step (F.Keyed es)

-- where each child is so
pub each_ascends : {X : Type 0} (f : X → Held) (xs : List X) → ((x : X) → has_ascending_keys (f x) ≡ true) → list_all (λ (k : Bool). k) (map has_ascending_keys (map f xs)) ≡ true
each_ascends f [] good = refl
each_ascends f (x ∷ xs) good = (λ i. good x i && each_ascends f xs good i)

module _ (f : Row → Entry) (key : (a : Row) → (f a).key ≡ a) (good : (a : Row) → has_ascending_keys (f a).kid ≡ true) where
  pair-is : (a : Row) → beside (f a) ≡ (a, true)
  pair-is a = beside-is (f a) ∙ (λ i. (key a i, good a i))

  below : (a : Row) (bs : List Row) → AllByRecursion (λ b. row_cmp a b ≡ Less) bs → below_all row_cmp a (map beside (map f bs)) ≡ true
  below a [] u = refl
  below a (b ∷ bs) u = ap (λ (e : Row × Bool). is_lt (row_cmp a e.0) && below_all row_cmp a (map beside (map f bs))) (pair-is b) ∙ (λ i. is_lt (u.0 i) && below a bs u.1 i)

  pairs_sorted : (keys : List Row) → IsStrictlySortedBy row_cmp keys → is_sorted row_cmp (map beside (map f keys)) ≡ true
  unfolding IsStrictlySortedBy
  pairs_sorted [] s = refl
  pairs_sorted (a ∷ keys) s = ap (λ (e : Row × Bool). below_all row_cmp e.0 (map beside (map f keys)) && is_sorted row_cmp (map beside (map f keys))) (pair-is a) ∙ (λ i. below a keys s.0 i && pairs_sorted keys s.1 i)

  pairs_good : (keys : List Row) → list_all (λ (e : Row × Bool). e.1) (map beside (map f keys)) ≡ true
  pairs_good [] = refl
  pairs_good (a ∷ keys) = ap (λ (e : Row × Bool). e.1 && list_all (λ (e : Row × Bool). e.1) (map beside (map f keys))) (pair-is a) ∙ pairs_good keys

  -- where the keys are distinct and ascend, and each child is so
  pub entries_ascend : (keys : List Row) → IsStrictlySortedBy row_cmp keys → has_ascending_keys (Keyed (map f keys)) ≡ true
  entries_ascend keys s = ascends-Keyed (map f keys) ∙ (λ i. pairs_sorted keys s i && pairs_good keys i)
