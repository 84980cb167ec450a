-- What a loop over all operands, rows or keys has held.
use Rattle.std.proofs.Common.{◌≡◌, ◌∙◌, ℕ, ◌≤◌, List, [], ◌∷◌, length, map, take, refl, sym, ap, subst, Bool, ◌||◌, Result, Ok, Err, IfOk, IsOkAnd}
use Rattle.std.specs.List.{list_any}
use Rattle.std.proofs.lemmas.List.{take_all}
use Rattle.castor_val.specs.declared.fault.Faults.{Faults}
use Rattle.castor_val.specs.declared.memory.Memory.{Memory}
use Rattle.castor_val.specs.declared.row.Row.{Row}
use Rattle.castor_val.specs.Values.{union}
use Rattle.castor_alg.specs.declared.held.Entry.{Entry}
use Rattle.castor_alg.specs.declared.held.Held.{Held, Parts, Rows, Keyed}
use Rattle.castor_alg.specs.declared.out.Out.{Out}
use Rattle.castor_alg.specs.Rows.{union_over}
use Rattle.castor_alg.specs.declared.held_out.HeldOut.{HeldOut}
use Rattle.castor_alg.specs.HeldData.{entry, keyed, listed, parted}

any-map : {X Y : Type 0} (f : X → Y) (p : Y → Bool) (xs : List X) → list_any p (map f xs) ≡ list_any (λ x. p (f x)) xs
any-map f p [] = refl
any-map f p (x ∷ xs) = ap (λ b. p (f x) || b) (any-map f p xs)

held_by : (out : HeldOut) (held held' : Held) (faults faults' : Faults) → out ≡ record { held = held; faults = faults } → held ≡ held' → faults ≡ faults' → out ≡ record { held = held'; faults = faults' }
held_by out held held' faults faults' is h f = is ∙ (λ i. record { held = h i; faults = f i })

module _ {X : Type 0} (f : X → HeldOut) where
  held-map : (xs : List X) → map (λ (h : HeldOut). h.held) (map f xs) ≡ map (λ x. (f x).held) xs
  held-map [] = refl
  held-map (x ∷ xs) = ap (λ hs. (f x).held ∷ hs) (held-map xs)

  faults-map : (xs : List X) → union_over (λ (h : HeldOut). h.faults) (map f xs) ≡ union_over (λ x. (f x).faults) xs
  faults-map xs = λ i. record {
    division = any-map f (λ (h : HeldOut). h.faults.division) xs i;
    overflow = any-map f (λ (h : HeldOut). h.faults.overflow) xs i;
    norows = any-map f (λ (h : HeldOut). h.faults.norows) xs i;
  }

  pub parts_whole : (xs : List X) (i : ℕ) (out : HeldOut) (parts : List Held) (faults : Faults) → length xs ≤ i → parts ≡ map (λ x. (f x).held) (take i xs) → faults ≡ union_over (λ x. (f x).faults) (take i xs) → out ≡ record { held = Parts parts; faults = faults } → out ≡ parted (map f xs)
  parts_whole xs i out parts faults end h g is =
      let all = take_all i xs end in
      held_by out (Parts parts) _ faults _ is
      (ap Parts (h ∙ ap (map (λ x. (f x).held)) all ∙ sym (held-map xs)))
      (g ∙ ap (λ ys. union_over (λ x. (f x).faults) ys) all ∙ sym (faults-map xs))

module _ (f : Row → HeldOut) where
  pub rows_whole : (source : Out) (slice : List Row) (i : ℕ) (out : HeldOut) (kids : List Held) (faults : Faults) → slice ≡ source.rows → length slice ≤ i → kids ≡ map (λ a. (f a).held) (take i source.rows) → faults ≡ union source.faults (union_over (λ a. (f a).faults) (take i source.rows))
      → out ≡ record { held = Rows kids; faults = faults } → out ≡ listed f source
  rows_whole source slice i out kids faults same end h g is =
      let all = take_all i source.rows (subst (λ (ys : List Row). length ys ≤ i) same end) in
      held_by out (Rows kids) _ faults _ is (ap Rows (h ∙ ap (map (λ a. (f a).held)) all)) (g ∙ ap (λ ys. union source.faults (union_over (λ a. (f a).faults) ys)) all)

  pub keys_whole : (keys : Out) (seen : List Row) (out : HeldOut) (entries : List Entry) (faults : Faults) → seen ≡ keys.rows → entries ≡ map (entry f) seen → faults ≡ union keys.faults (union_over (λ a. (f a).faults) seen)
      → out ≡ record { held = Keyed entries; faults = faults } → out ≡ keyed f keys
  keys_whole keys seen out entries faults all h g is =
      held_by out (Keyed entries) _ faults _ is (ap Keyed (h ∙ ap (map (entry f)) all)) (g ∙ ap (λ ys. union keys.faults (union_over (λ a. (f a).faults) ys)) all)

-- two operands, where there was memory for both
pub pair_whole : (first second : Result HeldOut Memory) (a b out : HeldOut) → IfOk first (λ x. x ≡ a) → IfOk second (λ y. y ≡ b) → IsOkAnd first (λ x. IsOkAnd second (λ y. out ≡ parted (x ∷ y ∷ []))) → out ≡ parted (a ∷ b ∷ [])
pair_whole (Ok x) (Ok y) a b out f g h = h ∙ (λ i. parted (f i ∷ g i ∷ []))
pair_whole (Ok x) (Err e) a b out f g h = absurd h
pair_whole (Err e) second a b out f g h = absurd h
