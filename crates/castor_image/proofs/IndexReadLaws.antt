-- Indexes read in two steps, as by one.
use Rattle.std.proofs.Common.{◌≡◌, ◌∙◌, ◌⊎◌, inl, inr, ℕ, ◌*◌, List, [], ◌∷◌, map, drop, length, Bool, true, false, ◌&&◌, Result, Ok, Err, Option, Some, None, subst, ap, sym, refl}
use Rattle.std.proofs.lemmas.Bool.{and_from}
use Rattle.castor_val.specs.declared.row.Row.{Row}
use Rattle.castor_val.specs.declared.value.Value.{Value}
use Rattle.castor_alg.specs.declared.held.Entry.{Entry}
use Rattle.castor_alg.specs.declared.held.Held.{Held, Keyed}
use Rattle.castor_alg.specs.Sorting.{sorted}
use Rattle.castor_code.specs.declared.code.Range.{Range}
use Rattle.castor_code.specs.Directories.{key_lt}
use Rattle.castor_code.specs.Pieces.{Piece}
use Rattle.castor_code.specs.Readings.{Read, Reader, ranged, in_order, entry_read, index_read, begins, confirmed, value_in}
use Rattle.castor_code.specs.Shapes.{leaf_of}
use Rattle.castor_code.specs.Steps.{next, many, when}
use Rattle.castor_code.proofs.StepLaws.{got, next_of, when_holds}
use Rattle.castor_fixed.specs.Fields.{width}
use Rattle.castor_image.specs.declared.error.OpenError.{OpenError}
use Rattle.castor_image.specs.declared.writing.PutError.{PutError}
use Rattle.castor_image.specs.declared.writing.PutError.TheVariants as put
use Rattle.castor_image.specs.IndexReadings.{key_read, keyed_read, entries_read, Confirms}
use Rattle.castor_image.specs.Puts.{Puts}
use Rattle.castor_image.proofs.PieceLaws.{first_fails}
use Rattle.castor_image.proofs.PutLaws.{second_fails}
use Rattle.castor_image.proofs.TakeLaws.{Lacks, lacks_more}

-- ---- keys and entries
abbrev value_of_held : Held → Value
value_of_held h = value_in (leaf_of h)

key_behind : (h : Held) (o : Option (List Held × List ℕ)) → next (next o (λ hs rest. got (map value_of_held hs) rest)) (λ vs more. got (value_of_held h ∷ vs) more) ≡ next (next o (λ hs more. got (h ∷ hs) more)) (λ hs rest. got (map value_of_held hs) rest)
key_behind h None = refl
key_behind h (Some p) = refl

key_is : (ks : List Reader) (bs : List ℕ) → key_read ks bs ≡ next (in_order ks bs) (λ hs rest. got (map value_of_held hs) rest)
key_is [] bs = refl
key_is (k ∷ ks) bs = by (λ rest. key_is ks rest) (k bs)
  where
    by : ((rest : List ℕ) → key_read ks rest ≡ next (in_order ks rest) (λ hs rest. got (map value_of_held hs) rest)) → (o : Option (Held × List ℕ)) → next (next o (λ h rest. got (value_of_held h) rest)) (λ v rest. next (key_read ks rest) (λ vs more. got (v ∷ vs) more)) ≡ next (next o (λ h rest. next (in_order ks rest) (λ hs more. got (h ∷ hs) more))) (λ hs rest. got (map value_of_held hs) rest)
    by others None = refl
    by others (Some p) = ap (λ (o : Option (Row × List ℕ)). next o (λ vs more. got (value_of_held p.0 ∷ vs) more)) (others p.1) ∙ key_behind p.0 (in_order ks p.1)

keyed_is : (ks : List Reader) (kid : Reader) (bs : List ℕ) → keyed_read ks kid bs ≡ entry_read ks kid bs
keyed_is ks kid bs = ap (λ (o : Option (Row × List ℕ)). next o (λ key rest. next (kid rest) (λ h more. got (record { key = key; kid = h }) more))) (key_is ks bs) ∙ by (in_order ks bs)
  where
    by : (o : Option (List Held × List ℕ)) → next (next o (λ hs rest. got (map value_of_held hs) rest)) (λ key rest. next (kid rest) (λ h more. got {X = Entry} (record { key = key; kid = h }) more)) ≡ next o (λ hs rest. next (kid rest) (λ h more. got {X = Entry} (record { key = map value_of_held hs; kid = h }) more))
    by None = refl
    by (Some p) = refl

pub entries_are : (ks : List Reader) (kid : Reader) → keyed_read ks kid ≡ entry_read ks kid
entries_are ks kid = λ i bs. keyed_is ks kid bs i

-- ---- indexes
pub index_is : (count body : Range) (offsets : ℕ → ℕ) (one : List ℕ → Read Entry) (write : Held → Piece) (bs : List ℕ) → index_read count body offsets one write bs ≡ next (entries_read count body offsets one bs) (λ h rest. confirmed write h bs)
index_is count body offsets one write bs = by (ranged count bs)
  where
    entries_by : (o : Option (List Entry × List ℕ)) → next o (λ es rest. confirmed write (Keyed (sorted key_lt es)) bs) ≡ next (next (next o (λ es rest. got (sorted key_lt es) rest)) (λ es rest. got {X = Held} (Keyed es) rest)) (λ h rest. confirmed write h bs)
    entries_by None = refl
    entries_by (Some p) = refl

    body_by : (n : ℕ) (o : Option (ℕ × List ℕ)) → next o (λ len c. next (many n one (drop (offsets n * width body.hi) c)) (λ es rest. confirmed write (Keyed (sorted key_lt es)) bs))
        ≡ next (next o (λ len c. next (next (many n one (drop (offsets n * width body.hi) c)) (λ es rest. got (sorted key_lt es) rest)) (λ es rest. got {X = Held} (Keyed es) rest))) (λ h rest. confirmed write h bs)
    body_by n None = refl
    body_by n (Some p) = entries_by (many n one (drop (offsets n * width body.hi) p.1))

    by : (o : Option (ℕ × List ℕ)) → next o (λ n b. next (ranged body b) (λ len c. next (many n one (drop (offsets n * width body.hi) c)) (λ es rest. confirmed write (Keyed (sorted key_lt es)) bs)))
        ≡ next (next o (λ n b. next (ranged body b) (λ len c. next (next (many n one (drop (offsets n * width body.hi) c)) (λ es rest. got (sorted key_lt es) rest)) (λ es rest. got {X = Held} (Keyed es) rest)))) (λ h rest. confirmed write h bs)
    by None = refl
    by (Some p) = body_by p.0 (ranged body p.1)

-- ---- what was read is confirmed by what is written for it
module _ (write : Held → Piece) (h : Held) (bs written : List ℕ) (done : Result (Unit {0}) PutError) (put_is : Puts (write h) [] written done) where
  did_put : done ≡ Ok tt → ((write h).fits ≡ true) × (written ≡ (write h).bytes)
  did_put is = subst (λ (r : Result (Unit {0}) PutError). Puts (write h) [] written r) is put_is

  refused : (a b : Bool) → (a && b) ≡ false → when {X = Held × List ℕ} (a && b) (h, drop (length (write h).bytes) bs) ≡ None
  refused a b fails = ap (λ (t : Bool). when {X = Held × List ℕ} t (h, drop (length (write h).bytes) bs)) fails

  no_fit : done ≡ Err put.NotFit → (write h).fits ≡ false
  no_fit is = from (subst (λ (r : Result (Unit {0}) PutError). Puts (write h) [] written r) is put_is)
    where
      from : ((put.NotFit ≡ put.Memory) ⊎ ((put.NotFit ≡ put.NotFit) × ((write h).fits ≡ false))) → (write h).fits ≡ false
      from (inl other) = absurd cc
      from (inr unfit) = unfit.1

  pub confirmed_by : {T : Type 0} (view : T → List ℕ) (r : Result T OpenError) (rest : T) → r ≡ Ok rest → Confirms view done bs written r → confirmed write h bs ≡ Some (h, view rest)
  confirmed_by {T} view r rest is confirms =
      let did = subst (λ (x : Result T OpenError). Confirms view done bs written x) is confirms in
      let wrote = did_put did.0 in
      let front : begins (write h).bytes bs ≡ true = ap (λ xs. begins xs bs) (sym wrote.1) ∙ did.1.0 in
      when_holds _ _ (and_from _ _ wrote.0 front) ∙ ap (got h) (ap (λ (xs : List ℕ). drop (length xs) bs) (sym wrote.1) ∙ sym did.1.1)

  pub not_confirmed : {T : Type 0} (view : T → List ℕ) (r : Result T OpenError) (e : OpenError) → r ≡ Err e → Confirms view done bs written r → Lacks e (confirmed write h bs ≡ None)
  not_confirmed {T} view r e is confirms = from (subst (λ (x : Result T OpenError). Confirms view done bs written x) is confirms)
    where
      other : ((done ≡ Err put.NotFit) ⊎ ((done ≡ Ok tt) × (begins written bs ≡ false))) → confirmed write h bs ≡ None
      other (inl unfit) = refused (write h).fits (begins (write h).bytes bs) (first_fails _ _ (no_fit unfit))
      other (inr apart) = refused (write h).fits (begins (write h).bytes bs) (second_fails _ _ (ap (λ xs. begins xs bs) (sym (did_put apart.0).1) ∙ apart.1))

      from : Confirms view done bs written (Err e) → Lacks e (confirmed write h bs ≡ None)
      from (inl memory) = inl memory
      from (inr not) = inr (not.0, other not.1)

-- ---- an index, by its two steps
module _ (count body : Range) (offsets : ℕ → ℕ) (ks : List Reader) (kid : Reader) (write : Held → Piece) (bs : List ℕ) where
  in_steps : index_read count body offsets (entry_read ks kid) write bs ≡ next (entries_read count body offsets (keyed_read ks kid) bs) (λ h rest. confirmed write h bs)
  in_steps =
      index_is count body offsets (entry_read ks kid) write bs
      ∙ ap (λ (one : List ℕ → Read Entry). next (entries_read count body offsets one bs) (λ h rest. confirmed write h bs)) (sym (entries_are ks kid))

  pub index_unread : (e : OpenError) → Lacks e (entries_read count body offsets (keyed_read ks kid) bs ≡ None) → Lacks e (index_read count body offsets (entry_read ks kid) write bs ≡ None)
  index_unread e why = lacks_more e (λ none. in_steps ∙ ap (λ (o : Option (Held × List ℕ)). next o (λ h rest. confirmed write h bs)) none) why

  module _ (h : Held) (left written : List ℕ) (done : Result (Unit {0}) PutError) (read : entries_read count body offsets (keyed_read ks kid) bs ≡ Some (h, left)) (put_is : Puts (write h) [] written done) where
    then_confirmed : index_read count body offsets (entry_read ks kid) write bs ≡ confirmed write h bs
    then_confirmed = in_steps ∙ next_of _ _ _ _ read

    index_confirmed : {T : Type 0} (view : T → List ℕ) (r : Result T OpenError) (rest : T) → r ≡ Ok rest → Confirms view done bs written r → index_read count body offsets (entry_read ks kid) write bs ≡ Some (h, view rest)
    index_confirmed view r rest is confirms = then_confirmed ∙ confirmed_by write h bs written done put_is view r rest is confirms

    index_refused : {T : Type 0} (view : T → List ℕ) (r : Result T OpenError) (e : OpenError) → r ≡ Err e → Confirms view done bs written r → Lacks e (index_read count body offsets (entry_read ks kid) write bs ≡ None)
    index_refused view r e is confirms = lacks_more e (λ none. then_confirmed ∙ none) (not_confirmed write h bs written done put_is view r e is confirms)

  -- the same, where the bytes are put into an empty list and are looked at as a slice
  module _ (h : Held) (left old written slice : List ℕ) (done : Result (Unit {0}) PutError) (read : entries_read count body offsets (keyed_read ks kid) bs ≡ Some (h, left)) (none : old ≡ []) (put_is : Puts (write h) old written done) (same : slice ≡ written) where
    put_empty : Puts (write h) [] slice done
    put_empty = subst (λ (o : List ℕ). Puts (write h) o slice done) none (subst (λ (w : List ℕ). Puts (write h) old w done) (sym same) put_is)

    pub index_there : {T : Type 0} (view : T → List ℕ) (rest : T) → Confirms view done bs slice (Ok rest) → index_read count body offsets (entry_read ks kid) write bs ≡ Some (h, view rest)
    index_there {T} view rest confirms = index_confirmed h left slice done read put_empty view (Ok rest) rest refl confirms

    pub index_lacks : {T : Type 0} (view : T → List ℕ) (e : OpenError) → Confirms view done bs slice (Err e) → Lacks e (index_read count body offsets (entry_read ks kid) write bs ≡ None)
    index_lacks {T} view e confirms = index_refused h left slice done read put_empty view (Err e) e refl confirms
