-- Indexes read from the front of bytes, in two steps: their entries, and then whether the bytes are those of these.
use Rattle.std.specs.Prelude.{◌≡◌, ◌⊎◌, ℕ, ◌*◌, List, [], ◌∷◌, drop, length, Some, Result, Ok, Err, MatchResult, true, false}
use Rattle.castor_val.specs.declared.row.Row.{Row}
use Rattle.castor_val.specs.declared.value.Value.{Value}
use Rattle.castor_alg.specs.declared.held.Entry.{Entry}
use Rattle.castor_alg.specs.declared.held.Held.{Keyed}
use Rattle.castor_alg.specs.Sorting.{sorted}
use Rattle.castor_code.specs.declared.code.Range.{Range}
use Rattle.castor_code.specs.Directories.{key_lt}
use Rattle.castor_code.specs.Readings.{Read, Reader, ranged, begins, value_in}
use Rattle.castor_code.specs.Shapes.{leaf_of}
use Rattle.castor_code.specs.Steps.{next, many}
use Rattle.castor_fixed.specs.Fields.{width}
use Rattle.castor_image.specs.declared.error.OpenError.{OpenError}
use Rattle.castor_image.specs.declared.error.OpenError.TheVariants.{NotImage, Memory}
use Rattle.castor_image.specs.declared.writing.PutError.{PutError}
use Rattle.castor_image.specs.declared.writing.PutError.TheVariants as put

-- a value of a key
abbrev pub value_read : Reader → List ℕ → Read Value
value_read one bs = next (one bs) (λ h rest. Some (value_in (leaf_of h), rest))

-- the values of a key
abbrev pub key_read : List Reader → List ℕ → Read Row
key_read [] bs = Some ([], bs)
key_read (k ∷ ks) bs = next (value_read k bs) (λ v rest. next (key_read ks rest) (λ vs more. Some (v ∷ vs, more)))

-- the values of a key, then a child
abbrev pub keyed_read : List Reader → Reader → List ℕ → Read Entry
keyed_read ks kid bs = next (key_read ks bs) (λ key rest. next (kid rest) (λ h more. Some (record { key = key; kid = h }, more)))

-- so many entries, in the order of their keys
abbrev pub sorted_read : ℕ → (List ℕ → Read Entry) → List ℕ → Read (List Entry)
sorted_read n one bs = next (many n one bs) (λ es rest. Some (sorted key_lt es, rest))

-- the entries of an index in the order of their keys, whatever the offsets are
abbrev pub entries_read : Range → Range → (ℕ → ℕ) → (List ℕ → Read Entry) → Reader
entries_read count body offsets one bs =
    next (ranged count bs) (λ n b. next (ranged body b) (λ len c. next (sorted_read n one (drop (offsets n * width body.hi) c)) (λ es rest. Some (Keyed es, rest))))

-- what was put is what the bytes begin with, and the rest is what is behind it; or it isn't, or nothing was put
abbrev pub Confirms : {T : Type 0} → (T → List ℕ) → Result (Unit {0}) PutError → List ℕ → List ℕ → Result T OpenError → Type 0
Confirms view done bs written r = MatchResult r
    (λ rest. (done ≡ Ok tt) × ((begins written bs ≡ true) × (view rest ≡ drop (length written) bs)))
    (λ e. (e ≡ Memory) ⊎ ((e ≡ NotImage) × ((done ≡ Err put.NotFit) ⊎ ((done ≡ Ok tt) × (begins written bs ≡ false)))))
