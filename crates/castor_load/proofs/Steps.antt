-- What reading a record does to the records that are left.
use Rattle.std.proofs.Common.{◌≡◌, ◌∙◌, ◌∷◌, [], List, ℕ, Option, Some, None, IsSome, Bool, true, false, refl, ap, inl, length, ◌+◌}
use Rattle.std.specs.Bool.{MatchBool}
use Rattle.std.specs.Borrow.{Bor}
use Rattle.csv.specs.declared.parser.State.{State}
use Rattle.csv.specs.declared.reader.Reader.{Reader}
use Rattle.csv.specs.Reading.{ReadRecord, Reached, default_config, is_flexible, source_of, took_first, records_from}
use Rattle.csv.proofs.ReadFacts.{rows-end, rows-more}
use Rattle.castor_load.specs.Reading.{IsSet, bytes_left, records_of}
use Rattle.castor_load.proofs.Fuel.{records_from-some, records_from-none}

-- the bytes that are told
told : (o : Option (List ℕ)) → IsSome o → (bytes : List ℕ) × (o ≡ Some bytes)
told None h = absurd (cc h)
told (Some bytes) h = (bytes, refl)

joined : (f g : List (List ℕ)) (s1 s2 : State) (x z : List ℕ) (o : Option (List ℕ)) → f ≡ g → s1 ≡ s2 → x ≡ z → o ≡ Some z
    → g ∷ records_from default_config (length x + 1) s1 x ≡ f ∷ records_of s2 o
joined f g s1 s2 x z o a b c d = rw (d, a, b, c) refl

step-some : (a b : Reader (Bor (List ℕ))) (f : List (List ℕ)) → IsSet a → is_flexible b ≡ is_flexible a → took_first b ≡ true → ReadRecord bytes_left a b true f
    → IsSet b × (records_of a.state (source_of bytes_left a) ≡ f ∷ records_of b.state (source_of bytes_left b))
unfolding Reached
step-some a b f set flexible first r =
    let (y, at) = told (source_of bytes_left a) set.source in
    let (z, to, reached) = rows-more bytes_left a b f default_config a.state y y [] set.config at (refl, refl) r in
    let (p, next, same, left) = reached in (
      record {
        config = r.2 ∙ set.config;
        trim = r.3 ∙ set.trim;
        ready = inl first;
        flexible = flexible ∙ set.flexible;
        source = rw to refl;
      },
      ap (λ o. records_of a.state o) at ∙ records_from-some default_config a.state y p next ∙ joined f p.0 p.1 b.state p.2 z (source_of bytes_left b) same left.0 left.1 to,
    )

step-none : (a b : Reader (Bor (List ℕ))) (f : List (List ℕ)) → IsSet a → ReadRecord bytes_left a b false f → records_of a.state (source_of bytes_left a) ≡ []
step-none a b f set r =
    let (y, at) = told (source_of bytes_left a) set.source in
    ap (λ o. records_of a.state o) at ∙ records_from-none default_config a.state y (rows-end bytes_left a b f default_config y set.config at r)

-- a read takes the first of the records that are left, or there were none
pub step : (a b : Reader (Bor (List ℕ))) (f : List (List ℕ)) (found : Bool) → IsSet a → is_flexible b ≡ is_flexible a → took_first b ≡ true → ReadRecord bytes_left a b found f
    → MatchBool found (IsSet b × (records_of a.state (source_of bytes_left a) ≡ f ∷ records_of b.state (source_of bytes_left b))) (records_of a.state (source_of bytes_left a) ≡ [])
step a b f true set flexible first r = step-some a b f set flexible first r
step a b f false set flexible first r = step-none a b f set r
