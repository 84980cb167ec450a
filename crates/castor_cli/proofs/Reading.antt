-- What a read of a shelf says of the files that were told when the run began.
use Rattle.std.proofs.Common.{◌≡◌, ℕ, ◌<◌, ◌≤◌, List, length, true, false, Option, Some, None, Ok, Err, IfSome, refl, sym, ◌∙◌, inl, inr, arith}
use Rattle.std.specs.Prelude.{nat_lt, IsSomeAnd}
use Rattle.std.proofs.lemmas.Bool.{ltb-true, ltb-false, cases_Bool}
use Rattle.castor_base.specs.Files.{Files, ReadFile, ReadWhy, SameFiles}
use Rattle.castor_base.specs.declared.failed.ShelfError.{ShelfError}
use Rattle.castor_base.specs.declared.failed.ShelfError.TheVariants as shelf
use Rattle.castor_cli.specs.declared.status.Place.{Place}
use Rattle.castor_cli.specs.declared.status.ReadFault.TheVariants as fault
use Rattle.castor_cli.specs.declared.status.Status.TheVariants as status
use Rattle.castor_cli.specs.Causes.{Refused, RoseWhere, Stands, Unread, read_status}
use Rattle.castor_cli.specs.After.{after}
use Rattle.castor_cli.specs.Preparation.{readable}

-- a read that gave bytes
pub read_told : (old now : Option Files) (name bytes : List ℕ) (limit : ℕ) → SameFiles old now → ReadFile now name limit bytes → IfSome old (λ (files : Files). Stands limit bytes (files name))
read_told None now name bytes limit same read = tt
read_told (Some f) None name bytes limit same read = absurd same
read_told (Some f) (Some g) name bytes limit same read = (sym (same name) ∙ read.0, read.1)

-- a file that stands is readable
pub readable_well : (p : Place) (limit : ℕ) (file : Option (List ℕ)) (bytes : List ℕ) → Stands limit bytes file → readable false p limit file ≡ Ok bytes
readable_well p limit file bytes (is, short) =
    elim (cases_Bool (nat_lt limit (length bytes))) [
      | inl long ↦ absurd (let h : limit < length bytes = ltb-true _ _ long in omega (arith, h, short))
      | inr fine ↦ rw (is, fine) refl
    ]

unread_in : (p : Place) (limit : ℕ) (file : Option (List ℕ)) (bytes : List ℕ) → Stands limit bytes file → readable true p limit file ≡ Err (status.Read p fault.Failed)
unread_in p limit file bytes (is, short) =
    elim (cases_Bool (nat_lt limit (length bytes))) [
      | inl long ↦ absurd (let h : limit < length bytes = ltb-true _ _ long in omega (arith, h, short))
      | inr fine ↦ rw (is, fine) refl
    ]

long_in : (p : Place) (limit : ℕ) (bytes : List ℕ) → limit < length bytes → readable false p limit (Some bytes) ≡ Err (status.Read p fault.TooLong)
long_in p limit bytes long =
    elim (cases_Bool (nat_lt limit (length bytes))) [
      | inl is ↦ rw is refl
      | inr not ↦ absurd (let h : length bytes ≤ limit = ltb-false _ _ not in omega (arith, h, long))
    ]

-- a file with this property is one that stands
some_stands : (limit : ℕ) (file : Option (List ℕ)) → IsSomeAnd file (λ bytes. length bytes ≤ limit) → (bytes : List ℕ) × Stands limit bytes file
some_stands limit None h = absurd h
some_stands limit (Some bytes) h = (bytes, (refl, h))

too_long : (p : Place) (limit : ℕ) (file : Option (List ℕ)) → IsSomeAnd file (λ bytes. limit < length bytes) → readable false p limit file ≡ Err (status.Read p fault.TooLong)
too_long p limit None h = absurd h
too_long p limit (Some bytes) h = long_in p limit bytes h

unread_by : (p : Place) (limit : ℕ) (f : Files) (name : List ℕ) (rose : Type 0) (e : ShelfError) → ReadWhy (Some f) name limit rose e → Unread p limit (f name) (read_status p e)
unread_by p limit f name rose shelf.Memory why = inl refl
unread_by p limit f name rose shelf.Absent why = inr (false, (λ (t : false ≡ true). absurd (cc t)), rw why refl)
unread_by p limit f name rose shelf.TooLong why = inr (false, (λ (t : false ≡ true). absurd (cc t)), too_long p limit (f name) why)
unread_by p limit f name rose shelf.Failed why = let (bytes, stands) = some_stands limit (f name) why.1 in inr (true, (λ t. refl), unread_in p limit (f name) bytes stands)

pub unread_told : (p : Place) (old now : Option Files) (name : List ℕ) (limit : ℕ) (rose : Type 0) (e : ShelfError) → SameFiles old now → ReadWhy now name limit rose e
    → IfSome old (λ (files : Files). Unread p limit (files name) (read_status p e))
unread_told p None now name limit rose e same why = tt
unread_told p (Some f) None name limit rose e same why = absurd same
unread_told p (Some f) (Some g) name limit rose e same why = rw (sym (same name)) (unread_by p limit g name rose e why)

-- the count rose, where the status needs it
pub rose_where : (p : Place) (now new : Option Files) (name : List ℕ) (limit : ℕ) (rose rises : Type 0) (e : ShelfError) → SameFiles now new → ReadWhy now name limit rose e → (rose → rises) → RoseWhere new rises (read_status p e)
rose_where p now new name limit rose rises shelf.Memory same why up = tt
rose_where p None None name limit rose rises shelf.Absent same why up = up why
rose_where p (Some f) None name limit rose rises shelf.Absent same why up = absurd same
rose_where p now (Some g) name limit rose rises shelf.Absent same why up = tt
rose_where p None None name limit rose rises shelf.TooLong same why up = up why
rose_where p (Some f) None name limit rose rises shelf.TooLong same why up = absurd same
rose_where p now (Some g) name limit rose rises shelf.TooLong same why up = tt
rose_where p None new name limit rose rises shelf.Failed same why up = up why
rose_where p (Some f) new name limit rose rises shelf.Failed same why up = up why.0

-- files that stay the same twice
pub same_twice : (a b c : Option Files) → SameFiles a b → SameFiles b c → SameFiles a c
same_twice None b c ab bc = tt
same_twice (Some f) None c ab bc = absurd ab
same_twice (Some f) (Some g) None ab bc = absurd bc
same_twice (Some f) (Some g) (Some h) ab bc = λ name. bc name ∙ ab name

-- what a read that was refused says
pub refused_by : (p : Place) (old now new : Option Files) (name : List ℕ) (limit : ℕ) (rose rises : Type 0) (e : ShelfError) → SameFiles old now → SameFiles now new
    → ReadWhy now name limit rose e → (rose → rises) → Refused old new rises p limit name (read_status p e)
refused_by p old now new name limit rose rises e same after why up = record {
  error = (e, refl);
  due = unread_told p old now name limit rose e same why;
  count = rose_where p now new name limit rose rises e after why up;
}
