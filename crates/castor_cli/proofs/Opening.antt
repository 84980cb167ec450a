-- What reading the file of an image and opening it gives.
use Rattle.std.proofs.Common.{◌≡◌, ℕ, List, true, false, Option, Some, None, Result, Ok, Err, IfSome, inl, inr, refl, sym, subst}
use Rattle.castor_base.specs.Files.{Files}
use Rattle.castor_base.specs.declared.failed.ShelfError.{ShelfError}
use Rattle.castor_base.specs.declared.failed.ShelfError.TheVariants as shelf
use Rattle.castor_val.specs.Limits.{most_file_bytes}
use Rattle.castor_image.specs.Images.{Content, IsImageOf}
use Rattle.castor_cli.specs.declared.status.Place.TheVariants as place
use Rattle.castor_cli.specs.declared.status.Status.{Status}
use Rattle.castor_cli.specs.declared.status.Status.TheVariants as status
use Rattle.castor_cli.specs.Causes.{IsDue, NamesDeclared, Refused, RoseWhere, Stands, Unread, read_status}
use Rattle.castor_cli.specs.Commands.{Names}
use Rattle.castor_cli.specs.Opening.{IsImageIn, IsOpened}
use Rattle.castor_cli.specs.Outcome.{Caused, Devices, Ended, IsNotUsage, PrintedReplies, Rises, TakenAll, file_named}
use Rattle.castor_cli.specs.Preparation.{Broken, Says, readable}
use Rattle.castor_cli.proofs.Ends.{OpensTo, keeps_itself}
use Rattle.castor_cli.proofs.Reading.{readable_well}
use Rattle.castor_cli.proofs.Tables.{if_told}

-- ---- a file that is read

says : (file : Result (List ℕ) Status) (bytes : List ℕ) (r : Result Content Status) → file ≡ Ok bytes → IsImageIn bytes r → Says file IsImageIn r
says file bytes r is h = subst (λ (f : Result (List ℕ) Status). Says f IsImageIn r) (sym is) h

opens_to : (files : Files) (image bytes : List ℕ) → Stands most_file_bytes bytes (files image) → OpensTo (IsOpened None files image) bytes
opens_to files image bytes stands =
    let is = readable_well place.Image most_file_bytes (files image) bytes stands in
    ((λ x h. says (readable false place.Image most_file_bytes (files image)) bytes (Ok x) is h), (λ h. says (readable false place.Image most_file_bytes (files image)) bytes (Err status.Image) is h))

-- what the bytes of a file are is what opening it gives
pub file_opens : (told : Option Files) (image bytes : List ℕ) → IfSome told (λ (files : Files). Stands most_file_bytes bytes (files image)) → IfSome told (λ (files : Files). OpensTo (IsOpened None files image) bytes)
file_opens told image bytes stands = if_told told _ _ (λ files s. opens_to files image bytes s) stands

pub file_opened : (told : Option Files) (image bytes : List ℕ) → IfSome told (λ (files : Files). Stands most_file_bytes bytes (files image)) → IfSome told (λ (files : Files). (x : Content) → IsImageOf x bytes → IsOpened None files image (Ok x))
file_opened told image bytes stands = if_told told _ _ (λ files s. (opens_to files image bytes s).0) stands

-- ---- a file that isn't read

unsaid : (file : Result (List ℕ) Status) (s : Status) → file ≡ Err s → Says file IsImageIn (Err s)
unsaid file s is = subst (λ (f : Result (List ℕ) Status). Says f IsImageIn (Err s)) (sym is) refl

unread_due : (files : Files) (image : List ℕ) (s : Status) → Unread place.Image most_file_bytes (files image) s → IsDue (λ broken. IsOpened broken files image) s
unread_due files image s (inl memory) = inl memory
unread_due files image s (inr (true, blames, is)) = inr (Some place.Image, blames refl, unsaid (readable true place.Image most_file_bytes (files image)) s is)
unread_due files image s (inr (false, blames, is)) = inr (None, tt, unsaid (readable false place.Image most_file_bytes (files image)) s is)

caused_unread : (ready : Broken → Result Content Status → Type 0) (e : ShelfError) → IsDue ready (read_status place.Image e) → Caused ready (read_status place.Image e)
caused_unread ready shelf.Absent due = due
caused_unread ready shelf.TooLong due = due
caused_unread ready shelf.Failed due = due
caused_unread ready shelf.Memory due = due

names_unread : (files : Files) (query table : List ℕ) (e : ShelfError) → NamesDeclared files query (read_status place.Image e) table
names_unread files query table shelf.Absent = tt
names_unread files query table shelf.TooLong = tt
names_unread files query table shelf.Failed = tt
names_unread files query table shelf.Memory = tt

rises_unread : (told : Option Files) (rose : List ℕ → Type 0) (names : Names) (table : List ℕ) (d : Devices) (e : ShelfError) → RoseWhere told (rose names.image) (read_status place.Image e)
    → Rises told (rose (file_named names.query names.script names.image table (read_status place.Image e))) d (read_status place.Image e)
rises_unread told rose names table d shelf.Absent count = count
rises_unread told rose names table d shelf.TooLong count = count
rises_unread told rose names table d shelf.Failed count = count
rises_unread told rose names table d shelf.Memory count = tt

ended_as : (told told_after : Option Files) (rose : List ℕ → Type 0) (d : Devices) (names : Names) (table : List ℕ) (e : ShelfError)
    → IfSome told (λ (files : Files). Unread place.Image most_file_bytes (files names.image) (read_status place.Image e)) → RoseWhere told_after (rose names.image) (read_status place.Image e)
    → Ended told told_after rose d (λ files broken. IsOpened broken files names.image) names (read_status place.Image e) table
ended_as told told_after rose d names table e due count = record {
  caused = if_told told _ _ (λ files h. caused_unread (λ broken. IsOpened broken files names.image) e (unread_due files names.image (read_status place.Image e) h)) due;
  tables = if_told told _ _ (λ files h. names_unread files names.query table e) due;
  rises = rises_unread told_after rose names table d e count;
}

-- the file of the image wasn't read
pub ended_unread : (told told_after : Option Files) (rose : List ℕ → Type 0) (d : Devices) (names : Names) (s : Status) (table : List ℕ)
    → Refused told told_after (rose names.image) place.Image most_file_bytes names.image s → Ended told told_after rose d (λ files broken. IsOpened broken files names.image) names s table
ended_unread told told_after rose d names s table r =
    let (e, is) = r.error in
    subst (λ (t : Status). Ended told told_after rose d (λ files broken. IsOpened broken files names.image) names t table) (sym is)
    (ended_as told told_after rose d names table e
    (subst (λ (t : Status). IfSome told (λ (files : Files). Unread place.Image most_file_bytes (files names.image) t)) is r.due)
    (subst (λ (t : Status). RoseWhere told_after (rose names.image) t) is r.count))

-- a status that reading the file of an image gives
abbrev pub IsUnread : Status → Type 0
IsUnread s = (e : ShelfError) × (s ≡ read_status place.Image e)

keeps_output : (ready : Files → Content → Type 0) (told : Option Files) (input a : Option (List ℕ)) (e : ShelfError) → PrintedReplies ready told input a a (read_status place.Image e)
keeps_output ready told input a shelf.Absent = keeps_itself a
keeps_output ready told input a shelf.TooLong = keeps_itself a
keeps_output ready told input a shelf.Failed = keeps_itself a
keeps_output ready told input a shelf.Memory = inl (keeps_itself a)

keeps_input : (a : Option (List ℕ)) (e : ShelfError) → TakenAll a a (read_status place.Image e)
keeps_input a shelf.Absent = keeps_itself a
keeps_input a shelf.TooLong = keeps_itself a
keeps_input a shelf.Failed = keeps_itself a
keeps_input a shelf.Memory = tt

is_named : (e : ShelfError) → IsNotUsage (read_status place.Image e)
is_named shelf.Absent = tt
is_named shelf.TooLong = tt
is_named shelf.Failed = tt
is_named shelf.Memory = tt

pub printed_unread : (ready : Files → Content → Type 0) (told : Option Files) (input a : Option (List ℕ)) (s : Status) → IsUnread s → PrintedReplies ready told input a a s
printed_unread ready told input a s (e, is) = subst (λ (t : Status). PrintedReplies ready told input a a t) (sym is) (keeps_output ready told input a e)

pub taken_unread : (a : Option (List ℕ)) (s : Status) → IsUnread s → TakenAll a a s
taken_unread a s (e, is) = subst (λ (t : Status). TakenAll a a t) (sym is) (keeps_input a e)

pub not_usage_unread : (s : Status) → IsUnread s → IsNotUsage s
not_usage_unread s (e, is) = subst IsNotUsage (sym is) (is_named e)
