-- That a run without a cause comes to its end, or meets want of memory.
use Rattle.std.proofs.Common.{◌≡◌, ◌+◌, ◌∙◌, ℕ, List, length, Option, Some, None, Result, Ok, Err, inl, inr, sym, ap, subst, arith}
use Rattle.std.proofs.lemmas.List.{length-append}
use Rattle.castor_base.specs.Files.{Files, SameFiles, SameOthers}
use Rattle.castor_base.specs.Moves.{TookTooMany}
use Rattle.castor_val.specs.Limits.{most_input_bytes}
use Rattle.castor_image.specs.Images.{Content}
use Rattle.castor_cli.specs.declared.command.Command.{Command}
use Rattle.castor_cli.specs.declared.command.Command.TheVariants.{Answer, Build, Ask, Show, Code, Sample}
use Rattle.castor_cli.specs.declared.status.Place.{Place}
use Rattle.castor_cli.specs.declared.status.Place.TheVariants as place
use Rattle.castor_cli.specs.declared.status.ReadFault.TheVariants as fault
use Rattle.castor_cli.specs.declared.status.Status.{Status}
use Rattle.castor_cli.specs.declared.status.Status.TheVariants as status
use Rattle.castor_cli.specs.Causes.{IsDue}
use Rattle.castor_cli.specs.Commands.{Names}
use Rattle.castor_cli.specs.Complete.{Completes, HasNoCause, InputIsWithin, IsOkOrMemory, IsWithinLimit}
use Rattle.castor_cli.specs.Outcome.{Caused, Devices, Ended, Filed, IsImageFor, Rises, Taken, Written, file_named}
use Rattle.castor_cli.specs.Preparation.{Broken}

-- an input within the limit doesn't give one byte more than the limit
not_too_many : (old new : Option (List ℕ)) → IsWithinLimit old → TookTooMany old new most_input_bytes → ⊥
not_too_many None new within took = within
not_too_many (Some xs) None within (bytes, n, took) = took
not_too_many (Some xs) (Some ys) within (bytes, n, took) = let h : length xs ≡ length bytes + length ys = ap length took ∙ length-append bytes ys in omega (arith, h, n, within)

never_too_long : (command : Option Command) (old new : Option (List ℕ)) → InputIsWithin command old → Taken command old new status.TooLong → ⊥
never_too_long None old new within taken = not_too_many old new within taken
never_too_long (Some Answer) old new within taken = not_too_many old new within taken
never_too_long (Some Build) old new within taken = taken
never_too_long (Some Ask) old new within taken = not_too_many old new within taken
never_too_long (Some Show) old new within taken = not_too_many old new within taken
never_too_long (Some Code) old new within taken = not_too_many old new within taken
never_too_long (Some Sample) old new within taken = not_too_many old new within taken

-- a device that failed has a count that rose
failed_ends : (after : Files) (rose : List ℕ → Type 0) (d : Devices) (names : Names) (table : List ℕ) (p : Place)
    → Rises (Some after) (rose (file_named names.query names.script names.image table (status.Read p fault.Failed))) d (status.Read p fault.Failed)
    → ((name : List ℕ) → rose name → ⊥) → (d.input → ⊥) → ⊥
failed_ends after rose d names table place.Input rises files source = source rises
failed_ends after rose d names table p rises files source = files _ rises

-- a status that is due of a run for which there is an image
due_ends : (command : Option Command) (after : Files) (ready : Broken → Result Content Status → Type 0) (left : Option (List ℕ)) (rose : List ℕ → Type 0) (d : Devices) (names : Names) (table : List ℕ) (s : Status)
    → ((x : Content) (w : Status) → ready None (Ok x) → ready None (Err w) → ⊥) → HasNoCause command ready left rose d → IsDue ready s
    → Rises (Some after) (rose (file_named names.query names.script names.image table s)) d s → IsOkOrMemory s
due_ends command after ready left rose d names table s one n (inl e) rises = subst IsOkOrMemory (sym e) tt
due_ends command after ready left rose d names table s one n (inr (None, blame, due)) rises =
    let (x, is) = n.starts in absurd (one x s is due)
due_ends command after ready left rose d names table s one n (inr (Some p, blame, due)) rises =
    absurd (failed_ends after rose d names table p (subst (λ (t : Status). Rises (Some after) (rose (file_named names.query names.script names.image table t)) d t) blame rises) n.files n.source)

-- each status but two has a cause
ends : (command : Option Command) (after : Files) (ready : Broken → Result Content Status → Type 0) (left left_after : Option (List ℕ)) (rose : List ℕ → Type 0) (d : Devices) (names : Names) (table : List ℕ) (s : Status)
    → ((x : Content) (w : Status) → ready None (Ok x) → ready None (Err w) → ⊥) → HasNoCause command ready left rose d → Taken command left left_after s → Caused ready s
    → Rises (Some after) (rose (file_named names.query names.script names.image table s)) d s → IsOkOrMemory s
ends command after ready left left_after rose d names table status.Ok one n taken caused rises = tt
ends command after ready left left_after rose d names table status.Memory one n taken caused rises = tt
ends command after ready left left_after rose d names table status.TooLong one n taken caused rises = absurd (never_too_long command left left_after n.within taken)
ends command after ready left left_after rose d names table (status.Write place.Output) one n taken caused rises = absurd (n.sink rises)
ends command after ready left left_after rose d names table (status.Write place.Image) one n taken caused rises = absurd (n.stored rises)
ends command after ready left left_after rose d names table (status.Write p) one n taken caused rises = absurd rises
ends command after ready left left_after rose d names table (status.Read place.Input fault.Failed) one n taken caused rises = absurd (n.source rises)
ends command after ready left left_after rose d names table (status.Read place.Input why) one n taken caused rises = absurd rises
ends command after ready left left_after rose d names table s one n taken caused rises = due_ends command after ready left rose d names table s one n caused rises

-- the files are told at the end of a run where they were told before
abbrev pub StaysTold : Option Files → Option Files → Type 0
StaysTold None later = Unit {0}
StaysTold (Some f) None = ⊥
StaysTold (Some f) (Some g) = Unit {0}

stays_same : (old new : Option Files) → SameFiles old new → StaysTold old new
stays_same None new same = tt
stays_same (Some f) None same = absurd same
stays_same (Some f) (Some g) same = tt

stays_others : (old new : Option Files) (name : List ℕ) → SameOthers old new name → StaysTold old new
stays_others None new name same = tt
stays_others (Some f) None name same = absurd same
stays_others (Some f) (Some g) name same = tt

stays_written : (is_image : Files → List ℕ → Type 0) (old new : Option Files) (name : List ℕ) (s : Status) → Written is_image old new name s → StaysTold old new
stays_written is_image old new name status.Ok (others, stands) = stays_others old new name others
stays_written is_image old new name (status.Write p) (others, torn) = stays_others old new name others
stays_written is_image old new name s same = stays_same old new same

pub stays_filed : (command : Option Command) (ready : Files → Content → Type 0) (old new : Option Files) (name : List ℕ) (s : Status) → Filed command ready old new name s → StaysTold old new
stays_filed (Some Build) ready old new name s written = stays_written (IsImageFor ready) old new name s written
stays_filed None ready old new name s same = stays_same old new same
stays_filed (Some c) ready old new name s same = stays_same old new same

-- a run over told files that has no cause comes to its end, or meets want of memory
pub completes : (command : Option Command) (told told_after : Option Files) (rose : List ℕ → Type 0) (d : Devices) (ready : Files → Broken → Result Content Status → Type 0) (names : Names) (s : Status) (table : List ℕ) (left left_after : Option (List ℕ))
    → ((files : Files) (x : Content) (w : Status) → ready files None (Ok x) → ready files None (Err w) → ⊥) → StaysTold told told_after → Taken command left left_after s
    → Ended told told_after rose d ready names s table → Completes command told ready left rose d s
completes command None told_after rose d ready names s table left left_after one stays taken ended = tt
completes command (Some f) None rose d ready names s table left left_after one stays taken ended = absurd stays
completes command (Some f) (Some g) rose d ready names s table left left_after one stays taken ended =
    λ n. ends command g (ready f) left left_after rose d names table s (one f) n taken ended.caused ended.rises
