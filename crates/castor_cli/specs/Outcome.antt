-- What each status says of a run.
use Rattle.std.specs.Prelude.{◌≡◌, ◌⊎◌, ℕ, List, Option, Some, None, IfSome, Result, Ok, Err}
use Rattle.std.specs.Io.KnownBytes.{Appends, IsAtEnd, Keeps}
use Rattle.castor_base.specs.Causes.{Rose}
use Rattle.castor_base.specs.Files.{Files, HasFile, IsTorn, SameFiles, SameOthers}
use Rattle.castor_base.specs.Moves.{AppendsPrefix, TookTooMany}
use Rattle.castor_val.specs.Limits.{most_input_bytes}
use Rattle.castor_image.specs.Images.{Content, IsImageOf, IsNoImage}
use Rattle.castor_cli.specs.declared.command.Command.{Command}
use Rattle.castor_cli.specs.declared.command.Command.TheVariants.{Answer, Build, Ask, Show, Code, Sample}
use Rattle.castor_cli.specs.declared.status.Place.TheVariants as place
use Rattle.castor_cli.specs.declared.status.ReadFault.TheVariants as fault
use Rattle.castor_cli.specs.declared.status.Status.{Status}
use Rattle.castor_cli.specs.declared.status.Status.TheVariants as status
use Rattle.castor_cli.specs.Answers.{answers}
use Rattle.castor_cli.specs.Causes.{IsDue, NamesDeclared, RoseWhere, file_of_status}
use Rattle.castor_cli.specs.Commands.{Names, command_of, word}
use Rattle.castor_cli.specs.Opening.{IsOpened}
use Rattle.castor_cli.specs.Preparation.{Broken, IsBuilt}

-- an image is built or opened, or the status of the first refusal
abbrev pub IsStartedBy : Option Command → (Result Content Status → Type 0) → (Result Content Status → Type 0) → Result Content Status → Type 0
IsStartedBy None builds opens r = r ≡ Err status.Usage
IsStartedBy (Some Answer) builds opens r = builds r
IsStartedBy (Some Build) builds opens r = builds r
IsStartedBy (Some Ask) builds opens r = opens r
IsStartedBy (Some Show) builds opens r = r ≡ Err status.NotYet
IsStartedBy (Some Code) builds opens r = r ≡ Err status.NotYet
IsStartedBy (Some Sample) builds opens r = r ≡ Err status.NotYet

-- The words, and then what they ask for, each checked in its order, where a device fails or none does: what the image
-- holds that is built or opened, or the status of the first refusal.
abbrev pub IsStarted : List (List ℕ) → Files → Broken → Result Content Status → Type 0
IsStarted words files broken = IsStartedBy (command_of words) (IsBuilt broken files (word words 1) (word words 2)) (IsOpened broken files (word words 1))

-- ---- the output

-- where the input is told, this holds of the answers of an image to it
abbrev pub Answers : (Content → Type 0) → Option (List ℕ) → (List ℕ → Type 0) → Type 0
Answers ready input holds = IfSome input (λ (text : List ℕ). (x : Content) × ready x × holds (answers x text))

-- What went out: with Ok the answers of the image, with a failure of the output a prefix of them, with want of memory
-- nothing or a prefix of them, else nothing.
abbrev pub PrintedBy : (Content → Type 0) → Option (List ℕ) → Option (List ℕ) → Option (List ℕ) → Status → Type 0
PrintedBy ready input old new status.Ok = Answers ready input (Appends old new)
PrintedBy ready input old new (status.Write p) = Answers ready input (AppendsPrefix old new)
PrintedBy ready input old new status.Memory = Keeps old new ⊎ Answers ready input (AppendsPrefix old new)
PrintedBy ready input old new s = Keeps old new

-- the same of an image that is known where the files are told
abbrev pub PrintedReplies : (Files → Content → Type 0) → Option Files → Option (List ℕ) → Option (List ℕ) → Option (List ℕ) → Status → Type 0
PrintedReplies ready told input old new status.Ok = IfSome told (λ (files : Files). Answers (ready files) input (Appends old new))
PrintedReplies ready told input old new (status.Write p) = IfSome told (λ (files : Files). Answers (ready files) input (AppendsPrefix old new))
PrintedReplies ready told input old new status.Memory = Keeps old new ⊎ IfSome told (λ (files : Files). Answers (ready files) input (AppendsPrefix old new))
PrintedReplies ready told input old new s = Keeps old new

-- a build gives the output nothing
abbrev pub Printed : Option Command → (Files → Content → Type 0) → Option Files → Option (List ℕ) → Option (List ℕ) → Option (List ℕ) → Status → Type 0
Printed (Some Build) ready told input old new s = Keeps old new
Printed command ready told input old new s = PrintedReplies ready told input old new s

-- ---- the input

-- what was taken of the input: all of it with Ok, and nothing where the status comes before it is read
abbrev pub TakenAll : Option (List ℕ) → Option (List ℕ) → Status → Type 0
TakenAll old new status.Ok = IsAtEnd new
TakenAll old new (status.Write p) = IsAtEnd new
TakenAll old new status.Memory = Unit {0}
TakenAll old new (status.Read place.Input why) = Unit {0}
TakenAll old new status.TooLong = TookTooMany old new most_input_bytes
TakenAll old new s = Keeps old new

-- nothing was taken, and so there was never too much
abbrev pub TakenNone : Option (List ℕ) → Option (List ℕ) → Status → Type 0
TakenNone old new status.TooLong = ⊥
TakenNone old new s = Keeps old new

-- a build takes nothing of the input
abbrev pub Taken : Option Command → Option (List ℕ) → Option (List ℕ) → Status → Type 0
Taken (Some Build) old new s = TakenNone old new s
Taken command old new s = TakenAll old new s

-- ---- the files

-- What became of the files: with Ok the image stands under its name and the others stay; where writing it failed its
-- name is as before, missing, or has a prefix of the image, and the others stay; else they all stay.
abbrev pub Written : (Files → List ℕ → Type 0) → Option Files → Option Files → List ℕ → Status → Type 0
Written is_image old new name status.Ok = SameOthers old new name × IfSome old (λ (files : Files). (bytes : List ℕ) × is_image files bytes × HasFile new name bytes)
Written is_image old new name (status.Write p) = SameOthers old new name × IfSome old (λ (files : Files). (bytes : List ℕ) × is_image files bytes × IsTorn old new name bytes)
Written is_image old new name s = SameFiles old new

-- what writing an image leaves: it stands under its name, or its name is as before, missing, or has a prefix of it
abbrev pub Stores : Option Files → Option Files → List ℕ → List ℕ → Status → Type 0
Stores old new name bytes status.Ok = SameOthers old new name × HasFile new name bytes
Stores old new name bytes s = SameOthers old new name × IsTorn old new name bytes

-- the bytes are the image that the files give
abbrev pub IsImageFor : (Files → Content → Type 0) → Files → List ℕ → Type 0
IsImageFor ready files bytes = (x : Content) × ready files x × IsImageOf x bytes

-- a build alone writes
abbrev pub Filed : Option Command → (Files → Content → Type 0) → Option Files → Option Files → List ℕ → Status → Type 0
Filed (Some Build) ready old new name s = Written (IsImageFor ready) old new name s
Filed command ready old new name s = SameFiles old new

-- ---- the status

-- how a run ends once an image is at hand that is asked, and which count rose with a failure of the input or the output
abbrev pub EndsReady : Type 0 → Type 0 → Status → Type 0
EndsReady input output status.Ok = Unit {0}
EndsReady input output status.Memory = Unit {0}
EndsReady input output status.TooLong = Unit {0}
EndsReady input output (status.Write place.Output) = output
EndsReady input output (status.Read place.Input fault.Failed) = input
EndsReady input output s = ⊥

-- the same where the image is these bytes, if they are one
abbrev pub EndsOpened : List ℕ → Type 0 → Type 0 → Status → Type 0
EndsOpened bytes input output status.Image = IsNoImage bytes
EndsOpened bytes input output status.Memory = Unit {0}
EndsOpened bytes input output s = (x : Content) × IsImageOf x bytes × EndsReady input output s

-- how a run ends once there is an image to be written, and that a count rose with a failure
abbrev pub EndsStored : Type 0 → Status → Type 0
EndsStored stored status.Ok = Unit {0}
EndsStored stored (status.Write place.Image) = stored
EndsStored stored s = ⊥

-- the image is there
abbrev pub IsReady : (Broken → Result Content Status → Type 0) → Type 0
IsReady ready = (x : Content) × ready None (Ok x)

-- Why a run over told files ended so: the first refusal in the order of the checks, or what the input, the output or
-- the file of the image did once there was an image.
abbrev pub Caused : (Broken → Result Content Status → Type 0) → Status → Type 0
Caused ready status.Ok = IsReady ready
Caused ready (status.Write p) = IsReady ready
Caused ready status.TooLong = IsReady ready
Caused ready (status.Read place.Input why) = IsReady ready
Caused ready s = IsDue ready s

-- the file that a status speaks of
abbrev pub file_named : List ℕ → List ℕ → List ℕ → List ℕ → Status → List ℕ
file_named query script image table (status.Read place.Image why) = image
file_named query script image table s = file_of_status query script table s

-- that the counts rose of the input, of the output, and of writes of the image's name
pub record Devices : Type 1 where
  pub input : Type 0
  pub output : Type 0
  pub image : Type 0

-- the counts of faults before and after: of the input, of the output, and of writes of the image's name
abbrev pub devices : ℕ → ℕ → ℕ → ℕ → ℕ → ℕ → Devices
devices input input_now output output_now image image_now = record { input = Rose input input_now; output = Rose output output_now; image = Rose image image_now }

-- what asking an image uses, and what storing one does
abbrev pub asking : Type 0 → Type 0 → Devices
asking input output = record { input = input; output = output; image = ⊥ }

abbrev pub storing : Type 0 → Devices
storing image = record { input = ⊥; output = ⊥; image = image }

-- a build alone writes the image, and uses neither the input nor the output
abbrev pub used_by : Option Command → Devices → Devices
used_by (Some Build) d = storing d.image
used_by command d = asking d.input d.output

-- Which count of faults rose: that of the file, the input or the output that failed. A file that is absent or too
-- long is known by its count where the files aren't told.
abbrev pub Rises : Option Files → Type 0 → Devices → Status → Type 0
Rises told file d (status.Write place.Output) = d.output
Rises told file d (status.Write place.Image) = d.image
Rises told file d (status.Write p) = ⊥
Rises told file d (status.Read place.Input fault.Failed) = d.input
Rises told file d (status.Read place.Input why) = ⊥
Rises told file d s = RoseWhere told file s

-- how a run ended: by its cause, with the name of the table that the status speaks of, and with a count that rose where it must have
pub record Ended (told told_after : Option Files) (rose : List ℕ → Type 0) (d : Devices) (ready : Files → Broken → Result Content Status → Type 0) (names : Names) (s : Status) (table : List ℕ) : Type 0 where
  pub caused : IfSome told (λ (files : Files). Caused (ready files) s)
  pub tables : IfSome told (λ (files : Files). NamesDeclared files names.query s table)
  pub rises : Rises told_after (rose (file_named names.query names.script names.image table s)) d s

-- the words are a form of a command
abbrev pub IsNotUsage : Status → Type 0
IsNotUsage status.Usage = ⊥
IsNotUsage s = Unit {0}

-- no input was too long
abbrev pub IsNotTooLong : Status → Type 0
IsNotTooLong status.TooLong = ⊥
IsNotTooLong s = Unit {0}
