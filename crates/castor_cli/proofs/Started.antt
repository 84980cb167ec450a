-- What the words ask for is the command that ran.
use Rattle.std.proofs.Common.{◌≡◌, ◌∙◌, ℕ, List, Option, Some, None, Result, Ok, Err, IfSome, ◌⊎◌, ◌↔◌, ap, inl, inr, refl, sym, subst}
use Rattle.castor_base.specs.Causes.{Rose}
use Rattle.castor_base.specs.Files.{Files, SameFiles}
use Rattle.castor_image.specs.Images.{Content}
use Rattle.castor_cli.specs.declared.command.Command.{Command}
use Rattle.castor_cli.specs.declared.command.Command.TheVariants.{Answer, Build, Ask}
use Rattle.castor_cli.specs.declared.status.Status.{Status}
use Rattle.castor_cli.specs.declared.status.Status.TheVariants as status
use Rattle.castor_cli.specs.Commands.{Names, command_of, image_name, names_in, word}
use Rattle.castor_cli.specs.Outcome.{Devices, Ended, Filed, IsImageFor, IsNotUsage, IsStartedBy, Printed, PrintedReplies, Taken, TakenAll, TakenNone, Written, asking, devices, storing, used_by}
use Rattle.castor_cli.specs.Preparation.{Broken}
use Rattle.castor_cli.proofs.Ends.{keeps_itself}

kept_none : (a : Option (List ℕ)) (s : Status) → (s ≡ status.TooLong → ⊥) → TakenNone a a s
kept_none a status.TooLong short = short refl
kept_none a s short = keeps_itself a

module _ (command : Option Command) where
  -- ---- a command that asks what is built

  pub printed_answer : (told : Option Files) (input old new : Option (List ℕ)) (s : Status) (builds opens : Files → Result Content Status → Type 0) → command ≡ Some Answer
      → PrintedReplies (λ files x. builds files (Ok x)) told input old new s → Printed command (λ files x. IsStartedBy command (builds files) (opens files) (Ok x)) told input old new s
  printed_answer told input old new s builds opens e h =
      subst (λ (c : Option Command). Printed c (λ files x. IsStartedBy c (builds files) (opens files) (Ok x)) told input old new s) (sym e) h

  pub ended_answer : (told told_after : Option Files) (rose : List ℕ → Type 0) (d : Devices) (names : Names) (s : Status) (table : List ℕ) (builds opens : Files → Broken → Result Content Status → Type 0) → command ≡ Some Answer
      → Ended told told_after rose (asking d.input d.output) builds names s table
      → Ended told told_after rose (used_by command d) (λ files broken. IsStartedBy command (builds files broken) (opens files broken)) names s table
  ended_answer told told_after rose d names s table builds opens e h =
      subst (λ (c : Option Command). Ended told told_after rose (used_by c d) (λ files broken. IsStartedBy c (builds files broken) (opens files broken)) names s table) (sym e) h

  pub taken_answer : (old new : Option (List ℕ)) (s : Status) → command ≡ Some Answer → TakenAll old new s → Taken command old new s
  taken_answer old new s e h = subst (λ (c : Option Command). Taken c old new s) (sym e) h

  pub filed_answer : (ready : Files → Content → Type 0) (old new : Option Files) (name : List ℕ) (s : Status) → command ≡ Some Answer → SameFiles old new → Filed command ready old new name s
  filed_answer ready old new name s e h = subst (λ (c : Option Command). Filed c ready old new name s) (sym e) h

  -- ---- a command that asks what is opened

  pub printed_ask : (told : Option Files) (input old new : Option (List ℕ)) (s : Status) (builds opens : Files → Result Content Status → Type 0) → command ≡ Some Ask
      → PrintedReplies (λ files x. opens files (Ok x)) told input old new s → Printed command (λ files x. IsStartedBy command (builds files) (opens files) (Ok x)) told input old new s
  printed_ask told input old new s builds opens e h =
      subst (λ (c : Option Command). Printed c (λ files x. IsStartedBy c (builds files) (opens files) (Ok x)) told input old new s) (sym e) h

  pub ended_ask : (told told_after : Option Files) (rose : List ℕ → Type 0) (d : Devices) (names : Names) (s : Status) (table : List ℕ) (builds opens : Files → Broken → Result Content Status → Type 0) → command ≡ Some Ask
      → Ended told told_after rose (asking d.input d.output) opens names s table
      → Ended told told_after rose (used_by command d) (λ files broken. IsStartedBy command (builds files broken) (opens files broken)) names s table
  ended_ask told told_after rose d names s table builds opens e h =
      subst (λ (c : Option Command). Ended told told_after rose (used_by c d) (λ files broken. IsStartedBy c (builds files broken) (opens files broken)) names s table) (sym e) h

  pub taken_ask : (old new : Option (List ℕ)) (s : Status) → command ≡ Some Ask → TakenAll old new s → Taken command old new s
  taken_ask old new s e h = subst (λ (c : Option Command). Taken c old new s) (sym e) h

  pub filed_ask : (ready : Files → Content → Type 0) (old new : Option Files) (name : List ℕ) (s : Status) → command ≡ Some Ask → SameFiles old new → Filed command ready old new name s
  filed_ask ready old new name s e h = subst (λ (c : Option Command). Filed c ready old new name s) (sym e) h

  -- ---- a command that stores what is built

  pub printed_build : (ready : Files → Content → Type 0) (told : Option Files) (input a : Option (List ℕ)) (s : Status) → command ≡ Some Build → Printed command ready told input a a s
  printed_build ready told input a s e = subst (λ (c : Option Command). Printed c ready told input a a s) (sym e) (keeps_itself a)

  pub ended_build : (told told_after : Option Files) (rose : List ℕ → Type 0) (d : Devices) (names : Names) (s : Status) (table : List ℕ) (builds opens : Files → Broken → Result Content Status → Type 0) → command ≡ Some Build
      → Ended told told_after rose (storing d.image) builds names s table
      → Ended told told_after rose (used_by command d) (λ files broken. IsStartedBy command (builds files broken) (opens files broken)) names s table
  ended_build told told_after rose d names s table builds opens e h =
      subst (λ (c : Option Command). Ended told told_after rose (used_by c d) (λ files broken. IsStartedBy c (builds files broken) (opens files broken)) names s table) (sym e) h

  -- the same where the name of the image is known by another term
  pub ended_build_named : (told told_after : Option Files) (rose : List ℕ → Type 0) (input input_now output output_now : ℕ) (before now : List ℕ → ℕ) (query script image name : List ℕ) (s : Status) (table : List ℕ)
      (builds opens : Files → Broken → Result Content Status → Type 0) → command ≡ Some Build → image ≡ name
      → Ended told told_after rose (storing (Rose (before name) (now name))) builds (record { query = query; script = script; image = name }) s table
      → Ended told told_after rose (used_by command (devices input input_now output output_now (before image) (now image))) (λ files broken. IsStartedBy command (builds files broken) (opens files broken))
      (record { query = query; script = script; image = image }) s table
  ended_build_named told told_after rose input input_now output output_now before now query script image name s table builds opens e same h =
      subst (λ (n : List ℕ). Ended told told_after rose (used_by command (devices input input_now output output_now (before n) (now n))) (λ files broken. IsStartedBy command (builds files broken) (opens files broken))
      (record { query = query; script = script; image = n }) s table) (sym same)
      (ended_build told told_after rose (devices input input_now output output_now (before name) (now name)) (record { query = query; script = script; image = name }) s table builds opens e h)

  pub taken_build : (a : Option (List ℕ)) (s : Status) → command ≡ Some Build → (s ≡ status.TooLong → ⊥) → Taken command a a s
  taken_build a s e short = subst (λ (c : Option Command). Taken c a a s) (sym e) (kept_none a s short)

  pub filed_build : (old new : Option Files) (name : List ℕ) (s : Status) (builds opens : Files → Result Content Status → Type 0) → command ≡ Some Build
      → Written (IsImageFor (λ files x. builds files (Ok x))) old new name s → Filed command (λ files x. IsStartedBy command (builds files) (opens files) (Ok x)) old new name s
  filed_build old new name s builds opens e h =
      subst (λ (c : Option Command). Filed c (λ files x. IsStartedBy c (builds files) (opens files) (Ok x)) old new name s) (sym e) h

  -- ---- any of them

  pub is_no_usage : (known : Command) (s : Status) → command ≡ Some known → IsNotUsage s → (s ≡ status.Usage) ↔ (command ≡ None)
  is_no_usage known s e h = (λ is. absurd (subst IsNotUsage is h), λ none. absurd (let f : Some known ≡ None = sym e ∙ none in cc f))

-- ---- words that are no form of a command, or of one that isn't there yet

abbrev IsAtWords : Status → Type 0
IsAtWords s = (s ≡ status.Usage) ⊎ (s ≡ status.NotYet)

pub printed_at_words : (command : Option Command) (ready : Files → Content → Type 0) (told : Option Files) (input a : Option (List ℕ)) (s : Status) → IsAtWords s → Printed command ready told input a a s
printed_at_words None ready told input a s (inl is) = subst (λ (t : Status). PrintedReplies ready told input a a t) (sym is) (keeps_itself a)
printed_at_words None ready told input a s (inr is) = subst (λ (t : Status). PrintedReplies ready told input a a t) (sym is) (keeps_itself a)
printed_at_words (Some Build) ready told input a s is = keeps_itself a
printed_at_words (Some c) ready told input a s (inl is) = subst (λ (t : Status). PrintedReplies ready told input a a t) (sym is) (keeps_itself a)
printed_at_words (Some c) ready told input a s (inr is) = subst (λ (t : Status). PrintedReplies ready told input a a t) (sym is) (keeps_itself a)

pub taken_at_words : (command : Option Command) (a : Option (List ℕ)) (s : Status) → IsAtWords s → Taken command a a s
taken_at_words None a s (inl is) = subst (λ (t : Status). TakenAll a a t) (sym is) (keeps_itself a)
taken_at_words None a s (inr is) = subst (λ (t : Status). TakenAll a a t) (sym is) (keeps_itself a)
taken_at_words (Some Build) a s (inl is) = subst (λ (t : Status). TakenNone a a t) (sym is) (keeps_itself a)
taken_at_words (Some Build) a s (inr is) = subst (λ (t : Status). TakenNone a a t) (sym is) (keeps_itself a)
taken_at_words (Some c) a s (inl is) = subst (λ (t : Status). TakenAll a a t) (sym is) (keeps_itself a)
taken_at_words (Some c) a s (inr is) = subst (λ (t : Status). TakenAll a a t) (sym is) (keeps_itself a)

same_files : (files : Option Files) → SameFiles files files
same_files None = tt
same_files (Some f) = λ name. refl

pub filed_at_words : (command : Option Command) (ready : Files → Content → Type 0) (files : Option Files) (name : List ℕ) (s : Status) → IsAtWords s → Filed command ready files files name s
filed_at_words None ready files name s is = same_files files
filed_at_words (Some Build) ready files name s (inl is) = subst (λ (t : Status). Written (IsImageFor ready) files files name t) (sym is) (same_files files)
filed_at_words (Some Build) ready files name s (inr is) = subst (λ (t : Status). Written (IsImageFor ready) files files name t) (sym is) (same_files files)
filed_at_words (Some c) ready files name s is = same_files files

some_told : (told : Option Files) (P : Files → Type 0) → ((files : Files) → P files) → IfSome told P
some_told None P f = tt
some_told (Some files) P f = f files

pub ended_at_words : (told told_after : Option Files) (rose : List ℕ → Type 0) (d : Devices) (ready : Files → Broken → Result Content Status → Type 0) (names : Names) (s : Status) (table : List ℕ)
    → IsAtWords s → ((files : Files) → ready files None (Err s)) → Ended told told_after rose d ready names s table
ended_at_words told told_after rose d ready names s table (inl is) due = rw is (record {
  caused = some_told told _ (λ files. inr (None, tt, rw (sym is) (due files)));
  tables = some_told told _ (λ files. tt);
  rises = tt;
})
ended_at_words told told_after rose d ready names s table (inr is) due = rw is (record {
  caused = some_told told _ (λ files. inr (None, tt, rw (sym is) (due files)));
  tables = some_told told _ (λ files. tt);
  rises = tt;
})

-- ---- the name of the image

pub names_ask : (words : List (List ℕ)) → command_of words ≡ Some Ask → names_in words ≡ record { query = word words 1; script = word words 2; image = word words 1 }
names_ask words e = λ i. record { query = word words 1; script = word words 2; image = image_name (e i) words }

pub image_of_build : (words : List (List ℕ)) → command_of words ≡ Some Build → (names_in words).image ≡ word words 3
image_of_build words e = ap (λ (c : Option Command). image_name c words) e
