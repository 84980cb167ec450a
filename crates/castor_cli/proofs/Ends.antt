-- How a run ends: at a refusal, or with an image that is asked or stored.
use Rattle.std.proofs.Common.{◌≡◌, ◌∙◌, ◌++◌, ℕ, List, [], Option, Some, None, Result, Ok, Err, IfSome, ◌⊎◌, inr, inl, refl, sym, ap, subst, option_map}
use Rattle.std.proofs.lemmas.List.{append-nil}
use Rattle.std.specs.Io.KnownBytes.{Appends, Consumes, IsAtEnd, Keeps}
use Rattle.castor_base.specs.Moves.{AppendsPrefix}
use Rattle.castor_base.specs.Files.{Files, IsTorn, SameFiles, SameOthers}
use Rattle.castor_image.specs.Images.{Content, IsImageOf, IsNoImage}
use Rattle.castor_image.proofs.ImageLaws.{images_are_told}
use Rattle.castor_cli.specs.declared.status.Place.TheVariants as place
use Rattle.castor_cli.specs.declared.status.ReadFault.TheVariants as fault
use Rattle.castor_cli.specs.declared.status.Status.{Status}
use Rattle.castor_cli.specs.declared.status.Status.TheVariants as status
use Rattle.castor_cli.specs.Causes.{AreBytesBuilt, IsDue, IsRefusal, NamesDeclared, PreparationRefused, RoseWhere, file_of_status}
use Rattle.castor_cli.specs.Commands.{Names}
use Rattle.castor_cli.specs.Outcome.{Answers, Caused, Devices, Ended, EndsOpened, EndsReady, EndsStored, IsImageFor, IsNotTooLong, IsNotUsage, IsReady, PrintedBy, PrintedReplies, Rises, Stores, TakenAll, Written, asking, file_named, storing}
use Rattle.castor_cli.specs.Preparation.{Broken, IsBuilt}
use Rattle.castor_cli.specs.Answers.{answers}
use Rattle.castor_cli.proofs.Tables.{if_told}

-- ---- an image that is asked

caused_ready : (ready : Broken → Result Content Status → Type 0) (input output : Type 0) (s : Status) → EndsReady input output s → IsReady ready → Caused ready s
caused_ready ready input output status.Ok ends is = is
caused_ready ready input output status.Memory ends is = inl refl
caused_ready ready input output status.TooLong ends is = is
caused_ready ready input output (status.Write place.Output) ends is = is
caused_ready ready input output (status.Read place.Input fault.Failed) ends is = is
caused_ready ready input output s ends is = absurd ends

rises_ready : (told : Option Files) (file input output : Type 0) (s : Status) → EndsReady input output s → Rises told file (asking input output) s
rises_ready told file input output status.Ok ends = tt
rises_ready told file input output status.Memory ends = tt
rises_ready told file input output status.TooLong ends = tt
rises_ready told file input output (status.Write place.Output) ends = ends
rises_ready told file input output (status.Read place.Input fault.Failed) ends = ends
rises_ready told file input output s ends = absurd ends

names_ready : (files : Files) (query name : List ℕ) (input output : Type 0) (s : Status) → EndsReady input output s → NamesDeclared files query s name
names_ready files query name input output status.Ok ends = tt
names_ready files query name input output status.Memory ends = tt
names_ready files query name input output status.TooLong ends = tt
names_ready files query name input output (status.Write place.Output) ends = tt
names_ready files query name input output (status.Read place.Input fault.Failed) ends = tt
names_ready files query name input output s ends = absurd ends

-- what holds of one image holds of another
answers_by : (P Q : Content → Type 0) (input : Option (List ℕ)) (holds : List ℕ → Type 0) → ((x : Content) → P x → Q x) → Answers P input holds → Answers Q input holds
answers_by P Q None holds f h = tt
answers_by P Q (Some text) holds f (x, is, h) = (x, f x is, h)

pub printed_by : (P Q : Content → Type 0) (input old new : Option (List ℕ)) (s : Status) → ((x : Content) → P x → Q x) → PrintedBy P input old new s → PrintedBy Q input old new s
printed_by P Q input old new status.Ok f h = answers_by P Q input (Appends old new) f h
printed_by P Q input old new (status.Write p) f h = answers_by P Q input (AppendsPrefix old new) f h
printed_by P Q input old new status.Memory f (inl kept) = inl kept
printed_by P Q input old new status.Memory f (inr h) = inr (answers_by P Q input (AppendsPrefix old new) f h)
printed_by P Q input old new s f h = h

-- the image that was opened is that of the bytes
pub image_ends : (x : Content) (bytes : List ℕ) (input output : Type 0) (s : Status) → IsImageOf x bytes → EndsReady input output s → EndsOpened bytes input output s
image_ends x bytes input output status.Image is ends = absurd ends
image_ends x bytes input output status.Memory is ends = tt
image_ends x bytes input output s is ends = (x, is, ends)

-- bytes are the image of one content
pub one_content : (x y : Content) (bytes : List ℕ) → IsImageOf x bytes → IsImageOf y bytes → x ≡ y
one_content x y bytes a b = (images_are_told x y bytes [] bytes a b (sym (append-nil bytes))).0

-- the bytes are the image that was made ready, and so they end as it does
ready_ends : (input output : Type 0) (bytes : List ℕ) (s : Status) → EndsOpened bytes input output s → (s ≡ status.Image) ⊎ EndsReady input output s
ready_ends input output bytes status.Image ends = inl refl
ready_ends input output bytes status.Memory ends = inr tt
ready_ends input output bytes s (x, is, ends) = inr ends

is_no_image : (input output : Type 0) (bytes : List ℕ) (s : Status) → EndsOpened bytes input output s → s ≡ status.Image → IsNoImage bytes
is_no_image input output bytes s ends is = subst (λ (r : Status). EndsOpened bytes input output r) is ends

built_ends : (x : Content) (input output : Type 0) (bytes : List ℕ) (s : Status) → IsImageOf x bytes → EndsOpened bytes input output s → EndsReady input output s
built_ends x input output bytes s is ends =
    elim (ready_ends input output bytes s ends) [
      | inl image ↦ absurd (is_no_image input output bytes s ends image x is)
      | inr ready ↦ ready
    ]

answers_of : (bytes : List ℕ) (input : Option (List ℕ)) (x : Content) (ready : Content → Type 0) (holds : List ℕ → Type 0) → IsImageOf x bytes → ready x
    → Answers (λ y. IsImageOf y bytes) input holds → Answers ready input holds
answers_of bytes None x ready holds is known h = tt
answers_of bytes (Some text) x ready holds is known (y, it, h) = (x, known, subst (λ (z : Content). holds (answers z text)) (one_content y x bytes it is) h)

answers_told : (told : Option Files) (bytes : List ℕ) (input : Option (List ℕ)) (x : Content) (ready : Files → Content → Type 0) (holds : List ℕ → Type 0) → IsImageOf x bytes
    → IfSome told (λ (files : Files). ready files x) → Answers (λ y. IsImageOf y bytes) input holds → IfSome told (λ (files : Files). Answers (ready files) input holds)
answers_told told bytes input x ready holds is known h = if_told told _ _ (λ files k. answers_of bytes input x (ready files) holds is k h) known

-- what went out of an image that is known where the files are told
pub printed_known : (told : Option Files) (bytes : List ℕ) (input old new : Option (List ℕ)) (x : Content) (ready : Files → Content → Type 0) (s : Status) → IsImageOf x bytes
    → IfSome told (λ (files : Files). ready files x) → PrintedBy (λ y. IsImageOf y bytes) input old new s → PrintedReplies ready told input old new s
printed_known told bytes input old new x ready status.Ok is known h = answers_told told bytes input x ready (Appends old new) is known h
printed_known told bytes input old new x ready (status.Write p) is known h = answers_told told bytes input x ready (AppendsPrefix old new) is known h
printed_known told bytes input old new x ready status.Memory is known (inl kept) = inl kept
printed_known told bytes input old new x ready status.Memory is known (inr h) = inr (answers_told told bytes input x ready (AppendsPrefix old new) is known h)
printed_known told bytes input old new x ready s is known h = h

-- the same where each content of the bytes is ready
opened_answers : (bytes : List ℕ) (input : Option (List ℕ)) (ready : Content → Type 0) (holds : List ℕ → Type 0) → ((x : Content) → IsImageOf x bytes → ready x)
    → Answers (λ y. IsImageOf y bytes) input holds → Answers ready input holds
opened_answers bytes None ready holds known h = tt
opened_answers bytes (Some text) ready holds known (y, it, h) = (y, known y it, h)

opened_told : (told : Option Files) (bytes : List ℕ) (input : Option (List ℕ)) (ready : Files → Content → Type 0) (holds : List ℕ → Type 0)
    → IfSome told (λ (files : Files). (x : Content) → IsImageOf x bytes → ready files x) → Answers (λ y. IsImageOf y bytes) input holds → IfSome told (λ (files : Files). Answers (ready files) input holds)
opened_told told bytes input ready holds known h = if_told told _ _ (λ files k. opened_answers bytes input (ready files) holds k h) known

pub printed_opened : (told : Option Files) (bytes : List ℕ) (input old new : Option (List ℕ)) (ready : Files → Content → Type 0) (s : Status)
    → IfSome told (λ (files : Files). (x : Content) → IsImageOf x bytes → ready files x) → PrintedBy (λ y. IsImageOf y bytes) input old new s → PrintedReplies ready told input old new s
printed_opened told bytes input old new ready status.Ok known h = opened_told told bytes input ready (Appends old new) known h
printed_opened told bytes input old new ready (status.Write p) known h = opened_told told bytes input ready (AppendsPrefix old new) known h
printed_opened told bytes input old new ready status.Memory known (inl kept) = inl kept
printed_opened told bytes input old new ready status.Memory known (inr h) = inr (opened_told told bytes input ready (AppendsPrefix old new) known h)
printed_opened told bytes input old new ready s known h = h

-- a command that asks an image that was built
pub ended_built : (told told_after : Option Files) (rose : List ℕ → Type 0) (input output : Type 0) (ready : Files → Broken → Result Content Status → Type 0) (names : Names) (bytes : List ℕ) (s : Status) (table : List ℕ)
    → AreBytesBuilt told (λ files r. ready files None r) bytes → EndsOpened bytes input output s → Ended told told_after rose (asking input output) ready names s table
ended_built told told_after rose input output ready names bytes s table (x, image, is) ends =
    let fine = built_ends x input output bytes s image ends in
    record {
      caused = if_told told _ _ (λ files r. caused_ready (ready files) input output s fine (x, r)) is;
      tables = if_told told _ _ (λ files r. names_ready files names.query table input output s fine) is;
      rises = rises_ready told_after (rose (file_named names.query names.script names.image table s)) input output s fine;
    }

-- what bytes are, as an outcome of opening them
abbrev pub OpensTo : (Result Content Status → Type 0) → List ℕ → Type 0
OpensTo opened bytes = ((x : Content) → IsImageOf x bytes → opened (Ok x)) × (IsNoImage bytes → opened (Err status.Image))

caused_opened : (ready : Broken → Result Content Status → Type 0) (input output : Type 0) (bytes : List ℕ) (s : Status) → OpensTo (ready None) bytes → EndsOpened bytes input output s → Caused ready s
caused_opened ready input output bytes status.Image (good, bad) ends = inr (None, tt, bad ends)
caused_opened ready input output bytes status.Memory (good, bad) ends = inl refl
caused_opened ready input output bytes s (good, bad) (x, is, ends) = caused_ready ready input output s ends (x, good x is)

rises_opened : (told : Option Files) (file input output : Type 0) (bytes : List ℕ) (s : Status) → EndsOpened bytes input output s → Rises told file (asking input output) s
rises_opened told file input output bytes status.Image ends = tt
rises_opened told file input output bytes status.Memory ends = tt
rises_opened told file input output bytes s (x, is, ends) = rises_ready told file input output s ends

names_opened : (files : Files) (query name : List ℕ) (input output : Type 0) (bytes : List ℕ) (s : Status) → EndsOpened bytes input output s → NamesDeclared files query s name
names_opened files query name input output bytes status.Image ends = tt
names_opened files query name input output bytes status.Memory ends = tt
names_opened files query name input output bytes s (x, is, ends) = names_ready files query name input output s ends

-- a command that asks the image that a file is, if it is one
pub ended_opened : (told told_after : Option Files) (rose : List ℕ → Type 0) (input output : Type 0) (ready : Files → Broken → Result Content Status → Type 0) (names : Names) (bytes : List ℕ) (s : Status) (table : List ℕ)
    → IfSome told (λ (files : Files). OpensTo (ready files None) bytes) → EndsOpened bytes input output s → Ended told told_after rose (asking input output) ready names s table
ended_opened told told_after rose input output ready names bytes s table is ends = record {
  caused = if_told told _ _ (λ files r. caused_opened (ready files) input output bytes s r ends) is;
  tables = if_told told _ _ (λ files r. names_opened files names.query table input output bytes s ends) is;
  rises = rises_opened told_after (rose (file_named names.query names.script names.image table s)) input output bytes s ends;
}

-- ---- an image that is stored

caused_stored : (ready : Broken → Result Content Status → Type 0) (stored : Type 0) (s : Status) → EndsStored stored s → IsReady ready → Caused ready s
caused_stored ready stored status.Ok ends is = is
caused_stored ready stored (status.Write place.Image) ends is = is
caused_stored ready stored s ends is = absurd ends

rises_stored : (told : Option Files) (file stored : Type 0) (s : Status) → EndsStored stored s → Rises told file (storing stored) s
rises_stored told file stored status.Ok ends = tt
rises_stored told file stored (status.Write place.Image) ends = ends
rises_stored told file stored s ends = absurd ends

names_stored : (files : Files) (query name : List ℕ) (stored : Type 0) (s : Status) → EndsStored stored s → NamesDeclared files query s name
names_stored files query name stored status.Ok ends = tt
names_stored files query name stored (status.Write place.Image) ends = tt
names_stored files query name stored s ends = absurd ends

-- a count that rose later rose since before
pub stored_since : (earlier later : Type 0) (s : Status) → (later → earlier) → EndsStored later s → EndsStored earlier s
stored_since earlier later status.Ok up ends = tt
stored_since earlier later (status.Write place.Image) up ends = up ends
stored_since earlier later s up ends = absurd ends

pub ended_stored : (told told_after : Option Files) (rose : List ℕ → Type 0) (stored : Type 0) (ready : Files → Broken → Result Content Status → Type 0) (names : Names) (bytes : List ℕ) (s : Status) (table : List ℕ)
    → AreBytesBuilt told (λ files r. ready files None r) bytes → EndsStored stored s → Ended told told_after rose (storing stored) ready names s table
ended_stored told told_after rose stored ready names bytes s table (x, image, is) ends = record {
  caused = if_told told _ _ (λ files r. caused_stored (ready files) stored s ends (x, r)) is;
  tables = if_told told _ _ (λ files r. names_stored files names.query table stored s ends) is;
  rises = rises_stored told_after (rose (file_named names.query names.script names.image table s)) stored s ends;
}

same_others : (old mid new : Option Files) (name : List ℕ) → SameFiles old mid → SameOthers mid new name → SameOthers old new name
same_others None mid new name same others = tt
same_others (Some f) None new name same others = absurd same
same_others (Some f) (Some g) None name same others = absurd others
same_others (Some f) (Some g) (Some h) name same others = λ other differs. others other differs ∙ same other

torn_since : (old mid new : Option Files) (name bytes : List ℕ) → SameFiles old mid → IsTorn mid new name bytes → IsTorn old new name bytes
torn_since None mid new name bytes same torn = tt
torn_since (Some f) None new name bytes same torn = absurd same
torn_since (Some f) (Some g) None name bytes same torn = absurd torn
torn_since (Some f) (Some g) (Some h) name bytes same (inl before) = inl (before ∙ same name)
torn_since (Some f) (Some g) (Some h) name bytes same (inr later) = inr later

-- what became of the files where an image was stored
pub written_stored : (old mid new : Option Files) (name bytes : List ℕ) (ready : Files → Content → Type 0) (stored : Type 0) (s : Status) → SameFiles old mid
    → (x : Content) × IsImageOf x bytes × IfSome old (λ (files : Files). ready files x) → EndsStored stored s → Stores mid new name bytes s → Written (IsImageFor ready) old new name s
written_stored old mid new name bytes ready stored status.Ok same (x, image, is) ends (others, has) = (
  same_others old mid new name same others,
  if_told old _ _ (λ files known. (bytes, (x, known, image), has)) is,
)
written_stored old mid new name bytes ready stored (status.Write place.Image) same (x, image, is) ends (others, torn) = (
  same_others old mid new name same others,
  if_told old _ _ (λ files known. (bytes, (x, known, image), torn_since old mid new name bytes same torn)) is,
)
written_stored old mid new name bytes ready stored s same built ends stores = absurd ends

-- ---- a refusal before there is an image

caused_refusal : (ready : Broken → Result Content Status → Type 0) (s : Status) → IsRefusal s → IsDue ready s → Caused ready s
caused_refusal ready (status.Read place.Query why) refusal due = due
caused_refusal ready (status.Read place.Script why) refusal due = due
caused_refusal ready (status.Read (place.Table i) why) refusal due = due
caused_refusal ready (status.Query why) refusal due = due
caused_refusal ready (status.Table i why) refusal due = due
caused_refusal ready (status.Script why) refusal due = due
caused_refusal ready (status.Build why) refusal due = due
caused_refusal ready status.NotYet refusal due = due
caused_refusal ready status.Memory refusal due = due
caused_refusal ready s refusal due = absurd refusal

rises_refusal : (told : Option Files) (rose : List ℕ → Type 0) (query script image table : List ℕ) (d : Devices) (s : Status) → IsRefusal s → RoseWhere told (rose (file_of_status query script table s)) s
    → Rises told (rose (file_named query script image table s)) d s
rises_refusal told rose query script image table d (status.Read place.Query why) refusal count = count
rises_refusal told rose query script image table d (status.Read place.Script why) refusal count = count
rises_refusal told rose query script image table d (status.Read (place.Table i) why) refusal count = count
rises_refusal told rose query script image table d (status.Query why) refusal count = count
rises_refusal told rose query script image table d (status.Table i why) refusal count = count
rises_refusal told rose query script image table d (status.Script why) refusal count = count
rises_refusal told rose query script image table d (status.Build why) refusal count = count
rises_refusal told rose query script image table d status.NotYet refusal count = count
rises_refusal told rose query script image table d status.Memory refusal count = count
rises_refusal told rose query script image table d s refusal count = absurd refusal

pub keeps_itself : (a : Option (List ℕ)) → Keeps a a
keeps_itself None = tt
keeps_itself (Some xs) = refl

pub printed_refusal : (ready : Files → Content → Type 0) (told : Option Files) (input a : Option (List ℕ)) (s : Status) → IsRefusal s → PrintedReplies ready told input a a s
printed_refusal ready told input a (status.Read place.Query why) refusal = keeps_itself a
printed_refusal ready told input a (status.Read place.Script why) refusal = keeps_itself a
printed_refusal ready told input a (status.Read (place.Table i) why) refusal = keeps_itself a
printed_refusal ready told input a (status.Query why) refusal = keeps_itself a
printed_refusal ready told input a (status.Table i why) refusal = keeps_itself a
printed_refusal ready told input a (status.Script why) refusal = keeps_itself a
printed_refusal ready told input a (status.Build why) refusal = keeps_itself a
printed_refusal ready told input a status.NotYet refusal = keeps_itself a
printed_refusal ready told input a status.Memory refusal = inl (keeps_itself a)
printed_refusal ready told input a s refusal = absurd refusal

pub taken_refusal : (a : Option (List ℕ)) (s : Status) → IsRefusal s → TakenAll a a s
taken_refusal a (status.Read place.Query why) refusal = keeps_itself a
taken_refusal a (status.Read place.Script why) refusal = keeps_itself a
taken_refusal a (status.Read (place.Table i) why) refusal = keeps_itself a
taken_refusal a (status.Query why) refusal = keeps_itself a
taken_refusal a (status.Table i why) refusal = keeps_itself a
taken_refusal a (status.Script why) refusal = keeps_itself a
taken_refusal a (status.Build why) refusal = keeps_itself a
taken_refusal a status.NotYet refusal = keeps_itself a
taken_refusal a status.Memory refusal = tt
taken_refusal a s refusal = absurd refusal

pub written_refusal : (is_image : Files → List ℕ → Type 0) (old new : Option Files) (name : List ℕ) (s : Status) → IsRefusal s → SameFiles old new → Written is_image old new name s
written_refusal is_image old new name (status.Read place.Query why) refusal same = same
written_refusal is_image old new name (status.Read place.Script why) refusal same = same
written_refusal is_image old new name (status.Read (place.Table i) why) refusal same = same
written_refusal is_image old new name (status.Query why) refusal same = same
written_refusal is_image old new name (status.Table i why) refusal same = same
written_refusal is_image old new name (status.Script why) refusal same = same
written_refusal is_image old new name (status.Build why) refusal same = same
written_refusal is_image old new name status.NotYet refusal same = same
written_refusal is_image old new name status.Memory refusal same = same
written_refusal is_image old new name s refusal same = absurd refusal

-- a command of which no image was built
pub ended_refused : (told told_after : Option Files) (rose : List ℕ → Type 0) (d : Devices) (names : Names) (s : Status) (table : List ℕ)
    → PreparationRefused told told_after rose names.query names.script s table → Ended told told_after rose d (λ files broken. IsBuilt broken files names.query names.script) names s table
ended_refused told told_after rose d names s table r = record {
  caused = if_told told _ _ (λ files due. caused_refusal (λ broken. IsBuilt broken files names.query names.script) s r.refusal due) r.due;
  tables = r.names;
  rises = rises_refusal told_after rose names.query names.script names.image table d s r.refusal r.count;
}

pub not_usage_refusal : (s : Status) → IsRefusal s → IsNotUsage s
not_usage_refusal status.Usage refusal = absurd refusal
not_usage_refusal s refusal = tt

pub not_usage_opened : (bytes : List ℕ) (input output : Type 0) (s : Status) → EndsOpened bytes input output s → IsNotUsage s
not_usage_opened bytes input output status.Usage (x, is, ends) = absurd ends
not_usage_opened bytes input output s ends = tt

pub not_usage_stored : (stored : Type 0) (s : Status) → EndsStored stored s → IsNotUsage s
not_usage_stored stored status.Usage ends = absurd ends
not_usage_stored stored s ends = tt

pub not_too_long_refusal : (s : Status) → IsRefusal s → IsNotTooLong s
not_too_long_refusal status.TooLong refusal = absurd refusal
not_too_long_refusal s refusal = tt

pub not_too_long_stored : (stored : Type 0) (s : Status) → EndsStored stored s → IsNotTooLong s
not_too_long_stored stored status.TooLong ends = absurd ends
not_too_long_stored stored s ends = tt

-- ---- the input

-- a told input that was read to its end is what was taken
pub whole_input : (f : List ℕ → List ℕ) (old new : Option (List ℕ)) (text : List ℕ) (P : List ℕ → Type 0) → Consumes old new text → IsAtEnd new → P (f text) → IfSome (option_map f old) P
whole_input f None new text P took ended p = tt
whole_input f (Some xs) None text P took ended p = absurd took
whole_input f (Some xs) (Some ys) text P took ended p = subst (λ (t : List ℕ). P (f t)) (sym (append-nil text) ∙ ap (λ e. text ++ e) (sym ended) ∙ sym took) p

-- the replies of an image to an input that was read to its end
pub answers_taken : (x : Content) (old new : Option (List ℕ)) (text : List ℕ) (holds : List ℕ → Type 0) → Consumes old new text → IsAtEnd new → holds (answers x text) → Answers (λ y. y ≡ x) old holds
answers_taken x None new text holds took ended h = tt
answers_taken x (Some xs) None text holds took ended h = absurd took
answers_taken x (Some xs) (Some ys) text holds took ended h = (x, refl, subst (λ (t : List ℕ). holds (answers x t)) (sym (append-nil text) ∙ ap (λ e. text ++ e) (sym ended) ∙ sym took) h)
