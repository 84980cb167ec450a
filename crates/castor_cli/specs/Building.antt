-- The image of a checked query over its tables, or why none is built.
use Rattle.std.specs.Prelude.{◌≡◌, ◌⊎◌, ℕ, ◌==◌, ◌&&◌, List, [], length, nat_lt, Bool, Result, Ok, Err, if◌then◌else◌, not}
use Rattle.std.specs.List.{starts_with}
use Rattle.castor_val.specs.Limits.{most_file_bytes}
use Rattle.castor_val.specs.declared.fault.Faults.{Faults}
use Rattle.castor_val.specs.declared.table.Table.{Table}
use Rattle.castor_alg.specs.declared.held.Held.{Held}
use Rattle.castor_alg.specs.declared.rel.Key.{Key}
use Rattle.castor_alg.specs.declared.rel.Rel.{Rel, fold-Rel}
use Rattle.castor_alg.specs.declared.rel.Rel.TheOpen.{Rel-F}
use Rattle.castor_alg.specs.declared.rel.Rel.TheOpen as rel
use Rattle.castor_image.specs.declared.head.Head.{Head}
use Rattle.castor_image.specs.Images.{Content, IsImageOf, image_of}
use Rattle.castor_ltype.specs.Generation.{code_for}
use Rattle.castor_schema.specs.declared.checked.Checked.{Checked}
use Rattle.castor_schema.specs.WellTyped.{query_context}
use Rattle.castor_script.specs.declared.step_error.StepError.{StepError}
use Rattle.castor_script.specs.declared.step_error.StepError.TheVariants as step
use Rattle.castor_script.specs.Finish.{finish_of}
use Rattle.castor_script.specs.KnownKeys.{known_keys}
use Rattle.castor_alg.specs.HeldData.{held_data}
use Rattle.castor_alg.specs.Stages.{Staged, stage}
use Rattle.castor_cli.specs.declared.status.BuildFault.TheVariants as build
use Rattle.castor_cli.specs.declared.status.ScriptFault.TheVariants as script
use Rattle.castor_cli.specs.declared.status.Status.{Status}
use Rattle.castor_cli.specs.declared.status.Status.TheVariants as status
use Rattle.castor_cli.specs.After.{after}

-- the query that the script `finish;` makes of a checked one: its only step may be refused
abbrev pub if_finished : Result Rel StepError → Result Rel Status
if_finished (Ok q) = Ok q
if_finished (Err why) = Err (status.Script (script.Refused 0 why))

-- the status of a step that is refused
abbrev pub is_unfinished : StepError → Status
is_unfinished step.TooLarge = status.Script (script.Refused 0 step.TooLarge)
is_unfinished step.Memory = status.Memory

abbrev pub root_step : Rel-F (List Key) → List Key
root_step (rel.Table n) = []
root_step (rel.Scalar e) = []
root_step (rel.Cross rs) = []
root_step (rel.Concat rs) = []
root_step (rel.Select es r) = []
root_step (rel.Filter e r) = []
root_step (rel.Join e r s) = []
root_step (rel.DepJoin k r s) = []
root_step (rel.Group ks aggs r) = []
root_step (rel.Order ks r) = ks
root_step (rel.Dedup r) = []
root_step (rel.List k r s) = []
root_step (rel.Hash k r s es) = []
root_step (rel.Ord k r s lo hi) = []

-- the keys of an `orderby` at the root of a query
abbrev pub root_keys : Rel → List Key
root_keys q = fold-Rel (List Key) root_step q

abbrev pub same_key : Key → Key → Bool
same_key j k = (j.col == k.col) && (if j.desc then k.desc else not k.desc)

-- the order of a query is known to be that of its final query
abbrev pub keeps_order : Rel → Rel → Bool
keeps_order q final = starts_with same_key (known_keys final) (root_keys q)

abbrev pub if_ordered : Bool → Rel → Result Rel Status
if_ordered kept final = if kept then Ok final else Err (status.Build build.OrderLost)

abbrev pub if_staged : Staged → Rel → Result Rel Status
if_staged (Ok fine) final = Ok final
if_staged (Err why) final = Err (status.Build (build.Stage why))

abbrev pub if_held : Result Held Faults → Result Held Status
if_held (Ok held) = Ok held
if_held (Err f) = Err (status.Build (build.Faults f))

-- the order of the rows, then what is computed when, and then the stored values of a final query, each checked in this
-- order: what is held for it
abbrev pub held_last : Rel → List Table → Rel → Result Held Status
held_last q tables final =
    after (if_ordered (keeps_order q final) final) (λ ordered.
    after (if_staged (stage final) final) (λ staged.
    if_held (held_data final tables)))

-- the parameters and columns of a checked query
abbrev pub head_of : Checked → Head
head_of c = record { params = c.params; columns = c.columns }

-- what the image of a final query holds: the code with the least ranges for what is held
abbrev pub content_of : Checked → Rel → Held → Content
content_of c final held = record { head = head_of c; code = code_for final (query_context c) held; held = held }

-- the number of bytes of the image
abbrev pub image_size : Content → ℕ
image_size x = length (image_of x.head x.code x.held)

abbrev pub if_small : Content → Result Content Status
if_small x = if nat_lt most_file_bytes (image_size x) then Err (status.Build build.TooLarge) else Ok x

-- what the image of a final query holds, or the first refusal
abbrev pub built_last : Checked → List Table → Rel → Result Content Status
built_last c tables final = after (held_last c.query tables final) (λ held. if_small (content_of c final held))

-- what the image of a checked query over its tables holds, or the first refusal: first that of the script, and then those
-- of the final query
abbrev pub built : Checked → List Table → Result Content Status
built c tables = after (if_finished (finish_of (query_context c).tables c.query)) (built_last c tables)

-- the bytes are the image that is due, or there is the refusal that is due, or want of memory
abbrev pub BuildsImage : Result Content Status → Result (List ℕ) Status → Type 0
BuildsImage due (Ok bytes) = (x : Content) × (due ≡ Ok x) × IsImageOf x bytes
BuildsImage due (Err s) = (s ≡ status.Memory) ⊎ (due ≡ Err s)
