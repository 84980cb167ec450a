-- The image of a query, a script and tables, check by check, or the status that the first refusal gives.
use Rattle.std.specs.Prelude.{◌≡◌, ◌⊎◌, ℕ, zero, suc, ◌+◌, List, [], ◌∷◌, Bool, true, false, nat_lt, length, Option, Some, None, Result, Ok, Err, if◌then◌else◌}
use Rattle.castor_base.specs.Files.{Files}
use Rattle.castor_val.specs.Limits.{most_file_bytes, most_source_bytes}
use Rattle.castor_val.specs.declared.table.Table.{Table}
use Rattle.castor_load.specs.declared.error.LoadError.{LoadError}
use Rattle.castor_load.specs.Rows.{table_of}
use Rattle.castor_tokens.specs.Tokens.{tokens_of}
use Rattle.castor_schema.specs.declared.checked.Checked.{Checked}
use Rattle.castor_names.specs.declared.table.Declared.{Declared}
use Rattle.castor_cli.specs.declared.status.Place.{Place}
use Rattle.castor_cli.specs.declared.status.Place.TheVariants as place
use Rattle.castor_cli.specs.declared.status.ReadFault.TheVariants as fault
use Rattle.castor_cli.specs.declared.status.Status.{Status}
use Rattle.castor_cli.specs.declared.status.Status.TheVariants as status
use Rattle.castor_image.specs.Images.{Content}
use Rattle.castor_cli.specs.After.{after}
use Rattle.castor_cli.specs.Building.{built}
use Rattle.castor_cli.specs.Query.{IsQuery}
use Rattle.castor_cli.specs.Script.{are_finish}
use Rattle.castor_cli.specs.Sound.{IsSound}
use Rattle.castor_cli.specs.Status.{table_file}

-- what a run's devices did: the place that failed, if one did
abbrev pub Broken : Type 0
Broken = Option Place

abbrev pub query_fails : Broken → Bool
query_fails (Some place.Query) = true
query_fails b = false

abbrev pub script_fails : Broken → Bool
script_fails (Some place.Script) = true
script_fails b = false

abbrev pub image_fails : Broken → Bool
image_fails (Some place.Image) = true
image_fails b = false

-- the number of the table whose file failed
abbrev pub failing_table : Broken → Option ℕ
failing_table (Some (place.Table i)) = Some i
failing_table b = None

-- the bytes of a file of at most so many, unless its device fails
abbrev pub readable : Bool → Place → ℕ → Option (List ℕ) → Result (List ℕ) Status
readable fails p limit None = Err (status.Read p fault.Absent)
readable fails p limit (Some bytes) = if nat_lt limit (length bytes) then Err (status.Read p fault.TooLong) else (if fails then Err (status.Read p fault.Failed) else Ok bytes)

-- the one script that is built yet: `finish;`
abbrev pub script_of : List ℕ → Result (Unit {0}) Status
script_of text = if are_finish text (tokens_of text) then Ok tt else Err status.NotYet

abbrev pub if_loaded : ℕ → Result Table LoadError → Result Table Status
if_loaded i (Ok t) = Ok t
if_loaded i (Err why) = Err (status.Table i why)

-- the table of a declaration, from the file of its name
abbrev pub table_in : Bool → Files → ℕ → Declared → Result Table Status
table_in fails files i d = after (readable fails (place.Table i) most_file_bytes (files (table_file d.name))) (λ bytes. if_loaded i (table_of d.columns bytes))

-- the first of the tables is the one that fails
abbrev pub first_fails : Option ℕ → Bool
first_fails None = false
first_fails (Some zero) = true
first_fails (Some (suc k)) = false

-- the one that fails, counted without the first
abbrev pub later_fails : Option ℕ → Option ℕ
later_fails None = None
later_fails (Some zero) = None
later_fails (Some (suc k)) = Some k

-- the tables of declarations, the first of which has this number
abbrev pub tables_in : Option ℕ → Files → ℕ → List Declared → Result (List Table) Status
tables_in failing files i [] = Ok []
tables_in failing files i (d ∷ ds) = after (table_in (first_fails failing) files i d) (λ t. after (tables_in (later_fails failing) files (i + 1) ds) (λ ts. Ok (t ∷ ts)))

-- the script, by its name
abbrev pub script_in : Bool → Files → List ℕ → Result (Unit {0}) Status
script_in fails files script = after (readable fails place.Script most_source_bytes (files script)) script_of

-- what a file that can be read says, or that it can't be read
abbrev pub Says : {A : Type 0} → Result (List ℕ) Status → (List ℕ → Result A Status → Type 0) → Result A Status → Type 0
Says (Ok text) says r = says text r
Says (Err why) says r = r ≡ Err why

-- the checked query, by its name, or its refusal
abbrev pub IsQueryIn : Bool → Files → List ℕ → Result Checked Status → Type 0
IsQueryIn fails files query r = Says (readable fails place.Query most_source_bytes (files query)) IsQuery r

-- the tables of a checked query, where the script can be read and is the one that is built yet
abbrev pub tables_behind : Broken → Files → List ℕ → Checked → Result (List Table) Status
tables_behind broken files script c = after (script_in (script_fails broken) files script) (λ done. tables_in (failing_table broken) files 0 c.tables)

-- the script, then the tables, and then the image, of a checked query
abbrev pub with_query : Broken → Files → List ℕ → Checked → Result Content Status
with_query broken files script c = after (tables_behind broken files script c) (built c)

-- The query, the script and the tables, each read and then checked, and then the image, in this order: what the image
-- holds, or the first refusal. The checked query is sound, as each is.
abbrev pub IsBuilt : Broken → Files → List ℕ → List ℕ → Result Content Status → Type 0
IsBuilt broken files query script (Ok x) = (c : Checked) × IsQueryIn (query_fails broken) files query (Ok c) × IsSound c × (with_query broken files script c ≡ Ok x)
IsBuilt broken files query script (Err s) = IsQueryIn (query_fails broken) files query (Err s) ⊎ ((c : Checked) × IsQueryIn (query_fails broken) files query (Ok c) × (with_query broken files script c ≡ Err s))
