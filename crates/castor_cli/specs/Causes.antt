-- Why no image of a query is built.
use Rattle.std.specs.Prelude.{map, ◌≡◌, ◌⊎◌, ℕ, zero, suc, ◌+◌, ◌≤◌, ◌++◌, List, [], ◌∷◌, length, Bool, true, false, Option, Some, None, Result, Ok, Err, IfSome}
use Rattle.std.specs.declared.vec.Vec.{Vec}
use Rattle.std.specs.declared.alloc.Global.{Global}
use Rattle.castor_base.specs.Files.{Files}
use Rattle.castor_base.specs.declared.failed.ShelfError.{ShelfError}
use Rattle.castor_base.specs.declared.failed.ShelfError.TheVariants as shelf
use Rattle.castor_val.specs.declared.table.Table.{Table}
use Rattle.castor_schema.specs.declared.checked.Checked.{Checked}
use Rattle.castor_names.specs.declared.table.Declared.{Declared}
use Rattle.castor_image.specs.Images.{Content, IsImageOf}
use Rattle.castor_cli.specs.declared.preparation.Stop.{Stop}
use Rattle.castor_cli.specs.declared.status.Place.{Place}
use Rattle.castor_cli.specs.declared.status.Place.TheVariants as place
use Rattle.castor_cli.specs.declared.status.ReadFault.TheVariants as fault
use Rattle.castor_cli.specs.declared.status.Status.{Status}
use Rattle.castor_cli.specs.declared.status.Status.TheVariants as status
use Rattle.castor_alg.specs.Fits.{tables_fit}
use Rattle.castor_val.specs.Columns.{types_of}
use Rattle.castor_cli.specs.Preparation.{Broken, IsBuilt, IsQueryIn, query_fails, readable, script_in, table_in, tables_behind, tables_in, with_query}
use Rattle.castor_cli.specs.Status.{table_file}

-- the status of a file that can't be read
abbrev pub read_status : Place → ShelfError → Status
read_status p shelf.Absent = status.Read p fault.Absent
read_status p shelf.TooLong = status.Read p fault.TooLong
read_status p shelf.Failed = status.Read p fault.Failed
read_status p shelf.Memory = status.Memory

-- a place that failed is the one that the status names
abbrev pub Blames : Broken → Status → Type 0
Blames None s = Unit {0}
Blames (Some p) s = s ≡ status.Read p fault.Failed

-- a status that is what is due, with every device well or with the one that it names failing; or want of memory
abbrev pub IsDue : {A : Type 0} → (Broken → Result A Status → Type 0) → Status → Type 0
IsDue due s = (s ≡ status.Memory) ⊎ ((broken : Broken) × Blames broken s × due broken (Err s))

-- the same where the query was read
abbrev pub IsDueLater : {A : Type 0} → (Broken → Result A Status) → Status → Type 0
IsDueLater due s = (s ≡ status.Memory) ⊎ ((broken : Broken) × (query_fails broken ≡ false) × Blames broken s × (due broken ≡ Err s))

-- the same of the table that fails, counted from the first of some tables
abbrev pub BlamesTable : ℕ → Option ℕ → Status → Type 0
BlamesTable number None s = Unit {0}
BlamesTable number (Some k) s = s ≡ status.Read (place.Table (number + k)) fault.Failed

abbrev pub IsDueAmong : ℕ → (Option ℕ → Result (List Table) Status) → Status → Type 0
IsDueAmong number due s = (s ≡ status.Memory) ⊎ ((failing : Option ℕ) × BlamesTable number failing s × (due failing ≡ Err s))

-- a file that can't be read names a fault of its device where the device failed, and where the files aren't told
abbrev pub RoseWhere : Option Files → Type 0 → Status → Type 0
RoseWhere told rose (status.Read p fault.Failed) = rose
RoseWhere None rose (status.Read p fault.Absent) = rose
RoseWhere (Some f) rose (status.Read p fault.Absent) = Unit {0}
RoseWhere None rose (status.Read p fault.TooLong) = rose
RoseWhere (Some f) rose (status.Read p fault.TooLong) = Unit {0}
RoseWhere told rose s = Unit {0}

-- the name of a declared table, from 0
abbrev pub nth_name : List Declared → ℕ → List ℕ
nth_name [] i = []
nth_name (d ∷ ds) zero = d.name
nth_name (d ∷ ds) (suc i) = nth_name ds i

-- the name is that of the table that the status speaks of, among tables of which the first has this number
abbrev pub NamesTable : ℕ → List Declared → Status → List ℕ → Type 0
NamesTable number ds (status.Read (place.Table i) why) name = (k : ℕ) × (i ≡ number + k) × (name ≡ nth_name ds k)
NamesTable number ds (status.Table i why) name = (k : ℕ) × (i ≡ number + k) × (name ≡ nth_name ds k)
NamesTable number ds s name = Unit {0}

-- the same of a status of these tables, or want of memory
abbrev pub NamesOneOf : ℕ → List Declared → Status → List ℕ → Type 0
NamesOneOf number ds (status.Read (place.Table i) why) name = (k : ℕ) × (i ≡ number + k) × (name ≡ nth_name ds k)
NamesOneOf number ds (status.Table i why) name = (k : ℕ) × (i ≡ number + k) × (name ≡ nth_name ds k)
NamesOneOf number ds status.Memory name = Unit {0}
NamesOneOf number ds s name = ⊥

-- the name is that of the table that the status speaks of, among those that the query declares
abbrev pub NamesDeclared : Files → List ℕ → Status → List ℕ → Type 0
NamesDeclared files query (status.Read (place.Table i) why) name = (c : Checked) × IsQueryIn false files query (Ok c) × (name ≡ nth_name c.tables i)
NamesDeclared files query (status.Table i why) name = (c : Checked) × IsQueryIn false files query (Ok c) × (name ≡ nth_name c.tables i)
NamesDeclared files query s name = Unit {0}

-- tables behind others have rows of the types that their declarations give them
abbrev pub FitBehind : List Declared → List Table → List Table → Type 0
FitBehind ds old new = (ts : List Table) × (new ≡ old ++ ts) × (tables_fit ts (map (λ (d : Declared). types_of d.columns) ds) ≡ true)

-- the file is there, with these bytes, within the limit
abbrev pub Stands : ℕ → List ℕ → Option (List ℕ) → Type 0
Stands limit bytes file = (file ≡ Some bytes) × (length bytes ≤ limit)

-- why a file was not read: want of memory, or what is due, with its device failing or not
abbrev pub Unread : Place → ℕ → Option (List ℕ) → Status → Type 0
Unread p limit file s = (s ≡ status.Memory) ⊎ ((fails : Bool) × (fails ≡ true → s ≡ status.Read p fault.Failed) × (readable fails p limit file ≡ Err s))

-- what a status that a file gave says: it is the place's, it is due by the told files, and the count rose where it must have
pub record Refused (told told_after : Option Files) (rose : Type 0) (p : Place) (limit : ℕ) (name : List ℕ) (s : Status) : Type 0 where
  pub error : (e : ShelfError) × (s ≡ read_status p e)
  pub due : IfSome told (λ (files : Files). Unread p limit (files name) s)
  pub count : RoseWhere told_after rose s

-- what reading a file gives
abbrev pub ReadsFile : Option Files → Option Files → Type 0 → Place → ℕ → List ℕ → Result (List ℕ) Status → Type 0
ReadsFile told told_after rose p limit name (Ok bytes) = IfSome told (λ (files : Files). Stands limit bytes (files name))
ReadsFile told told_after rose p limit name (Err s) = Refused told told_after rose p limit name s

-- the status is want of memory, or speaks of the table of this number
abbrev pub IsOfTable : ℕ → Status → Type 0
IsOfTable number (status.Read (place.Table i) why) = i ≡ number
IsOfTable number (status.Table i why) = i ≡ number
IsOfTable number status.Memory = Unit {0}
IsOfTable number s = ⊥

-- the status is want of memory, or speaks of the query or of the script
abbrev pub IsOfPart : Place → Status → Type 0
IsOfPart place.Query (status.Read place.Query why) = Unit {0}
IsOfPart place.Query (status.Query why) = Unit {0}
IsOfPart place.Script (status.Read place.Script why) = Unit {0}
IsOfPart place.Script status.NotYet = Unit {0}
IsOfPart p status.Memory = Unit {0}
IsOfPart p s = ⊥

-- the file that a stop speaks of
abbrev pub file_of_status : List ℕ → List ℕ → List ℕ → Status → List ℕ
file_of_status query script table (status.Read place.Query why) = query
file_of_status query script table (status.Read place.Script why) = script
file_of_status query script table (status.Read (place.Table i) why) = table_file table
file_of_status query script table s = []

-- a status of one table: it is the table's, it is due by the told files, and the count of its file rose where it must have
pub record TableRefused (told told_after : Option Files) (rose : Type 0) (number : ℕ) (d : Declared) (s : Status) : Type 0 where
  pub of_table : IsOfTable number s
  pub due : IfSome told (λ (files : Files). (s ≡ status.Memory) ⊎ ((fails : Bool) × (fails ≡ true → s ≡ status.Read (place.Table number) fault.Failed) × (table_in fails files number d ≡ Err s)))
  pub count : RoseWhere told_after rose s

-- what loading one table gives
abbrev pub LoadsOne : Option Files → Option Files → Type 0 → ℕ → Declared → Result Table Status → Type 0
LoadsOne told told_after rose number d (Ok t) = IfSome told (λ (files : Files). table_in false files number d ≡ Ok t)
LoadsOne told told_after rose number d (Err s) = TableRefused told told_after rose number d s

-- a status of some tables, the first of which has this number: it is due by the told files, and it speaks of one of them, whose file's count rose where it must have
pub record TablesRefused (told told_after : Option Files) (rose : List ℕ → Type 0) (number : ℕ) (ds : List Declared) (s : Status) : Type 0 where
  pub due : IfSome told (λ (files : Files). IsDueAmong number (λ failing. tables_in failing files number ds) s)
  pub table : (name : List ℕ) × NamesOneOf number ds s name × RoseWhere told_after (rose (table_file name)) s

-- what loading tables behind those that are loaded gives
abbrev pub LoadsAll : Option Files → Option Files → (List ℕ → Type 0) → ℕ → List Declared → List Table → List Table → Result (Unit {0}) Status → Type 0
LoadsAll told told_after rose number ds old new (Ok done) = IfSome told (λ (files : Files). (ts : List Table) × (new ≡ old ++ ts) × (tables_in None files number ds ≡ Ok ts))
LoadsAll told told_after rose number ds old new (Err s) = TablesRefused told told_after rose number ds s

-- the bytes of a vector, where there is one
abbrev pub items_of : Result (Vec ℕ Global) Status → Result (List ℕ) Status
items_of (Ok bytes) = Ok bytes.items
items_of (Err s) = Err s

-- a status of the query or the script: it is due by the told files, with the device failing or not, and the count of its file rose where it must have
pub record PartRefused {A : Type 0} (told told_after : Option Files) (rose : Type 0) (p : Place) (due_in : Bool → Files → Result A Status → Type 0) (s : Status) : Type 0 where
  pub of_part : IsOfPart p s
  pub due : IfSome told (λ (files : Files). (s ≡ status.Memory) ⊎ ((fails : Bool) × (fails ≡ true → s ≡ status.Read p fault.Failed) × due_in fails files (Err s)))
  pub count : RoseWhere told_after rose s

-- what reading and checking the script gives
abbrev pub ReadsScript : Option Files → Option Files → Type 0 → List ℕ → Result (Unit {0}) Status → Type 0
ReadsScript told told_after rose script (Ok done) = IfSome told (λ (files : Files). script_in false files script ≡ Ok tt)
ReadsScript told told_after rose script (Err s) = PartRefused told told_after rose place.Script (λ fails files r. script_in fails files script ≡ r) s

-- what reading and checking the query gives
abbrev pub ReadsQuery : Option Files → Option Files → Type 0 → List ℕ → Result Checked Status → Type 0
ReadsQuery told told_after rose query (Ok c) = IfSome told (λ (files : Files). IsQueryIn false files query (Ok c))
ReadsQuery told told_after rose query (Err s) = PartRefused told told_after rose place.Query (λ fails files. IsQueryIn fails files query) s

-- the status is one of what is made ready before the input is read
abbrev pub IsRefusal : Status → Type 0
IsRefusal (status.Read place.Query why) = Unit {0}
IsRefusal (status.Read place.Script why) = Unit {0}
IsRefusal (status.Read (place.Table i) why) = Unit {0}
IsRefusal (status.Query why) = Unit {0}
IsRefusal (status.Table i why) = Unit {0}
IsRefusal (status.Script why) = Unit {0}
IsRefusal (status.Build why) = Unit {0}
IsRefusal status.NotYet = Unit {0}
IsRefusal status.Memory = Unit {0}
IsRefusal s = ⊥

-- the count of the file that the status speaks of rose where it must have; the status names one of these tables, or none
abbrev pub SpeaksOf : Option Files → (List ℕ → Type 0) → List ℕ → List ℕ → List Declared → Status → Type 0
SpeaksOf told_after rose query script ds s = (name : List ℕ) × NamesTable 0 ds s name × RoseWhere told_after (rose (file_of_status query script name s)) s

-- a status of what comes after the query
pub record RestRefused (told told_after : Option Files) (rose : List ℕ → Type 0) (query script : List ℕ) (c : Checked) (s : Status) : Type 0 where
  pub refusal : IsRefusal s
  pub due : IfSome told (λ (files : Files). IsDueLater (λ broken. with_query broken files script c) s)
  pub speaks : SpeaksOf told_after rose query script c.tables s

-- what preparing the tables of a checked query gives
abbrev pub PreparesTables : Option Files → Option Files → (List ℕ → Type 0) → List ℕ → List ℕ → Checked → Result (List Table) Status → Type 0
PreparesTables told told_after rose query script c (Ok ts) = IfSome told (λ (files : Files). tables_behind None files script c ≡ Ok ts)
PreparesTables told told_after rose query script c (Err s) = RestRefused told told_after rose query script c s

-- the bytes are the image of what is built, where the files are told
abbrev pub AreBytesBuilt : Option Files → (Files → Result Content Status → Type 0) → List ℕ → Type 0
AreBytesBuilt told built bytes = (x : Content) × IsImageOf x bytes × IfSome told (λ (files : Files). built files (Ok x))

-- what preparing all behind a checked query gives
abbrev pub PreparesRest : Option Files → Option Files → (List ℕ → Type 0) → List ℕ → List ℕ → Checked → Result (List ℕ) Status → Type 0
PreparesRest told told_after rose query script c (Ok bytes) = AreBytesBuilt told (λ files r. with_query None files script c ≡ r) bytes
PreparesRest told told_after rose query script c (Err s) = RestRefused told told_after rose query script c s

-- a status that ends the preparation
pub record PreparationRefused (told told_after : Option Files) (rose : List ℕ → Type 0) (query script : List ℕ) (s : Status) (table : List ℕ) : Type 0 where
  pub refusal : IsRefusal s
  pub due : IfSome told (λ (files : Files). IsDue (λ broken. IsBuilt broken files query script) s)
  pub names : IfSome told (λ (files : Files). NamesDeclared files query s table)
  pub count : RoseWhere told_after (rose (file_of_status query script table s)) s

-- what preparing a query, a script and tables gives
abbrev pub Prepares : Option Files → Option Files → (List ℕ → Type 0) → List ℕ → List ℕ → Result (Vec ℕ Global) Stop → Type 0
Prepares told told_after rose query script (Ok image) = AreBytesBuilt told (λ files r. IsBuilt None files query script r) image.items
Prepares told told_after rose query script (Err stop) = PreparationRefused told told_after rose query script stop.status stop.table
