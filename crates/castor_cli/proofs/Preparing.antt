-- What ends the building of an image of a query, a script and tables.
use Rattle.std.proofs.Common.{◌≡◌, ◌⊎◌, ◌∙◌, ℕ, zero, suc, ◌+◌, List, [], ◌∷◌, Bool, true, false, if◌then◌else◌, Option, Some, None, Result, Ok, Err, IfSome, refl, sym, ap, subst, inl, inr, zero-add, arith, length, ◌≤◌, ◌++◌}
use Rattle.std.specs.List.{slice_get}
use Rattle.castor_base.specs.Files.{Files, SameFiles}
use Rattle.castor_val.specs.declared.fault.Faults.{Faults}
use Rattle.castor_val.specs.declared.table.Table.{Table}
use Rattle.castor_alg.specs.declared.held.Held.{Held}
use Rattle.castor_alg.specs.declared.rel.Rel.{Rel}
use Rattle.castor_script.specs.declared.step_error.StepError.{StepError}
use Rattle.castor_script.specs.Finish.{finish_of}
use Rattle.castor_alg.specs.HeldData.{held_data}
use Rattle.castor_alg.specs.Stages.{Staged, stage}
use Rattle.castor_schema.specs.WellTyped.{query_context}
use Rattle.castor_schema.specs.declared.checked.Checked.{Checked}
use Rattle.castor_names.specs.declared.table.Declared.{Declared}
use Rattle.castor_image.specs.Images.{Content}
use Rattle.castor_cli.specs.declared.status.Place.TheVariants as place
use Rattle.castor_cli.specs.declared.status.ReadFault.TheVariants as fault
use Rattle.castor_cli.specs.declared.status.Status.{Status}
use Rattle.castor_cli.specs.declared.status.Status.TheVariants as status
use Rattle.castor_cli.specs.Causes.{AreBytesBuilt, IsDue, IsDueAmong, IsDueLater, IsOfPart, IsRefusal, NamesDeclared, NamesOneOf, NamesTable, PartRefused, PreparationRefused, PreparesRest, RestRefused, RoseWhere, SpeaksOf, TablesRefused, file_of_status, nth_name}
use Rattle.castor_cli.specs.After.{after}
use Rattle.castor_cli.specs.declared.status.BuildFault.TheVariants as build
use Rattle.castor_cli.specs.Building.{BuildsImage, built, built_last, held_last, if_finished, if_held, if_ordered, if_staged, keeps_order}
use Rattle.castor_cli.specs.Preparation.{IsBuilt, IsQueryIn, script_in, tables_behind, tables_in, with_query}
use Rattle.castor_cli.specs.Sound.{IsSound}
use Rattle.castor_cli.specs.Status.{table_file}
use Rattle.castor_cli.proofs.Tables.{both_told, if_told, if_told_later, rose_where_up}

-- a refusal that is due with a device failing or not
abbrev DueIn : {A : Type 0} → Status → Status → (Bool → Result A Status → Type 0) → Type 0
DueIn failed s due = (s ≡ status.Memory) ⊎ ((fails : Bool) × (fails ≡ true → s ≡ failed) × due fails (Err s))

-- ---- the script

script_due : (files : Files) (script : List ℕ) (c : Checked) (s : Status) → DueIn (status.Read place.Script fault.Failed) s (λ fails r. script_in fails files script ≡ r) → IsDueLater (λ broken. with_query broken files script c) s
script_due files script c s (inl memory) = inl memory
script_due files script c s (inr (true, blames, is)) = inr (Some place.Script, refl, blames refl, rw is refl)
script_due files script c s (inr (false, blames, is)) = inr (None, refl, tt, rw is refl)

script_speaks : (told_after : Option Files) (rose : List ℕ → Type 0) (query script : List ℕ) (ds : List Declared) (s : Status) → IsOfPart place.Script s → RoseWhere told_after (rose script) s → SpeaksOf told_after rose query script ds s
script_speaks told_after rose query script ds (status.Read place.Script why) of_part count = ([], tt, count)
script_speaks told_after rose query script ds status.NotYet of_part count = ([], tt, tt)
script_speaks told_after rose query script ds status.Memory of_part count = ([], tt, tt)
script_speaks told_after rose query script ds s of_part count = absurd of_part

script_refusal : (s : Status) → IsOfPart place.Script s → IsRefusal s
script_refusal (status.Read place.Script why) of_part = tt
script_refusal status.NotYet of_part = tt
script_refusal status.Memory of_part = tt
script_refusal s of_part = absurd of_part

query_refusal : (s : Status) → IsOfPart place.Query s → IsRefusal s
query_refusal (status.Read place.Query why) of_part = tt
query_refusal (status.Query why) of_part = tt
query_refusal status.Memory of_part = tt
query_refusal s of_part = absurd of_part

table_refusal : (ds : List Declared) (s : Status) (name : List ℕ) → NamesOneOf 0 ds s name → IsRefusal s
table_refusal ds (status.Read (place.Table i) why) name names = tt
table_refusal ds (status.Table i why) name names = tt
table_refusal ds status.Memory name names = tt
table_refusal ds s name names = absurd names

-- the script was refused
pub rest_at_script : (told told_after : Option Files) (rose : List ℕ → Type 0) (query script : List ℕ) (c : Checked) (s : Status)
    → PartRefused told told_after (rose script) place.Script (λ fails files r. script_in fails files script ≡ r) s → RestRefused told told_after rose query script c s
rest_at_script told told_after rose query script c s r = record {
  refusal = script_refusal s r.of_part;
  due = if_told told _ _ (λ files. script_due files script c s) r.due;
  speaks = script_speaks told_after rose query script c.tables s r.of_part r.count;
}

-- ---- the tables

tables_due : (files : Files) (script : List ℕ) (c : Checked) (s : Status) → script_in false files script ≡ Ok tt → IsDueAmong 0 (λ failing. tables_in failing files 0 c.tables) s → IsDueLater (λ broken. with_query broken files script c) s
tables_due files script c s well (inl memory) = inl memory
tables_due files script c s well (inr (None, blames, is)) = inr (None, refl, tt, rw (well, is) refl)
tables_due files script c s well (inr (Some k, blames, is)) =
    inr (Some (place.Table k), refl, subst (λ (i : ℕ). s ≡ status.Read (place.Table i) fault.Failed) (zero-add k) blames, rw (well, is) refl)

tables_speak : (told_after : Option Files) (rose rises : List ℕ → Type 0) (query script : List ℕ) (ds : List Declared) (s : Status) (name : List ℕ)
    → ((name : List ℕ) → rose name → rises name) → NamesOneOf 0 ds s name → RoseWhere told_after (rose (table_file name)) s → SpeaksOf told_after rises query script ds s
tables_speak told_after rose rises query script ds (status.Read (place.Table i) why) name up names count = (name, names, rose_where_up told_after _ _ (status.Read (place.Table i) why) (up (table_file name)) count)
tables_speak told_after rose rises query script ds (status.Table i why) name up names count = (name, names, tt)
tables_speak told_after rose rises query script ds status.Memory name up names count = ([], tt, tt)
tables_speak told_after rose rises query script ds s name up names count = absurd names

-- a table was refused
pub rest_at_tables : (told later told_after : Option Files) (rose rises : List ℕ → Type 0) (query script : List ℕ) (c : Checked) (s : Status)
    → IfSome told (λ (files : Files). script_in false files script ≡ Ok tt) → SameFiles told later → ((name : List ℕ) → rose name → rises name)
    → TablesRefused later told_after rose 0 c.tables s → RestRefused told told_after rises query script c s
rest_at_tables told later told_after rose rises query script c s well same up r = record {
  refusal = let (name, names, count) = r.table in table_refusal c.tables s name names;
  due = both_told told _ _ _ (λ files w h. tables_due files script c s w h) well (if_told_later told later _ same r.due);
  speaks = let (name, names, count) = r.table in tables_speak told_after rose rises query script c.tables s name up names count;
}

tables_in_all : (files : Files) (script : List ℕ) (c : Checked) (all : List Table) → script_in false files script ≡ Ok tt
    → (loaded : List Table) × (all ≡ [] ++ loaded) × (tables_in None files 0 c.tables ≡ Ok loaded) → tables_behind None files script c ≡ Ok all
tables_in_all files script c all well (loaded, grew, is) = rw (well, is, grew) refl

-- the script and the tables are well
pub tables_well : (told later : Option Files) (script : List ℕ) (c : Checked) (all : List Table)
    → IfSome told (λ (files : Files). script_in false files script ≡ Ok tt) → SameFiles told later
    → IfSome later (λ (files : Files). (loaded : List Table) × (all ≡ [] ++ loaded) × (tables_in None files 0 c.tables ≡ Ok loaded))
    → IfSome told (λ (files : Files). tables_behind None files script c ≡ Ok all)
tables_well told later script c all well same rest = both_told told _ _ _ (λ files w h. tables_in_all files script c all w h) well (if_told_later told later _ same rest)

-- ---- the image

-- a refusal of what is built, or want of memory
abbrev IsOfBuild : Status → Type 0
IsOfBuild (status.Script why) = Unit {0}
IsOfBuild (status.Build why) = Unit {0}
IsOfBuild status.Memory = Unit {0}
IsOfBuild s = ⊥

of_build : {A : Type 0} (r s : Status) → IsOfBuild r → ◌≡◌ {A = Result A Status} (Err r) (Err s) → IsOfBuild s
of_build r s of is = let same : r ≡ s = cc is in subst IsOfBuild same of

after_refuses : {A B : Type 0} (r : Result A Status) (next : A → Result B Status) (s : Status) → ((why : Status) → r ≡ Err why → IsOfBuild why) → ((a : A) (why : Status) → next a ≡ Err why → IsOfBuild why) → after r next ≡ Err s → IsOfBuild s
after_refuses (Ok a) next s first later is = later a s is
after_refuses (Err why) next s first later is = of_build why s (first why refl) is

finish_refuses : (r : Result Rel StepError) (s : Status) → if_finished r ≡ Err s → IsOfBuild s
finish_refuses (Ok q) s is = cc is
finish_refuses (Err why) s is = of_build _ s tt is

order_refuses : (kept : Bool) (q : Rel) (s : Status) → if_ordered kept q ≡ Err s → IsOfBuild s
order_refuses true q s is = cc is
order_refuses false q s is = of_build _ s tt is

stage_refuses : (r : Staged) (q : Rel) (s : Status) → if_staged r q ≡ Err s → IsOfBuild s
stage_refuses (Ok fine) q s is = cc is
stage_refuses (Err why) q s is = of_build _ s tt is

data_refuses : (r : Result Held Faults) (s : Status) → if_held r ≡ Err s → IsOfBuild s
data_refuses (Ok held) s is = cc is
data_refuses (Err f) s is = of_build _ s tt is

size_refuses : (is_large : Bool) (x : Content) (s : Status) → (if is_large then Err (status.Build build.TooLarge) else Ok x) ≡ Err s → IsOfBuild s
size_refuses true x s is = of_build _ s tt is
size_refuses false x s is = cc is

held_refuses : (q : Rel) (ts : List Table) (final : Rel) (s : Status) → held_last q ts final ≡ Err s → IsOfBuild s
held_refuses q ts final s is =
    after_refuses (if_ordered (keeps_order q final) final) _ s (λ why e. order_refuses (keeps_order q final) final why e)
    (λ a why e. after_refuses (if_staged (stage final) final) _ why (λ w d. stage_refuses (stage final) final w d) (λ b w d. data_refuses (held_data final ts) w d) e) is

last_refuses : (c : Checked) (ts : List Table) (final : Rel) (s : Status) → built_last c ts final ≡ Err s → IsOfBuild s
last_refuses c ts final s is = after_refuses (held_last c.query ts final) _ s (λ why e. held_refuses c.query ts final why e) (λ held why e. size_refuses _ _ why e) is

built_refuses : (c : Checked) (ts : List Table) (s : Status) → built c ts ≡ Err s → IsOfBuild s
built_refuses c ts s is = after_refuses (if_finished (finish_of (query_context c).tables c.query)) (built_last c ts) s (λ why e. finish_refuses _ why e) (λ final why e. last_refuses c ts final why e) is

build_refuses : (c : Checked) (ts : List Table) (s : Status) → (s ≡ status.Memory) ⊎ (built c ts ≡ Err s) → IsOfBuild s
build_refuses c ts s (inl memory) = subst IsOfBuild (sym memory) tt
build_refuses c ts s (inr is) = built_refuses c ts s is

build_refusal : (s : Status) → IsOfBuild s → IsRefusal s
build_refusal (status.Script why) of = tt
build_refusal (status.Build why) of = tt
build_refusal status.Memory of = tt
build_refusal s of = absurd of

build_speaks : (told_after : Option Files) (rose : List ℕ → Type 0) (query script : List ℕ) (ds : List Declared) (s : Status) → IsOfBuild s → SpeaksOf told_after rose query script ds s
build_speaks told_after rose query script ds (status.Script why) of = ([], tt, tt)
build_speaks told_after rose query script ds (status.Build why) of = ([], tt, tt)
build_speaks told_after rose query script ds status.Memory of = ([], tt, tt)
build_speaks told_after rose query script ds s of = absurd of

build_due : (files : Files) (script : List ℕ) (c : Checked) (ts : List Table) (s : Status) → (s ≡ status.Memory) ⊎ (built c ts ≡ Err s) → tables_behind None files script c ≡ Ok ts → IsDueLater (λ broken. with_query broken files script c) s
build_due files script c ts s (inl memory) loaded = inl memory
build_due files script c ts s (inr is) loaded = inr (None, refl, tt, rw loaded is)

-- the image was refused
rest_at_build : (told told_after : Option Files) (rose : List ℕ → Type 0) (query script : List ℕ) (c : Checked) (ts : List Table) (s : Status)
    → IfSome told (λ (files : Files). tables_behind None files script c ≡ Ok ts) → (s ≡ status.Memory) ⊎ (built c ts ≡ Err s) → RestRefused told told_after rose query script c s
rest_at_build told told_after rose query script c ts s loaded why = record {
  refusal = build_refusal s (build_refuses c ts s why);
  due = if_told told _ _ (λ files. build_due files script c ts s why) loaded;
  speaks = build_speaks told_after rose query script c.tables s (build_refuses c ts s why);
}

rest_in : (files : Files) (script : List ℕ) (c : Checked) (ts : List Table) (x : Content) → built c ts ≡ Ok x → tables_behind None files script c ≡ Ok ts → with_query None files script c ≡ Ok x
rest_in files script c ts x is loaded = rw loaded is

-- all behind the query is well, or the image was refused
pub rest_built : (told told_after : Option Files) (rose : List ℕ → Type 0) (query script : List ℕ) (c : Checked) (ts : List Table) (r : Result (List ℕ) Status)
    → IfSome told (λ (files : Files). tables_behind None files script c ≡ Ok ts) → BuildsImage (built c ts) r → PreparesRest told told_after rose query script c r
rest_built told told_after rose query script c ts (Ok bytes) loaded (x, is, image) = (x, image, if_told told _ _ (λ files. rest_in files script c ts x is) loaded)
rest_built told told_after rose query script c ts (Err s) loaded why = rest_at_build told told_after rose query script c ts s loaded why

-- ---- the query

query_due : (files : Files) (query script : List ℕ) (s : Status) → DueIn (status.Read place.Query fault.Failed) s (λ fails. IsQueryIn fails files query) → IsDue (λ broken. IsBuilt broken files query script) s
query_due files query script s (inl memory) = inl memory
query_due files query script s (inr (true, blames, is)) = inr (Some place.Query, blames refl, inl is)
query_due files query script s (inr (false, blames, is)) = inr (None, tt, inl is)

query_names : (files : Files) (query : List ℕ) (s : Status) (name : List ℕ) → IsOfPart place.Query s → NamesDeclared files query s name
query_names files query (status.Read place.Query why) name of_part = tt
query_names files query (status.Query why) name of_part = tt
query_names files query status.Memory name of_part = tt
query_names files query s name of_part = absurd of_part

query_count : (told_after : Option Files) (rose : List ℕ → Type 0) (query script table : List ℕ) (s : Status) → IsOfPart place.Query s → RoseWhere told_after (rose query) s → RoseWhere told_after (rose (file_of_status query script table s)) s
query_count told_after rose query script table (status.Read place.Query why) of_part count = count
query_count told_after rose query script table (status.Query why) of_part count = tt
query_count told_after rose query script table status.Memory of_part count = tt
query_count told_after rose query script table s of_part count = absurd of_part

-- the query was refused
pub refused_at_query : (told told_after : Option Files) (rose : List ℕ → Type 0) (query script table : List ℕ) (s : Status)
    → PartRefused told told_after (rose query) place.Query (λ fails files. IsQueryIn fails files query) s → PreparationRefused told told_after rose query script s table
refused_at_query told told_after rose query script table s r = record {
  refusal = query_refusal s r.of_part;
  due = if_told told _ _ (λ files. query_due files query script s) r.due;
  names = if_told told _ _ (λ files h. query_names files query s table r.of_part) r.due;
  count = query_count told_after rose query script table s r.of_part r.count;
}

-- ---- what comes after the query

later_due : (files : Files) (query script : List ℕ) (c : Checked) (s : Status) → IsQueryIn false files query (Ok c) → IsDueLater (λ broken. with_query broken files script c) s → IsDue (λ broken. IsBuilt broken files query script) s
later_due files query script c s well (inl memory) = inl memory
later_due files query script c s well (inr (broken, fine, blames, is)) = inr (broken, blames, inr (c, subst (λ (fails : Bool). IsQueryIn fails files query (Ok c)) (sym fine) well, is))

named_by : (ds : List Declared) (i : ℕ) (name : List ℕ) → (k : ℕ) × (i ≡ 0 + k) × (name ≡ nth_name ds k) → name ≡ nth_name ds i
named_by ds i name (k, is, named) = named ∙ ap (λ n. nth_name ds n) (sym (zero-add k) ∙ sym is)

later_names : (files : Files) (query : List ℕ) (c : Checked) (s : Status) (table : List ℕ) → IsQueryIn false files query (Ok c) → NamesTable 0 c.tables s table → NamesDeclared files query s table
later_names files query c (status.Read (place.Table i) why) table well names = (c, well, named_by c.tables i table names)
later_names files query c (status.Table i why) table well names = (c, well, named_by c.tables i table names)
later_names files query c s table well names = tt

same_name : (ds : List Declared) (i k : ℕ) (a b : List ℕ) → (j : ℕ) × (i ≡ 0 + j) × (a ≡ nth_name ds j) → (j : ℕ) × (i ≡ 0 + j) × (b ≡ nth_name ds j) → a ≡ b
same_name ds i k a b (j, is, at) (m, it, bt) =
    at ∙ ap (λ n. nth_name ds n) (sym (zero-add j) ∙ sym is ∙ it ∙ zero-add m) ∙ sym bt

later_count : (told_after : Option Files) (rose rises : List ℕ → Type 0) (query script : List ℕ) (ds : List Declared) (s : Status) (table : List ℕ) → ((name : List ℕ) → rose name → rises name)
    → SpeaksOf told_after rose query script ds s → NamesTable 0 ds s table → RoseWhere told_after (rises (file_of_status query script table s)) s
later_count told_after rose rises query script ds (status.Read (place.Table i) why) table up (name, names, count) named =
    subst (λ (n : List ℕ). RoseWhere told_after (rises (table_file n)) (status.Read (place.Table i) why)) (same_name ds i i name table names named)
    (rose_where_up told_after _ _ (status.Read (place.Table i) why) (up (table_file name)) count)
later_count told_after rose rises query script ds s table up (name, names, count) named = rose_where_up told_after _ _ s (up (file_of_status query script table s)) count

-- something after the query was refused
pub refused_later : (told later told_after : Option Files) (rose rises : List ℕ → Type 0) (query script table : List ℕ) (c : Checked) (s : Status)
    → IfSome told (λ (files : Files). IsQueryIn false files query (Ok c)) → SameFiles told later → ((name : List ℕ) → rose name → rises name)
    → RestRefused later told_after rose query script c s → NamesTable 0 c.tables s table → PreparationRefused told told_after rises query script s table
refused_later told later told_after rose rises query script table c s well same up r names = record {
  refusal = r.refusal;
  due = both_told told _ _ _ (λ files w h. later_due files query script c s w h) well (if_told_later told later _ same r.due);
  names = if_told told _ _ (λ files w. later_names files query c s table w names) well;
  count = later_count told_after rose rises query script c.tables s table up r.speaks names;
}

-- an image was built
pub prepared_well : (told later : Option Files) (query script bytes : List ℕ) (c : Checked)
    → IsSound c → IfSome told (λ (files : Files). IsQueryIn false files query (Ok c)) → SameFiles told later → AreBytesBuilt later (λ files r. with_query None files script c ≡ r) bytes
    → AreBytesBuilt told (λ files r. IsBuilt None files query script r) bytes
prepared_well told later query script bytes c sound well same (x, image, rest) = (x, image, both_told told _ _ _ (λ files w h. (c, w, sound, h)) well (if_told_later told later _ same rest))

-- ---- the name of a table by its number

pub nth_name-at : (ds : List Declared) (i : ℕ) (d : Declared) → slice_get ds i ≡ Some d → d.name ≡ nth_name ds i
nth_name-at [] i d e = absurd (let f : ◌≡◌ {A = Option Declared} None (Some d) = e in cc f)
nth_name-at (x ∷ xs) zero d e = let same : x ≡ d = cc e in ap (λ (y : Declared). y.name) (sym same)
nth_name-at (x ∷ xs) (suc i) d e = nth_name-at xs i d e

pub nth_name-past : (ds : List Declared) (i : ℕ) → length ds ≤ i → [] ≡ nth_name ds i
nth_name-past [] i past = refl
nth_name-past (d ∷ ds) zero past = absurd (omega (arith, past))
nth_name-past (d ∷ ds) (suc i) past = nth_name-past ds i (omega (arith, past))
