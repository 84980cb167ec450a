-- What reading the query's file and checking its text give.
use Rattle.std.proofs.Common.{◌≡◌, ◌⊎◌, ℕ, List, Bool, true, false, Option, Result, Ok, Err, IfSome, refl, inl, inr}
use Rattle.castor_base.specs.Files.{Files}
use Rattle.castor_val.specs.Limits.{most_source_bytes}
use Rattle.castor_parse.specs.declared.query.ParseError.{ParseError}
use Rattle.castor_parse.specs.declared.query.ParseError.TheVariants as parse
use Rattle.castor_tree.specs.declared.tree.File.{File}
use Rattle.castor_parse.specs.Parsed.{IsParsed, IsRefused}
use Rattle.castor_schema.specs.declared.checked.Checked.{Checked}
use Rattle.castor_names.specs.declared.error.SchemaError.{SchemaError}
use Rattle.castor_names.specs.declared.error.SchemaError.TheVariants as schema
use Rattle.castor_schema.specs.Check.{checked}
use Rattle.castor_cli.specs.declared.status.Place.TheVariants as place
use Rattle.castor_cli.specs.declared.status.QueryFault.TheVariants as fault
use Rattle.castor_cli.specs.declared.status.ReadFault.TheVariants as reading
use Rattle.castor_cli.specs.declared.status.Status.{Status}
use Rattle.castor_cli.specs.declared.status.Status.TheVariants as status
use Rattle.castor_cli.specs.Causes.{IsOfPart, PartRefused, ReadsQuery, RoseWhere, Stands}
use Rattle.castor_cli.specs.Preparation.{IsQueryIn}
use Rattle.castor_cli.specs.Query.{IsQuery, ReadsText, ReadsTree, Unparsed, is_unchecked, is_unparsed}
use Rattle.castor_cli.proofs.Reading.{readable_well}
use Rattle.castor_cli.proofs.Tables.{if_told}

-- ---- the text

text_unparsed : (text : List ℕ) (why : ParseError) → IsRefused text why → ReadsText text (Err (is_unparsed why))
text_unparsed text parse.TooLarge h = h
text_unparsed text parse.NotUtf8 h = h
text_unparsed text (parse.Syntax at) h = h
text_unparsed text parse.Memory h = tt

-- no tree was read
pub reads_nothing : (text : List ℕ) (s : Status) → Unparsed text s → ReadsText text (Err s)
reads_nothing text s (why, is, h) = rw is (text_unparsed text why h)

tree_unchecked : (text : List ℕ) (file : File) (why : SchemaError) → IsParsed text file → (why ≡ schema.Memory) ⊎ (checked file ≡ Err why) → ReadsText text (Err (is_unchecked why))
tree_unchecked text file schema.Memory parsed h = tt
tree_unchecked text file schema.UnknownTable parsed (inl is) = absurd (cc is)
tree_unchecked text file schema.UnknownTable parsed (inr h) = (file, parsed, h)
tree_unchecked text file schema.UnknownColumn parsed (inl is) = absurd (cc is)
tree_unchecked text file schema.UnknownColumn parsed (inr h) = (file, parsed, h)
tree_unchecked text file schema.UnknownScope parsed (inl is) = absurd (cc is)
tree_unchecked text file schema.UnknownScope parsed (inr h) = (file, parsed, h)
tree_unchecked text file schema.UnknownParam parsed (inl is) = absurd (cc is)
tree_unchecked text file schema.UnknownParam parsed (inr h) = (file, parsed, h)
tree_unchecked text file schema.Ambiguous parsed (inl is) = absurd (cc is)
tree_unchecked text file schema.Ambiguous parsed (inr h) = (file, parsed, h)
tree_unchecked text file schema.DuplicateName parsed (inl is) = absurd (cc is)
tree_unchecked text file schema.DuplicateName parsed (inr h) = (file, parsed, h)
tree_unchecked text file schema.TypeMismatch parsed (inl is) = absurd (cc is)
tree_unchecked text file schema.TypeMismatch parsed (inr h) = (file, parsed, h)
tree_unchecked text file schema.WrongCount parsed (inl is) = absurd (cc is)
tree_unchecked text file schema.WrongCount parsed (inr h) = (file, parsed, h)
tree_unchecked text file schema.TooLarge parsed (inl is) = absurd (cc is)
tree_unchecked text file schema.TooLarge parsed (inr h) = (file, parsed, h)

unchecked_by : (text : List ℕ) (file : File) (s : Status) → IsParsed text file → (why : SchemaError) × (s ≡ is_unchecked why) × ((why ≡ schema.Memory) ⊎ (checked file ≡ Err why)) → ReadsText text (Err s)
unchecked_by text file s parsed (why, is, h) = rw is (tree_unchecked text file why parsed h)

refused_tree : (text : List ℕ) (file : File) (s : Status) → IsParsed text file → ReadsTree file (Err s) → ReadsText text (Err s)
refused_tree text file status.Memory parsed h = tt
refused_tree text file s parsed h = unchecked_by text file s parsed h

-- a tree was read, and this is what it says
pub reads_tree : (text : List ℕ) (file : File) (r : Result Checked Status) → IsParsed text file → ReadsTree file r → ReadsText text r
reads_tree text file (Ok c) parsed is = (file, parsed, is)
reads_tree text file (Err s) parsed h = refused_tree text file s parsed h

-- ---- the file

-- the text of the query was read, and is a query
query_well : (told : Option Files) (query text : List ℕ) (c : Checked) → IfSome told (λ (files : Files). Stands most_source_bytes text (files query)) → ReadsText text (Ok c)
    → IfSome told (λ (files : Files). IsQueryIn false files query (Ok c))
query_well told query text c stands is = if_told told _ _ (λ files s. rw (readable_well place.Query most_source_bytes (files query) text s) is) stands

text_of_part : (text : List ℕ) (s : Status) → ReadsText text (Err s) → IsOfPart place.Query s
text_of_part text status.Memory h = tt
text_of_part text (status.Query why) h = tt
text_of_part text s h = absurd h

text_counts : (told_after : Option Files) (rose : Type 0) (text : List ℕ) (s : Status) → ReadsText text (Err s) → RoseWhere told_after rose s
text_counts told_after rose text status.Memory h = tt
text_counts told_after rose text (status.Query why) h = tt
text_counts told_after rose text s h = absurd h

said : (files : Files) (query text : List ℕ) (s : Status) → Stands most_source_bytes text (files query) → IsQuery text (Err s)
    → (s ≡ status.Memory) ⊎ ((fails : Bool) × (fails ≡ true → s ≡ status.Read place.Query reading.Failed) × IsQueryIn fails files query (Err s))
said files query text s stands is = inr (false, (λ (t : false ≡ true). absurd (cc t)), rw (readable_well place.Query most_source_bytes (files query) text stands) is)

text_due : (files : Files) (query text : List ℕ) (s : Status) → ReadsText text (Err s) → Stands most_source_bytes text (files query)
    → (s ≡ status.Memory) ⊎ ((fails : Bool) × (fails ≡ true → s ≡ status.Read place.Query reading.Failed) × IsQueryIn fails files query (Err s))
text_due files query text status.Memory is stands = inl refl
text_due files query text (status.Query (fault.Parse why)) is stands = said files query text _ stands is
text_due files query text (status.Query (fault.Schema why)) is stands = said files query text _ stands is
text_due files query text s is stands = absurd is

-- the text of the query was read, and is refused
query_refused : (told told_after : Option Files) (rose : Type 0) (query text : List ℕ) (s : Status) → IfSome told (λ (files : Files). Stands most_source_bytes text (files query)) → ReadsText text (Err s)
    → PartRefused told told_after rose place.Query (λ fails files. IsQueryIn fails files query) s
query_refused told told_after rose query text s stands is = record {
  of_part = text_of_part text s is;
  due = if_told told _ _ (λ files. text_due files query text s is) stands;
  count = text_counts told_after rose text s is;
}

-- the text of the query was read
pub reads_query : (told told_after : Option Files) (rose : Type 0) (query text : List ℕ) (r : Result Checked Status) → IfSome told (λ (files : Files). Stands most_source_bytes text (files query)) → ReadsText text r
    → ReadsQuery told told_after rose query r
reads_query told told_after rose query text (Ok c) stands is = query_well told query text c stands is
reads_query told told_after rose query text (Err s) stands is = query_refused told told_after rose query text s stands is
