-- What the text of a query file says: a checked query, or a refusal.
use Rattle.std.specs.Prelude.{◌≡◌, ◌⊎◌, ℕ, List, Result, Ok, Err}
use Rattle.castor_parse.specs.declared.query.ParseError.{ParseError}
use Rattle.castor_parse.specs.declared.query.ParseError.TheVariants as parse
use Rattle.castor_tree.specs.declared.tree.File.{File}
use Rattle.castor_parse.specs.Parsed.{IsParsed, IsRefused}
use Rattle.castor_schema.specs.declared.checked.Checked.{Checked}
use Rattle.castor_names.specs.declared.error.SchemaError.{SchemaError}
use Rattle.castor_names.specs.declared.error.SchemaError.TheVariants as schema
use Rattle.castor_schema.specs.Check.{checked}
use Rattle.castor_cli.specs.declared.status.QueryFault.TheVariants as fault
use Rattle.castor_cli.specs.declared.status.Status.{Status}
use Rattle.castor_cli.specs.declared.status.Status.TheVariants as status

-- the text is parsed, and its file is checked with this outcome
abbrev pub ChecksTo : List ℕ → Result Checked SchemaError → Type 0
ChecksTo text outcome = (file : File) × IsParsed text file × (checked file ≡ outcome)

-- the text isn't parsed for this reason
abbrev pub IsUnparsed : List ℕ → ParseError → Type 0
IsUnparsed text parse.Memory = ⊥
IsUnparsed text why = IsRefused text why

-- the text is parsed, and its file is refused for this reason, the first in the order of the checks
abbrev pub IsUnchecked : List ℕ → SchemaError → Type 0
IsUnchecked text schema.Memory = ⊥
IsUnchecked text why = ChecksTo text (Err why)

-- what a text says
abbrev pub IsQuery : List ℕ → Result Checked Status → Type 0
IsQuery text (Ok c) = ChecksTo text (Ok c)
IsQuery text (Err (status.Query (fault.Parse why))) = IsUnparsed text why
IsQuery text (Err (status.Query (fault.Schema why))) = IsUnchecked text why
IsQuery text (Err s) = ⊥

-- the status of a text that isn't parsed
abbrev pub is_unparsed : ParseError → Status
is_unparsed parse.Memory = status.Memory
is_unparsed why = status.Query (fault.Parse why)

-- the status of a file that is refused
abbrev pub is_unchecked : SchemaError → Status
is_unchecked schema.Memory = status.Memory
is_unchecked why = status.Query (fault.Schema why)

-- why no tree was read
abbrev pub Unparsed : List ℕ → Status → Type 0
Unparsed text s = (why : ParseError) × (s ≡ is_unparsed why) × IsRefused text why

-- what a tree says, or want of memory
abbrev pub ReadsTree : File → Result Checked Status → Type 0
ReadsTree file (Ok c) = checked file ≡ Ok c
ReadsTree file (Err s) = (why : SchemaError) × (s ≡ is_unchecked why) × ((why ≡ schema.Memory) ⊎ (checked file ≡ Err why))

-- what reading a text gives: what it says, or want of memory
abbrev pub ReadsText : List ℕ → Result Checked Status → Type 0
ReadsText text (Ok c) = IsQuery text (Ok c)
ReadsText text (Err status.Memory) = Unit {0}
ReadsText text (Err s) = IsQuery text (Err s)
