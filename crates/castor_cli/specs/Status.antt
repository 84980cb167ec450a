-- The number of each status, and the line that tells of it.
use Rattle.std.specs.Prelude.{ℕ, List, [], ◌∷◌, ◌++◌, codes, flat_map}
use Rattle.std.specs.Fmt.{decimal}
use Rattle.castor_load.specs.declared.error.LoadError.{LoadError}
use Rattle.castor_load.specs.declared.error.LoadError.TheVariants as load
use Rattle.castor_parse.specs.declared.query.ParseError.{ParseError}
use Rattle.castor_parse.specs.declared.query.ParseError.TheVariants as parse
use Rattle.castor_names.specs.declared.error.SchemaError.{SchemaError}
use Rattle.castor_names.specs.declared.error.SchemaError.TheVariants as schema
use Rattle.castor_script.specs.declared.step_error.StepError.TheVariants as step
use Rattle.castor_alg.specs.declared.stage_error.StageError.{StageError}
use Rattle.castor_alg.specs.declared.stage_error.StageError.TheVariants as stage
use Rattle.castor_cli.specs.declared.status.BuildFault.{BuildFault}
use Rattle.castor_cli.specs.declared.status.BuildFault.TheVariants as build
use Rattle.castor_cli.specs.declared.status.Place.{Place}
use Rattle.castor_cli.specs.declared.status.Place.TheVariants as place
use Rattle.castor_cli.specs.declared.status.QueryFault.{QueryFault}
use Rattle.castor_cli.specs.declared.status.QueryFault.TheVariants as query
use Rattle.castor_cli.specs.declared.status.ReadFault.{ReadFault}
use Rattle.castor_cli.specs.declared.status.ReadFault.TheVariants as fault
use Rattle.castor_cli.specs.declared.status.ScriptFault.{ScriptFault}
use Rattle.castor_cli.specs.declared.status.ScriptFault.TheVariants as script
use Rattle.castor_cli.specs.declared.status.Status.{Status}
use Rattle.castor_cli.specs.declared.status.Status.TheVariants as status
use Rattle.castor_cli.specs.Commands.{command_of, image_name, word}
use Rattle.castor_cli.specs.Faults.{kinds_text}

abbrev pub code_of : Status → ℕ
code_of status.Ok = 0
code_of status.Usage = 2
code_of (status.Read p why) = 3
code_of (status.Write p) = 4
code_of (status.Query why) = 5
code_of (status.Script why) = 6
code_of (status.Table i why) = 7
code_of status.Image = 8
code_of (status.Build why) = 9
code_of status.TooLong = 10
code_of status.Memory = 11
code_of status.NotYet = 12

-- the file of a table, by the table's name
abbrev pub table_file : List ℕ → List ℕ
table_file table = table ++ codes ".csv"

-- what a place is called: a file by its name, which the words or the query give
abbrev pub place_name : List (List ℕ) → List ℕ → Place → List ℕ
place_name words table place.Query = word words 1
place_name words table place.Script = word words 2
place_name words table (place.Table i) = table_file table
place_name words table place.Image = image_name (command_of words) words
place_name words table place.Input = codes "input"
place_name words table place.Output = codes "output"

-- pieces, one after another
abbrev pub in_a_row : List (List ℕ) → List ℕ
in_a_row pieces = flat_map (λ piece. piece) pieces

-- the line for a file that isn't the table
abbrev pub table_line : List ℕ → LoadError → List ℕ
table_line table load.BadHeader = in_a_row (codes "castor: table " ∷ table ∷ codes ": header\n" ∷ [])
table_line table (load.BadRecord number) = in_a_row (codes "castor: table " ∷ table ∷ codes ": record " ∷ decimal number ∷ codes "\n" ∷ [])
table_line table (load.BadField number column) = in_a_row (codes "castor: table " ∷ table ∷ codes ": record " ∷ decimal number ∷ codes " field " ∷ decimal column ∷ codes "\n" ∷ [])
table_line table load.Memory = codes "castor: memory\n"

-- the line for a text that isn't parsed
abbrev pub parse_line : ParseError → List ℕ
parse_line parse.NotUtf8 = codes "castor: query: not utf-8\n"
parse_line (parse.Syntax at) = in_a_row (codes "castor: query: syntax at " ∷ decimal at ∷ codes "\n" ∷ [])
parse_line parse.TooLarge = codes "castor: query: too large\n"
parse_line parse.Memory = codes "castor: memory\n"

-- the line for names, numbers and types that don't fit
abbrev pub schema_line : SchemaError → List ℕ
schema_line schema.UnknownTable = codes "castor: query: unknown table\n"
schema_line schema.UnknownColumn = codes "castor: query: unknown column\n"
schema_line schema.UnknownScope = codes "castor: query: unknown scope\n"
schema_line schema.UnknownParam = codes "castor: query: unknown parameter\n"
schema_line schema.Ambiguous = codes "castor: query: ambiguous\n"
schema_line schema.DuplicateName = codes "castor: query: duplicate name\n"
schema_line schema.TypeMismatch = codes "castor: query: type mismatch\n"
schema_line schema.WrongCount = codes "castor: query: wrong count\n"
schema_line schema.TooLarge = codes "castor: query: too large\n"
schema_line schema.Memory = codes "castor: memory\n"

-- the line for a query that is refused
abbrev pub query_line : QueryFault → List ℕ
query_line (query.Parse why) = parse_line why
query_line (query.Schema why) = schema_line why

-- the line for a script with a step that is refused
abbrev pub script_line : ScriptFault → List ℕ
script_line (script.Refused index step.TooLarge) = in_a_row (codes "castor: script: step " ∷ decimal index ∷ codes ": too large\n" ∷ [])
script_line (script.Refused index step.Memory) = codes "castor: memory\n"

-- the line for a part of a query that is computed too early or too late
abbrev pub stage_line : StageError → List ℕ
stage_line stage.TableAtRun = codes "castor: build: table at run\n"
stage_line stage.JoinAtRun = codes "castor: build: join at run\n"
stage_line stage.ParamAtBuild = codes "castor: build: parameter at build\n"
stage_line stage.RunScopeAtBuild = codes "castor: build: run scope at build\n"
stage_line stage.BuildScopeAtRun = codes "castor: build: build scope at run\n"

-- the line for a query of which no database is built
abbrev pub build_line : BuildFault → List ℕ
build_line build.OrderLost = codes "castor: build: order lost\n"
build_line (build.Stage why) = stage_line why
build_line (build.Faults f) = in_a_row (codes "castor: build: faults " ∷ kinds_text f ∷ codes "\n" ∷ [])
build_line build.TooLarge = codes "castor: build: image too large\n"

abbrev pub fault_end : ReadFault → List ℕ
fault_end fault.Absent = codes ": absent\n"
fault_end fault.TooLong = codes ": too long\n"
fault_end fault.Failed = codes ": failed\n"

-- the line that tells of a status, by the words and the name of the table that it may speak of: none for Ok
abbrev pub error_text : List (List ℕ) → List ℕ → Status → List ℕ
error_text words table status.Ok = []
error_text words table status.Usage = codes "castor: usage: answer QUERY SCRIPT, build QUERY SCRIPT IMAGE, ask IMAGE, show QUERY SCRIPT, code IMAGE, sample N\n"
error_text words table (status.Read p why) = codes "castor: read " ++ place_name words table p ++ fault_end why
error_text words table (status.Write p) = codes "castor: write " ++ place_name words table p ++ codes ": failed\n"
error_text words table (status.Query why) = query_line why
error_text words table (status.Script why) = script_line why
error_text words table (status.Table i why) = table_line table why
error_text words table status.Image = codes "castor: image: not an image\n"
error_text words table (status.Build why) = build_line why
error_text words table status.TooLong = codes "castor: input: too long\n"
error_text words table status.Memory = codes "castor: memory\n"
error_text words table status.NotYet = codes "castor: not yet\n"
