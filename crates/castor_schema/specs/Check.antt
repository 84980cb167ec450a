-- What a query file means, or the first refusal.
use Rattle.std.specs.Prelude.{[], Result, Ok}
use Rattle.castor_tree.specs.declared.tree.File.{File}
use Rattle.castor_names.specs.Declarations.{declared}
use Rattle.castor_names.specs.Names.{plain_columns}
use Rattle.castor_names.specs.Turns.{and_then}
use Rattle.castor_names.specs.declared.declarations.Declarations.{Declarations}
use Rattle.castor_names.specs.declared.error.SchemaError.{SchemaError}
use Rattle.castor_operators.specs.Relations.{relation}
use Rattle.castor_operators.specs.declared.found.Found.{Found}
use Rattle.castor_schema.specs.declared.checked.Checked.{Checked}

-- the declarations in their order, then the query, in which no scope is in force and binders are numbered from 0
abbrev pub checked : File → Result Checked SchemaError
checked file =
    and_then (declared file.decls) (λ (known : Declarations).
    and_then (relation file.query known [] 0) (λ (found : Found).
    Ok (record { tables = known.tables; params = known.params; columns = plain_columns found.columns; query = found.query })))
