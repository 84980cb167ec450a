-- The column types of codes, under a context that is within limits.
use Rattle.std.specs.Prelude.{List, Option, Some, None, option_and_then, if◌then◌else◌}
use Rattle.std.specs.List.{flat_map}
use Rattle.castor_val.specs.declared.value.Ty.{Ty}
use Rattle.castor_alg.specs.Typing.{RelTyping, are_hash_keys, within_limits}
use Rattle.castor_code.specs.declared.code.Code.{Code, fold-Code}
use Rattle.castor_code.specs.CodeTyping.{code_types_step}

abbrev pub types_under : Code → RelTyping
types_under c = fold-Code RelTyping code_types_step c

-- the types of the codes of a key appended, where each has some
abbrev pub key_types : Option (List (List Ty)) → Option (List Ty)
key_types operands = option_and_then (λ all. within_limits (Some (flat_map (λ types. types) all))) operands

-- the types of the kid, where what is looked up has those of the key
abbrev pub looked_up : List Ty → Option (List Ty) → Option (List Ty) → Option (List Ty)
looked_up columns None kid = None
looked_up columns (Some keys) kid = if are_hash_keys columns (Some keys) then kid else None
