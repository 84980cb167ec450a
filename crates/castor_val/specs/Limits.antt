-- The limits of the language and of what is stored, each with one meaning.
use Rattle.std.specs.Prelude.{ℕ, ◌-◌, ◌^◌}

-- the greatest number of bytes of a text value
abbrev pub most_text_bytes : ℕ
most_text_bytes = 65535

-- the greatest number of bytes of a name
abbrev pub most_name_bytes : ℕ
most_name_bytes = 64

-- the greatest number of columns of a table or relation
abbrev pub most_columns : ℕ
most_columns = 64

-- the greatest number of keys that rows are sorted by
abbrev pub most_sorting_keys : ℕ
most_sorting_keys = 65535

-- the greatest number of key columns of a hash index
abbrev pub most_hash_columns : ℕ
most_hash_columns = 4

-- the greatest number of tables of a query
abbrev pub most_tables : ℕ
most_tables = 16

-- the greatest number of parameters of a query
abbrev pub most_params : ℕ
most_params = 16

-- the greatest number of nodes of a query, relations and expressions together
abbrev pub most_query_nodes : ℕ
most_query_nodes = 4096

-- the greatest number of nodes of a code, codes and expressions together
abbrev pub most_code_nodes : ℕ
most_code_nodes = 8192

-- the greatest depth of a query or a code
abbrev pub most_depth : ℕ
most_depth = 64

-- the greatest number of bytes of a query or a script
abbrev pub most_source_bytes : ℕ
most_source_bytes = 1048576

-- the greatest number of bytes of a table or an image
abbrev pub most_file_bytes : ℕ
most_file_bytes = 268435456

-- the greatest number of bytes of the input
abbrev pub most_input_bytes : ℕ
most_input_bytes = 67108864

-- where counts stop, which 64 bits hold just so
abbrev pub most_count : ℕ
most_count = 2 ^ 64 - 1
