-- The form of names, and what a table that is declared keeps to.
use Rattle.std.specs.Prelude.{ℕ, List, [], ◌∷◌, map, length, Bool, true, ◌&&◌, ◌||◌, ◌==◌, not, nat_lt, nat_le, slice_index}
use Rattle.std.specs.Char.{is_ascii_alphabetic, is_ascii_alphanumeric}
use Rattle.std.specs.List.{list_all, list_any}
use Rattle.std.specs.Str.{bytes_eq}
use Rattle.castor_val.specs.Limits.{most_columns, most_name_bytes}
use Rattle.castor_val.specs.declared.column.Column.{Column}
use Rattle.castor_names.specs.declared.table.Declared.{Declared}

-- no two of a list have one name
abbrev pub are_distinct : List (List ℕ) → Bool
are_distinct [] = true
are_distinct (name ∷ rest) = not (list_any (bytes_eq name) rest) && are_distinct rest

-- 1 to 64 columns, with names of their own
abbrev pub is_table : Declared → Bool
is_table t = (nat_lt 0 (length t.columns) && nat_le (length t.columns) most_columns) && are_distinct (map (λ (c : Column). c.name) t.columns)

-- a letter or `_`
abbrev pub begins_name : ℕ → Bool
begins_name b = is_ascii_alphabetic b || b == 95

-- a letter, a digit or `_`
abbrev pub continues_name : ℕ → Bool
continues_name b = is_ascii_alphanumeric b || b == 95

-- a letter or `_`, then letters, digits and `_`, in all 1 to 64 bytes
abbrev pub has_name_form : List ℕ → Bool
has_name_form name = begins_name (slice_index name 0) && (list_all continues_name name && (nat_lt 0 (length name) && nat_le (length name) most_name_bytes))

-- the columns have names of this form
abbrev pub are_names : List Column → Bool
are_names columns = list_all (λ (c : Column). has_name_form c.name) columns

-- a table and its columns have names of this form
abbrev pub is_table_named : Declared → Bool
is_table_named t = has_name_form t.name && are_names t.columns
