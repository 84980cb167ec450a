-- The fields and texts that are read to answer with stored data.
use Rattle.std.specs.Prelude.{ℕ, ◌+◌, ◌*◌, List, [], ◌∷◌, map, filter, sum, length, ◌==◌, Bool, if◌then◌else◌, Option, Some, None, Result, Ok, Err}
use Rattle.castor_val.specs.declared.value.Value.{Value}
use Rattle.castor_val.specs.declared.fault.Faults.{Faults}
use Rattle.castor_val.specs.declared.row.Row.{Row}
use Rattle.castor_val.specs.Values.{same_row}
use Rattle.castor_alg.specs.declared.held.Entry.{Entry}
use Rattle.castor_alg.specs.declared.held.Held.{Held}
use Rattle.castor_alg.specs.Expression.{expr_values}
use Rattle.castor_alg.specs.Indexes.{lower, upper}
use Rattle.castor_alg.specs.Scopes.{Scopes, bind}
use Rattle.castor_fixed.specs.Digits.{bits}
use Rattle.castor_dir.specs.Buckets.{bucket, bucket_count}
use Rattle.castor_dir.specs.Hashing.{hash_of}
use Rattle.castor_code.specs.declared.code.Code.{Code, fold-Code}
use Rattle.castor_code.specs.declared.code.Code.TheFolds.{map-Code}
use Rattle.castor_code.specs.declared.code.Code.TheOpen.{Code-F}
use Rattle.castor_code.specs.declared.code.Code.TheOpen as code
use Rattle.castor_code.specs.Directories.{bucket_of}
use Rattle.castor_code.specs.LayoutMeaning.{CodeMeaning, layout_step, all_in, entries_within}
use Rattle.castor_code.specs.Shapes.{parts_of, rows_of, keyed_of, inner_of}
use Rattle.castor_code.specs.Skips.{skip_step}

-- how many reads it takes, of what is held, the environment and the parameters
abbrev pub Counting : Type 0
Counting = Held → Scopes → Row → ℕ

-- what a code means, the reads to skip its data, those of a value where the code is that of a key's column,
-- and those to answer
pub record Reading : Type 0 where
  pub meaning : CodeMeaning
  pub skip : ℕ
  pub column : ℕ
  pub reads : Counting

abbrev pub column_step : Code-F Reading → ℕ
column_step (code.Int lo hi) = 1
column_step code.Bool = 1
column_step (code.Text min max) = 2
column_step (code.Cross ks) = 0
column_step (code.Concat ks) = 0
column_step (code.List count body kid) = 0
column_step (code.Hash count body key kid by) = 0
column_step (code.Ord count body key kid lo hi) = 0
column_step (code.Select es kid) = 0
column_step (code.Filter e kid) = 0
column_step (code.Dep k first second) = 0
column_step (code.Group ks aggs kid) = 0
column_step (code.Order ks kid) = 0
column_step (code.Dedup kid) = 0

-- the reads of a whole key
abbrev pub key_reads : List Reading → ℕ
key_reads ks = sum (map (λ (k : Reading). k.column) ks)

abbrev pub reads_of_parts : List Reading → List Held → Scopes → Row → ℕ
reads_of_parts [] hs env params = 0
reads_of_parts (k ∷ ks) [] env params = 0
reads_of_parts (k ∷ ks) (h ∷ hs) env params = k.reads h env params + reads_of_parts ks hs env params

abbrev pub reads_of_inner : Reading → Option Held → Scopes → Row → ℕ
reads_of_inner kid (Some h) env params = kid.reads h env params
reads_of_inner kid None env params = 0

-- the entries of a bucket in turn: past each that has another key, up to the child under the key
abbrev pub reads_of_bucket : ℕ → Reading → List Entry → Row → Scopes → Row → ℕ
reads_of_bucket column kid [] key env params = 0
reads_of_bucket column kid (e ∷ es) key env params = if same_row key e.key then column + kid.reads e.kid env params else (column + kid.skip) + reads_of_bucket column kid es key env params

-- the entries of the bucket that a key falls into
abbrev pub bucket_for : Row → List Entry → List Entry
bucket_for key es = filter (λ (e : Entry). bucket_of (bucket_count (length es)) e == bucket (hash_of key) (bucket_count (length es))) es

abbrev pub reads_of_hash : ℕ → Reading → List Entry → Result Row Faults → Scopes → Row → ℕ
reads_of_hash column kid es (Ok key) env params = 4 + reads_of_bucket column kid (bucket_for key es) key env params
reads_of_hash column kid es (Err f) env params = 4

-- two searches by halves, then each entry within the bounds
abbrev pub reads_of_range : ℕ → Reading → List Entry → Result (Value → Bool) Faults → Result (Value → Bool) Faults → Scopes → Row → ℕ
reads_of_range column kid es (Ok from) (Ok to) env params = 4 + ((2 * bits (length es)) * (1 + column) + sum (map (λ (e : Entry). (1 + column) + kid.reads e.kid env params) (entries_within from to es)))
reads_of_range column kid es (Ok from) (Err f) env params = 4
reads_of_range column kid es (Err f) (Ok to) env params = 4
reads_of_range column kid es (Err f) (Err g) env params = 4

-- the first, past the second, and the second under each row of the first
abbrev pub reads_of_dep : ℕ → Reading → Reading → List Held → Scopes → Row → ℕ
reads_of_dep k first second [] env params = 0
reads_of_dep k first second (h ∷ []) env params = 0
reads_of_dep k first second (h ∷ g ∷ []) env params = first.reads h env params + (second.skip + sum (map (λ (row : Row). second.reads g (bind env k row) params) (first.meaning h env params).rows))
reads_of_dep k first second (h ∷ g ∷ f ∷ hs) env params = 0

abbrev pub reads_step : Code-F Reading → Counting
reads_step (code.Int lo hi) h env params = 1
reads_step code.Bool h env params = 1
reads_step (code.Text min max) h env params = 2
reads_step (code.Cross ks) h env params = reads_of_parts ks (all_in (parts_of h)) env params
reads_step (code.Concat ks) h env params = reads_of_parts ks (all_in (parts_of h)) env params
reads_step (code.List count body kid) h env params = 2 + sum (map (λ (row : Held). kid.reads row env params) (all_in (rows_of h)))
reads_step (code.Hash count body key kid by) h env params = reads_of_hash (key_reads key) kid (all_in (keyed_of h)) (expr_values by [] env params) env params
reads_step (code.Ord count body key kid lo hi) h env params = reads_of_range (key_reads (key ∷ [])) kid (all_in (keyed_of h)) (lower lo env params) (upper hi env params) env params
reads_step (code.Select es kid) h env params = reads_of_inner kid (inner_of h) env params
reads_step (code.Filter e kid) h env params = reads_of_inner kid (inner_of h) env params
reads_step (code.Dep k first second) h env params = reads_of_dep k first second (all_in (parts_of h)) env params
reads_step (code.Group ks aggs kid) h env params = reads_of_inner kid (inner_of h) env params
reads_step (code.Order ks kid) h env params = reads_of_inner kid (inner_of h) env params
reads_step (code.Dedup kid) h env params = reads_of_inner kid (inner_of h) env params

-- one node, over its kids
abbrev pub reading_step : Code-F Reading → Reading
reading_step layer = record {
  meaning = layout_step (map-Code Reading CodeMeaning (λ (r : Reading). r.meaning) layer);
  skip = skip_step (map-Code Reading ℕ (λ (r : Reading). r.skip) layer);
  column = column_step layer;
  reads = reads_step layer;
}

-- the number of reads to answer with held data under a code, an environment and parameters
abbrev pub reads : Code → Counting
reads c = (fold-Code Reading reading_step c).reads
