-- The fields that are read to find where data ends.
use Rattle.std.specs.Prelude.{ℕ, ◌+◌, sum}
use Rattle.castor_code.specs.declared.code.Code.{Code, fold-Code}
use Rattle.castor_code.specs.declared.code.Code.TheOpen.{Code-F}
use Rattle.castor_code.specs.declared.code.Code.TheOpen as code

-- one node, over the numbers of its kids: a text's length is read, the body length of children and entries,
-- and for the directory of an index the count too
abbrev pub skip_step : Code-F ℕ → ℕ
skip_step (code.Int lo hi) = 0
skip_step code.Bool = 0
skip_step (code.Text min max) = 1
skip_step (code.Cross ks) = sum ks
skip_step (code.Concat ks) = sum ks
skip_step (code.List count body kid) = 1
skip_step (code.Hash count body key kid by) = 2
skip_step (code.Ord count body key kid lo hi) = 2
skip_step (code.Select es kid) = kid
skip_step (code.Filter e kid) = kid
skip_step (code.Dep k first second) = first + second
skip_step (code.Group ks aggs kid) = kid
skip_step (code.Order ks kid) = kid
skip_step (code.Dedup kid) = kid

-- the fields that are read to find where the data of a code ends
abbrev pub skip : Code → ℕ
skip c = fold-Code ℕ skip_step c
