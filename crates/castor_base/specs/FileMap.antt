-- The files of a map from names to bytes.
use Rattle.std.specs.Prelude.{ℕ, List, Option, option_map}
use Rattle.std.specs.declared.string.String.{String}
use Rattle.std.specs.declared.vec.Vec.{Vec}
use Rattle.std.specs.declared.alloc.Global.{Global}
use Rattle.std.specs.BTreeMap.{BTreeMap, get_by_text}

-- the bytes under a name, if it has some
abbrev pub file_of : BTreeMap (String Global) (Vec ℕ Global) → List ℕ → Option (List ℕ)
file_of files name = option_map (λ v. v.items) (get_by_text files name)
