use Rattle.std.proofs.Common.{◌≡◌, fold, map, take}
use Rattle.castor_val.specs.Values.{column, value_of}
use Rattle.castor_alg.specs.Groups as groups
use Rattle.castor_reader.specs.Answers.{row_behind}
use Rattle.castor_reader.proofs.aggregate.greatest.Given as goal

abbrev pub invariant-loop-row : goal.invariant-loop-row
invariant-loop-row l = value_of l.greatest ≡ fold groups.greater (value_of l.initial.greatest) (map (λ row. column row l.at) (map row_behind (take l.row-index l.rest)))
