use Rattle.castor_laws.proofs.PermutationLaws.{permutes-IsPermutation}
use Rattle.castor_laws.proofs.operators.permuted_is_permutation.Goals as goal

pub returns : goal.returns
returns c = λ rows others permuted. permutes-IsPermutation permuted
