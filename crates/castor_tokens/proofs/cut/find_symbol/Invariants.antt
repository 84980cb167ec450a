use Rattle.std.proofs.Common.{◌≡◌, drop}
use Rattle.std.specs.Prelude.{find, nat_eq}
use Rattle.std.specs.List.{starts_with}
use Rattle.castor_tokens.specs.Tokens.{symbol_spelling}
use Rattle.castor_tokens.proofs.cut.find_symbol.Given as goal

abbrev pub invariant-loop-symbol : goal.invariant-loop-symbol
invariant-loop-symbol l = find (λ s. starts_with nat_eq l.z (symbol_spelling s)) l.all ≡ find (λ s. starts_with nat_eq l.z (symbol_spelling s)) (drop l.symbol-index l.all)
