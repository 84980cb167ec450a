use Rattle.std.proofs.Common.{◌≡◌, drop}
use Rattle.std.specs.Prelude.{find}
use Rattle.std.specs.Str.{bytes_eq}
use Rattle.castor_tokens.specs.Tokens.{keyword_spelling}
use Rattle.castor_tokens.proofs.cut.find_keyword.Given as goal

abbrev pub invariant-loop-keyword : goal.invariant-loop-keyword
invariant-loop-keyword l = find (λ k. bytes_eq (keyword_spelling k) l.word) l.all ≡ find (λ k. bytes_eq (keyword_spelling k) l.word) (drop l.keyword-index l.all)
