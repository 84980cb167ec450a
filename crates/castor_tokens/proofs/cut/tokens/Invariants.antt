use Rattle.std.proofs.Common.{◌≡◌, ◌-◌, ◌≤◌, length, drop}
use Rattle.std.specs.Prelude.{All}
use Rattle.castor_tokens.specs.Cut.{Stands, AreInOrder}
use Rattle.castor_tokens.specs.Tokens.{tokens_of, tokens_from}
use Rattle.castor_tokens.proofs.TokenLaws.{after}
use Rattle.castor_tokens.proofs.cut.tokens.Given as goal

-- the tokens so far and those of what is left are those of the text
abbrev pub invariant-cut : goal.invariant-cut
invariant-cut l = record {
  all : tokens_of l.text ≡ after l.tokens.items (tokens_from l.at 0 (drop l.at l.text));
  order : AreInOrder 0 l.at l.tokens.items;
  stand : All (Stands l.text) l.tokens.items;
  within : l.at ≤ length l.text;
}

abbrev pub decreases-cut : goal.decreases-cut
decreases-cut l = length l.text - l.at
