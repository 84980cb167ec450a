-- What a parser shows, and what it keeps true.
use Rattle.std.specs.Prelude.{All, IsUtf8}
use Rattle.castor_parse.specs.declared.parser.Parser.TheInside.{Inside}
use Rattle.castor_tokens.specs.Cut.{Stands}
use Rattle.castor_parse.specs.Lexemes.{lexemes}
use Rattle.castor_parse.specs.Parser.{State}

abbrev pub state_of : Inside → State
state_of p = record { rest = lexemes p.text.now p.tokens.now; budget = p.budget }

-- the text is UTF-8, and the tokens stand in it
pub record IsReady (p : Inside) : Type 0 where
  pub utf8 : IsUtf8 p.text.now
  pub stand : All (Stands p.text.now) p.tokens.now
