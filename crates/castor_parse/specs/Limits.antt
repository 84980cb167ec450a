-- The limits of tokens.
use Rattle.std.specs.Prelude.{ℕ, ◌+◌, ◌-◌, Bool, true, ◌&&◌, nat_le, [], ◌∷◌, length}
use Rattle.std.specs.List.{list_all}
use Rattle.castor_val.specs.Limits.{most_name_bytes, most_text_bytes}
use Rattle.castor_tokens.specs.declared.token.Keyword.TheVariants.{Not}
use Rattle.castor_tokens.specs.declared.token.Symbol.TheVariants.{OpenParen, CloseParen, OpenBracket, CloseBracket}
use Rattle.castor_parse.specs.Lexemes.{Lexeme, name, int, text, keyword, symbol, Lexemes}

-- a name has at most 64 bytes, and a text literal at most 65,535 bytes after its quotes are undone
abbrev pub is_short : Lexeme → Bool
is_short (name w) = nat_le (length w.text) most_name_bytes
is_short (int n) = true
is_short (text z) = nat_le (length z) most_text_bytes
is_short (keyword k) = true
is_short (symbol s) = true

-- How many parentheses and brackets are open after a token, where so many were before it. A closing one
-- closes one opening one of either kind, and nothing where none is open.
abbrev pub opened : ℕ → Lexeme → ℕ
opened n (symbol OpenParen) = n + 1
opened n (symbol OpenBracket) = n + 1
opened n (symbol CloseParen) = n - 1
opened n (symbol CloseBracket) = n - 1
opened n t = n

-- at most 256 are open at each place, where so many are open before
abbrev pub are_few_open : ℕ → Lexemes → Bool
are_few_open n [] = true
are_few_open n (t ∷ ts) = nat_le (opened n t) 256 && are_few_open (opened n t) ts

-- how many `not` stand one after another up to a token, where so many did before it
abbrev pub repeated : ℕ → Lexeme → ℕ
repeated nots (keyword Not) = nots + 1
repeated nots t = 0

-- at most 64 stand one after another, where so many did before
abbrev pub are_few_nots : ℕ → Lexemes → Bool
are_few_nots nots [] = true
are_few_nots nots (t ∷ ts) = nat_le (repeated nots t) 64 && are_few_nots (repeated nots t) ts

-- the tokens are within all limits
abbrev pub are_within_limits : Lexemes → Bool
are_within_limits ts = nat_le (length ts) 65536 && (list_all is_short ts && (are_few_open 0 ts && are_few_nots 0 ts))
