-- What a grammar sees of a token: the name, the number or the text that it stands for.
use Rattle.std.specs.Prelude.{◌≡◌, ◌≤◌, ◌^◌, Option, Some, None, ℕ, ◌+◌, ◌-◌, ◌*◌, ◌==◌, ◌&&◌, Bool, false, if◌then◌else◌, List, [], ◌∷◌, map, fold, take, drop}
use Rattle.castor_tokens.specs.declared.token.Keyword.{Keyword}
use Rattle.castor_tokens.specs.declared.token.Symbol.{Symbol}
use Rattle.castor_tokens.specs.declared.token.Span.{Span}
use Rattle.castor_tokens.specs.declared.token.Kind.{Kind}
use Rattle.castor_tokens.specs.declared.token.Kind.TheVariants as kind
use Rattle.castor_tokens.specs.declared.token.Token.{Token}
use Rattle.castor_tree.specs.declared.tree.Word.{Word}
use Rattle.castor_tokens.specs.Tokens.{Bytes, quote}

pub data Lexeme : Type 0 where
  -- a name, and where it stands
  name : Word → Lexeme
  -- the number that digits spell
  int : ℕ → Lexeme
  -- the text that a text literal stands for
  text : Bytes → Lexeme
  keyword : Keyword → Lexeme
  symbol : Symbol → Lexeme

abbrev pub Lexemes : Type 0
Lexemes = List Lexeme

-- the bytes of a text at a span
abbrev pub slice : Bytes → Span → Bytes
slice z at = take (at.to - at.from) (drop at.from z)

-- the number that digits spell
abbrev pub number_of : Bytes → ℕ
number_of digits = fold (λ n b. 10 * n + (b - 48)) 0 digits

-- a number where it is below 2^64
abbrev pub IsNumber : ℕ → Option ℕ → Type 0
IsNumber number None = 2 ^ 64 ≤ number
IsNumber number (Some n) = n ≡ number

-- A text with one quote for each two. The flag says that the byte before was the first of two.
abbrev pub undoubled_from : Bool → Bytes → Bytes
undoubled_from was_quote [] = []
undoubled_from was_quote (b ∷ z) = if was_quote && b == quote then undoubled_from false z else b ∷ undoubled_from (b == quote) z

-- what stands between quotes, with one quote for each two
abbrev pub undoubled : Bytes → Bytes
undoubled z = undoubled_from false z

-- what stands between the quotes of a text literal
abbrev pub inside : Span → Span
inside at = record { from = at.from + 1; to = at.to - 1 }

abbrev pub word_at : Bytes → Span → Word
word_at z at = record { text = slice z at; span = at }

-- what a token of a kind stands for
abbrev pub lexeme_of : Bytes → Kind → Span → Lexeme
lexeme_of z kind.Name at = name (word_at z at)
lexeme_of z kind.Int at = int (number_of (slice z at))
lexeme_of z kind.Text at = text (undoubled (slice z (inside at)))
lexeme_of z (kind.Keyword k) at = keyword k
lexeme_of z (kind.Symbol s) at = symbol s

-- what the tokens of a text stand for
abbrev pub lexemes : Bytes → List Token → Lexemes
lexemes z ts = map (λ t. lexeme_of z t.kind t.span) ts
