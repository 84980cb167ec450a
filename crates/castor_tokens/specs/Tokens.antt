-- The tokens of a text. At each place the longest token or blank that begins there is cut off.
use Rattle.std.specs.Prelude.{ℕ, zero, suc, ◌+◌, ◌-◌, ◌==◌, Bool, true, false, not, ◌&&◌, ◌||◌, if◌then◌else◌, List, [], ◌∷◌, length, take, drop, slice_index, Option, Some, None, nat_eq, find, is_none, codes}
use Rattle.std.specs.Char.{is_ascii_digit, is_ascii_alphabetic, is_ascii_alphanumeric}
use Rattle.std.specs.List.{list_all, prefix_len, starts_with}
use Rattle.std.specs.Option.{option_map}
use Rattle.std.specs.Str.{bytes_eq}
use Rattle.castor_tokens.specs.declared.token.Keyword.{Keyword}
use Rattle.castor_tokens.specs.declared.token.Keyword.TheVariants as word
use Rattle.castor_tokens.specs.declared.token.Symbol.{Symbol}
use Rattle.castor_tokens.specs.declared.token.Symbol.TheVariants as sign
use Rattle.castor_tokens.specs.declared.token.Kind.{Kind}
use Rattle.castor_tokens.specs.declared.token.Kind.TheVariants as kind
use Rattle.castor_tokens.specs.declared.token.Token.{Token}
use Rattle.castor_tokens.specs.declared.cut.Class.{Class}
use Rattle.castor_tokens.specs.declared.cut.Class.TheVariants as class
use Rattle.castor_tokens.specs.declared.cut.Piece.{Piece}
use Rattle.castor_tokens.specs.declared.cut.Piece.TheVariants as piece

-- the bytes of a text
abbrev pub Bytes : Type 0
Bytes = List ℕ

-- how a reserved word is written
unfoldable pub keyword_spelling : Keyword → Bytes
keyword_spelling word.Table = codes "table"
keyword_spelling word.Param = codes "param"
keyword_spelling word.Query = codes "query"
keyword_spelling word.Int = codes "int"
keyword_spelling word.Bool = codes "bool"
keyword_spelling word.Text = codes "text"
keyword_spelling word.Dec = codes "dec"
keyword_spelling word.Scalar = codes "scalar"
keyword_spelling word.Cross = codes "cross"
keyword_spelling word.Concat = codes "concat"
keyword_spelling word.Select = codes "select"
keyword_spelling word.Filter = codes "filter"
keyword_spelling word.Join = codes "join"
keyword_spelling word.Depjoin = codes "depjoin"
keyword_spelling word.Groupby = codes "groupby"
keyword_spelling word.Orderby = codes "orderby"
keyword_spelling word.Dedup = codes "dedup"
keyword_spelling word.List = codes "list"
keyword_spelling word.Hash = codes "hash"
keyword_spelling word.Ordered = codes "ordered"
keyword_spelling word.As = codes "as"
keyword_spelling word.And = codes "and"
keyword_spelling word.Or = codes "or"
keyword_spelling word.Not = codes "not"
keyword_spelling word.If = codes "if"
keyword_spelling word.True = codes "true"
keyword_spelling word.False = codes "false"
keyword_spelling word.Asc = codes "asc"
keyword_spelling word.Desc = codes "desc"
keyword_spelling word.Count = codes "count"
keyword_spelling word.Sum = codes "sum"
keyword_spelling word.Min = codes "min"
keyword_spelling word.Max = codes "max"
keyword_spelling word.Any = codes "any"

-- how a symbol is written
unfoldable pub symbol_spelling : Symbol → Bytes
symbol_spelling sign.Ne = codes "!="
symbol_spelling sign.Le = codes "<="
symbol_spelling sign.Ge = codes ">="
symbol_spelling sign.OpenParen = codes "("
symbol_spelling sign.CloseParen = codes ")"
symbol_spelling sign.OpenBracket = codes "["
symbol_spelling sign.CloseBracket = codes "]"
symbol_spelling sign.Comma = codes ","
symbol_spelling sign.Semicolon = codes ";"
symbol_spelling sign.Dot = codes "."
symbol_spelling sign.Dollar = codes "$"
symbol_spelling sign.Hash = codes "#"
symbol_spelling sign.Eq = codes "="
symbol_spelling sign.Lt = codes "<"
symbol_spelling sign.Gt = codes ">"
symbol_spelling sign.Plus = codes "+"
symbol_spelling sign.Minus = codes "-"
symbol_spelling sign.Star = codes "*"
symbol_spelling sign.Slash = codes "/"
symbol_spelling sign.Percent = codes "%"

-- the reserved words
abbrev pub keywords : List Keyword
keywords = word.Table ∷ word.Param ∷ word.Query ∷ word.Int ∷ word.Bool ∷ word.Text ∷ word.Dec ∷ word.Scalar ∷ word.Cross ∷ word.Concat ∷ word.Select ∷ word.Filter ∷ word.Join ∷ word.Depjoin ∷ word.Groupby ∷ word.Orderby ∷ word.Dedup ∷ word.List ∷ word.Hash ∷ word.Ordered ∷ word.As ∷ word.And ∷ word.Or ∷ word.Not ∷ word.If ∷ word.True ∷ word.False ∷ word.Asc ∷ word.Desc ∷ word.Count ∷ word.Sum ∷ word.Min ∷ word.Max ∷ word.Any ∷ []

-- the symbols, the longest first
abbrev pub symbols : List Symbol
symbols = sign.Ne ∷ sign.Le ∷ sign.Ge ∷ sign.OpenParen ∷ sign.CloseParen ∷ sign.OpenBracket ∷ sign.CloseBracket ∷ sign.Comma ∷ sign.Semicolon ∷ sign.Dot ∷ sign.Dollar ∷ sign.Hash ∷ sign.Eq ∷ sign.Lt ∷ sign.Gt ∷ sign.Plus ∷ sign.Minus ∷ sign.Star ∷ sign.Slash ∷ sign.Percent ∷ []

-- the reserved word that is written so
unfoldable pub keyword_of : Bytes → Option Keyword
keyword_of spelled = find (λ k. bytes_eq (keyword_spelling k) spelled) keywords

-- the first symbol that the text begins with
unfoldable pub symbol_of : Bytes → Option Symbol
symbol_of z = find (λ s. starts_with nat_eq z (symbol_spelling s)) symbols

-- the bytes that make white space, that names and reserved words go on with, that make an int, and that a
-- comment goes on with
abbrev pub is_in : Class → ℕ → Bool
is_in class.Space b = b == 32 || b == 9 || b == 13 || b == 10
is_in class.Word b = is_ascii_alphanumeric b || b == 95
is_in class.Digit b = is_ascii_digit b
is_in class.Line b = not (b == 10)

-- a byte that a name or a reserved word begins with
abbrev pub begins_word : ℕ → Bool
begins_word b = is_ascii_alphabetic b || b == 95

-- how many bytes of a class there are at the front
abbrev pub run : Class → Bytes → ℕ
run c z = prefix_len (is_in c) z

-- the single quote
abbrev pub quote : ℕ
quote = 39

-- a letter or `_`, and then letters, digits and `_`; no reserved word
abbrev pub is_name : Bytes → Bool
is_name z = begins_word (slice_index z 0) && (list_all (is_in class.Word) z && is_none (keyword_of z))

-- what a word is: a reserved word or a name
abbrev pub word_kind : Option Keyword → Kind
word_kind (Some k) = kind.Keyword k
word_kind None = kind.Name

-- the length of a text literal of which `at` bytes were passed, before its bytes z. Two quotes don't close
-- it; the flag says that the last byte was the first of two.
abbrev pub literal_end : Bool → ℕ → Bytes → Option ℕ
literal_end is_second at [] = None
literal_end true at (b ∷ z) = literal_end false (at + 1) z
literal_end false at (b ∷ z) = if b == quote && not (slice_index z 0 == quote) then Some (at + 1) else literal_end (b == quote) (at + 1) z

abbrev pub literal_piece : Option ℕ → Piece
literal_piece None = piece.Unclosed
literal_piece (Some len) = piece.Token kind.Text len

abbrev pub symbol_piece : Option Symbol → Piece
symbol_piece None = piece.Stray
symbol_piece (Some s) = piece.Token (kind.Symbol s) (length (symbol_spelling s))

-- a comment goes to the end of its line
abbrev pub begins_comment : Bytes → Bool
begins_comment z = slice_index z 0 == 45 && slice_index z 1 == 45

-- what stands at the front of a text: a blank, a token, or neither
unfoldable pub piece_of : Bytes → Piece
piece_of z =
    let b = slice_index z 0 in
    if is_in class.Space b then piece.Blank (run class.Space z)
    else (if begins_comment z then piece.Blank (run class.Line z)
    else (if begins_word b then piece.Token (word_kind (keyword_of (take (run class.Word z) z))) (run class.Word z)
    else (if is_in class.Digit b then piece.Token kind.Int (run class.Digit z)
    else (if b == quote then literal_piece (literal_end false 1 (drop 1 z))
    else symbol_piece (symbol_of z)))))

abbrev pub token_at : ℕ → Kind → ℕ → Token
token_at at k len = record { kind = k; span = record { from = at; to = at + len } }

-- a piece at a place, and what is cut after it
abbrev pub with_piece : ℕ → Piece → (ℕ → Option (List Token)) → Option (List Token)
with_piece at (piece.Blank len) rest = rest len
with_piece at (piece.Token k len) rest = option_map (λ ts. token_at at k len ∷ ts) (rest len)
with_piece at piece.Stray rest = None
with_piece at piece.Unclosed rest = None

-- The tokens of the bytes that stand at a place. The second number counts the bytes at the front that belong
-- to a piece before.
abbrev pub tokens_from : ℕ → ℕ → Bytes → Option (List Token)
tokens_from at left [] = Some []
tokens_from at (suc left) (b ∷ z) = tokens_from (at + 1) left z
tokens_from at zero (b ∷ z) = with_piece at (piece_of (b ∷ z)) (λ len. tokens_from (at + 1) (len - 1) z)

-- the tokens of a text, where it is cut into tokens
abbrev pub tokens_of : Bytes → Option (List Token)
tokens_of text = tokens_from 0 0 text
