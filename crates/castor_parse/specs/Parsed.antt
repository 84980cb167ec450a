-- What a query file is parsed to, and why a text isn't.
use Rattle.std.specs.Prelude.{◌≡◌, ◌<◌, ◌≤◌, ℕ, true, false, List, map, length, Some, None, IsUtf8}
use Rattle.castor_val.specs.Limits.{most_depth, most_source_bytes}
use Rattle.castor_tokens.specs.declared.token.Token.{Token}
use Rattle.castor_tree.specs.declared.tree.Decl.{Decl}
use Rattle.castor_tree.specs.declared.tree.PRel.{PRel}
use Rattle.castor_tree.specs.declared.tree.File.{File}
use Rattle.castor_parse.specs.declared.query.ParseError.{ParseError}
use Rattle.castor_parse.specs.declared.query.ParseError.TheVariants as refusal
use Rattle.castor_tokens.specs.Tokens.{Bytes, tokens_of}
use Rattle.castor_parse.specs.Lexemes.{lexemes}
use Rattle.castor_parse.specs.Limits.{are_within_limits}
use Rattle.castor_parse.specs.Grammar.{IsFile}
use Rattle.castor_tree.specs.Sizes.{depth, IsSmall}

-- a text that is cut into these tokens, all of them within the limits
pub record AreTokens (text : Bytes) (ts : List Token) : Type 0 where
  pub short : length text ≤ most_source_bytes
  pub utf8 : IsUtf8 text
  pub cut : tokens_of text ≡ Some ts
  pub within : are_within_limits (lexemes text ts) ≡ true

-- the file has the spans of the text's tokens, and the grammar derives its declarations and its query from them
pub record IsParsed (text : Bytes) (file : File) : Type 0 where
  pub tokens : List Token
  pub are_tokens : AreTokens text tokens
  pub spans : file.tokens ≡ map (λ t. t.span) tokens
  pub derived : IsFile (lexemes text tokens) file.decls file.query
  pub small : IsSmall file.query

-- Why a text is too large: it has too many bytes; or it is cut into tokens of which one passes a limit; or its
-- tree has too many nodes or is too deep.
pub data IsTooLarge (text : Bytes) : Type 0 where
  by_bytes : most_source_bytes < length text → IsTooLarge text
  by_tokens : (ts : List Token) → length text ≤ most_source_bytes → IsUtf8 text → tokens_of text ≡ Some ts → are_within_limits (lexemes text ts) ≡ false → IsTooLarge text
  by_tree : (ts : List Token) (decls : List Decl) (query : PRel) → AreTokens text ts → IsFile (lexemes text ts) decls query → (IsSmall query → ⊥) → IsTooLarge text

-- Why a text has a syntax fault: it isn't cut into tokens; or the grammar derives no file from its tokens.
pub data HasSyntaxFault (text : Bytes) : Type 0 where
  by_cut : length text ≤ most_source_bytes → IsUtf8 text → tokens_of text ≡ None → HasSyntaxFault text
  by_grammar : (ts : List Token) → AreTokens text ts → ((decls : List Decl) (query : PRel) → IsFile (lexemes text ts) decls query → ⊥) → HasSyntaxFault text

-- what the tokens of a text make
pub record IsRead (text : Bytes) (ts : List Token) (file : File) : Type 0 where
  pub spans : file.tokens ≡ map (λ t. t.span) ts
  pub derived : IsFile (lexemes text ts) file.decls file.query
  pub small : IsSmall file.query

-- a file of these tokens, declarations and query, which left some of the parser's budget of nodes and isn't too deep
pub record IsSmallFile (ts : List Token) (left : ℕ) (ds : List Decl) (q : PRel) (file : File) : Type 0 where
  pub spans : file.tokens ≡ map (λ t. t.span) ts
  pub decls : file.decls ≡ ds
  pub query : file.query ≡ q
  pub some_left : 0 < left
  pub shallow : depth q ≤ most_depth

-- a tree that left nothing of the parser's budget of nodes, or is too deep
abbrev pub IsLarge : ℕ → PRel → ParseError → Type 0
IsLarge left q refusal.TooLarge = (0 < left) × (depth q ≤ most_depth) → ⊥
IsLarge left q refusal.NotUtf8 = ⊥
IsLarge left q (refusal.Syntax at) = ⊥
IsLarge left q refusal.Memory = Unit {0}

-- why the tokens of a text make no file
abbrev pub IsUnread : Bytes → List Token → ParseError → Type 0
IsUnread text ts refusal.TooLarge = (decls : List Decl) × (query : PRel) × IsFile (lexemes text ts) decls query × (IsSmall query → ⊥)
IsUnread text ts refusal.NotUtf8 = ⊥
IsUnread text ts (refusal.Syntax at) = ((decls : List Decl) (query : PRel) → IsFile (lexemes text ts) decls query → ⊥) × (at ≤ length text)
IsUnread text ts refusal.Memory = Unit {0}

-- why a text isn't parsed; want of memory says nothing of it
abbrev pub IsRefused : Bytes → ParseError → Type 0
IsRefused text refusal.TooLarge = IsTooLarge text
IsRefused text refusal.NotUtf8 = (length text ≤ most_source_bytes) × (IsUtf8 text → ⊥)
IsRefused text (refusal.Syntax at) = HasSyntaxFault text × (at ≤ length text)
IsRefused text refusal.Memory = Unit {0}

-- the grammar derives at most one file from the tokens of a text that are within the limits
abbrev pub HasOneTree : Bytes → Type 0
HasOneTree text = (ts : List Token) (ds es : List Decl) (p q : PRel) → AreTokens text ts → IsFile (lexemes text ts) ds p → IsFile (lexemes text ts) es q → (ds ≡ es) × (p ≡ q)
