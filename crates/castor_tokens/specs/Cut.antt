-- What the cutting of a text promises.
use Rattle.std.specs.Prelude.{◌≡◌, ◌<◌, ◌≤◌, ℕ, ◌+◌, ◌-◌, List, [], ◌∷◌, length, take, drop, slice_index, true, None}
use Rattle.castor_tokens.specs.declared.token.Kind.{Kind}
use Rattle.castor_tokens.specs.declared.token.Kind.TheVariants as kind
use Rattle.castor_tokens.specs.declared.token.Span.{Span}
use Rattle.castor_tokens.specs.declared.token.Token.{Token}
use Rattle.castor_tokens.specs.declared.cut.CutError.{CutError}
use Rattle.castor_tokens.specs.declared.cut.CutError.TheVariants.{Syntax, Memory}
use Rattle.castor_tokens.specs.declared.cut.Piece.{Piece}
use Rattle.castor_tokens.specs.declared.cut.Piece.TheVariants as piece
use Rattle.castor_tokens.specs.Tokens.{Bytes, quote, is_name, tokens_of}

-- A token of this kind stands from a place to another: it lies within the text, a name begins and ends with
-- ASCII and is a name, and a text literal begins and ends with a quote.
abbrev pub StandsAt : Bytes → Kind → ℕ → ℕ → Type 0
StandsAt z kind.Name from to = (from < to) × (to ≤ length z) × (slice_index z from < 128) × (slice_index z (to - 1) < 128) × (is_name (take (to - from) (drop from z)) ≡ true)
StandsAt z kind.Int from to = (from < to) × (to ≤ length z)
StandsAt z kind.Text from to = (from + 2 ≤ to) × (to ≤ length z) × (slice_index z from ≡ quote) × (slice_index z (to - 1) ≡ quote)
StandsAt z (kind.Keyword k) from to = (from < to) × (to ≤ length z)
StandsAt z (kind.Symbol s) from to = (from < to) × (to ≤ length z)

-- a token stands where its span says
abbrev pub Stands : Bytes → Token → Type 0
Stands z t = StandsAt z t.kind t.span.from t.span.to

-- a piece has at least one byte, and none past the text's end
abbrev pub IsWithin : Bytes → Piece → Type 0
IsWithin z (piece.Blank len) = (1 ≤ len) × (len ≤ length z)
IsWithin z (piece.Token k len) = (1 ≤ len) × (len ≤ length z)
IsWithin z piece.Stray = Unit {0}
IsWithin z piece.Unclosed = Unit {0}

-- a piece that is a token stands at the front
abbrev pub StandsInFront : Bytes → Piece → Type 0
StandsInFront z (piece.Blank len) = Unit {0}
StandsInFront z (piece.Token k len) = StandsAt z k 0 len
StandsInFront z piece.Stray = Unit {0}
StandsInFront z piece.Unclosed = Unit {0}

-- the tokens stand between two places, each with at least one byte, and none before the end of the one before
abbrev pub AreInOrder : ℕ → ℕ → List Token → Type 0
AreInOrder start end [] = start ≤ end
AreInOrder start end (t ∷ ts) = (start ≤ t.span.from) × (t.span.from < t.span.to) × AreInOrder t.span.to end ts

-- the same of spans
abbrev pub AreSpansInOrder : ℕ → ℕ → List Span → Type 0
AreSpansInOrder start end [] = start ≤ end
AreSpansInOrder start end (s ∷ ss) = (start ≤ s.from) × (s.from < s.to) × AreSpansInOrder s.to end ss

-- a syntax fault is at a place of a text that has no tokens
abbrev pub IsCutError : Bytes → CutError → Type 0
IsCutError text (Syntax at) = (tokens_of text ≡ None) × (at ≤ length text)
IsCutError text Memory = Unit {0}
