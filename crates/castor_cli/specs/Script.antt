-- The one script that is built yet.
use Rattle.std.specs.Prelude.{ℕ, ◌-◌, Bool, false, ◌&&◌, List, [], ◌∷◌, take, drop, codes, Option, Some, None}
use Rattle.std.specs.Str.{bytes_eq}
use Rattle.castor_tokens.specs.declared.token.Span.{Span}
use Rattle.castor_tokens.specs.declared.token.Token.{Token}

-- the bytes of a text at a span
abbrev pub slice : List ℕ → Span → List ℕ
slice text at = take (at.to - at.from) (drop at.from text)

-- a token is written so
abbrev pub is_spelled : List ℕ → Token → List ℕ → Bool
is_spelled text token word = bytes_eq (slice text token.span) word

-- the tokens are the word `finish` and a semicolon
abbrev pub is_finish : List ℕ → List Token → Bool
is_finish text [] = false
is_finish text (t ∷ []) = false
is_finish text (t ∷ u ∷ []) = is_spelled text t (codes "finish") && is_spelled text u (codes ";")
is_finish text (t ∷ u ∷ v ∷ more) = false

abbrev pub are_finish : List ℕ → Option (List Token) → Bool
are_finish text None = false
are_finish text (Some ts) = is_finish text ts
