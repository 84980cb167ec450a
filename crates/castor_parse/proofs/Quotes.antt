-- A text with one quote for each two is UTF-8.
use Rattle.std.proofs.Common.{◌≡◌, ℕ, suc, ◌<◌, Bool, true, false, ◌&&◌, cond, List, [], ◌∷◌, ◌++◌, length, get_or, IsUtf8, refl, sym, ap, ◌∙◌, append-nil, false-eqb, arith}
use Rattle.std.specs.Prelude.{◌==◌}
use Rattle.std.proofs.Math.Utf8.{scalars, scalar, encodes, encode}
use Rattle.std.proofs.lemmas.Str.{inside_one, length-encode, len_utf8_bounds}
use Rattle.std.proofs.lemmas.Bool.{eqb-true}
use Rattle.castor_tokens.specs.Tokens.{Bytes, quote}
use Rattle.castor_parse.specs.Lexemes.{undoubled, undoubled_from}

-- the characters that are left
abbrev chars_left : Bool → List ℕ → List ℕ
chars_left was_quote [] = []
chars_left was_quote (c ∷ cs) = cond (was_quote && c == quote) (chars_left false cs) (c ∷ chars_left (c == quote) cs)

-- no byte is a quote
abbrev HasNoQuote : Bytes → Type 0
HasNoQuote bs = (k : ℕ) → k < length bs → (get_or bs k 0 == quote) ≡ false

and_false : (f b : Bool) → b ≡ false → (f && b) ≡ false
and_false true b h = h
and_false false b h = refl

step_past : (f q : Bool) (b : ℕ) (x y z : Bytes) → (b == quote) ≡ q → q ≡ false → y ≡ z → cond (f && b == quote) x (b ∷ y) ≡ b ∷ z
step_past f q b x y z is other e = ap (λ t. cond t x (b ∷ y)) (and_false f (b == quote) (is ∙ other)) ∙ ap (λ w. b ∷ w) e

-- bytes with no quote stay
past : (bs : Bytes) (f : Bool) (w : Bytes) → 0 < length bs → HasNoQuote bs → undoubled_from f (bs ++ w) ≡ bs ++ undoubled_from false w
past [] f w some none = absurd (omega arith)
past (b ∷ []) f w some none =
    let no : (b == quote) ≡ false = none 0 (omega arith) in
    step_past f (b == quote) b _ _ _ refl no (ap (λ t. undoubled_from t w) no)
past (b ∷ c ∷ bs) f w some none =
    let no : (b == quote) ≡ false = none 0 (omega arith) in
    step_past f (b == quote) b _ _ _ refl no (ap (λ t. undoubled_from t ((c ∷ bs) ++ w)) no ∙ past (c ∷ bs) false w (omega arith) (λ k h. none (suc k) (omega arith)))

-- only the quote is spelled with one
has_no_quote : (c : ℕ) → (c == quote) ≡ false → HasNoQuote (encode c)
has_no_quote c other k h = by_test (get_or (encode c) k 0 == quote) refl
  where
    by_test : (t : Bool) → (get_or (encode c) k 0 == quote) ≡ t → (get_or (encode c) k 0 == quote) ≡ false
    by_test false is = is
    by_test true is =
        let byte = eqb-true (get_or (encode c) k 0) quote is in
        let same : c ≡ get_or (encode c) k 0 = inside_one c [] (encode c) k (sym (append-nil (encode c))) h (omega (arith, byte)) in
        absurd (false-eqb c quote (sym other) (same ∙ byte))

quoted : (c : ℕ) (cs : List ℕ) (g : Bool) → c ≡ quote → ((h : Bool) → undoubled_from h (encodes cs) ≡ encodes (chars_left h cs)) → undoubled_from g (encode c ++ encodes cs) ≡ encodes (chars_left g (c ∷ cs))
unfolding encode
quoted c cs true is left = rw is (left false)
quoted c cs false is left = rw is (ap (λ w. quote ∷ w) (left true))

one : (c : ℕ) (cs : List ℕ) (f t : Bool) → (c == quote) ≡ t → ((h : Bool) → undoubled_from h (encodes cs) ≡ encodes (chars_left h cs)) → undoubled_from f (encode c ++ encodes cs) ≡ encodes (chars_left f (c ∷ cs))
one c cs f true is left = quoted c cs f (eqb-true c quote is) left
one c cs f false is left =
    past (encode c) f (encodes cs) (omega (arith, length-encode c, (len_utf8_bounds c).0)) (has_no_quote c is)
    ∙ ap (λ w. encode c ++ w) (left false)
    ∙ sym (ap (λ t. encodes (cond t (chars_left false cs) (c ∷ chars_left (c == quote) cs))) (and_false f (c == quote) is) ∙ ap (λ t. encode c ++ encodes (chars_left t cs)) is)

left_is : (cs : List ℕ) (f : Bool) → undoubled_from f (encodes cs) ≡ encodes (chars_left f cs)
left_is [] f = refl
left_is (c ∷ cs) f = one c cs f (c == quote) refl (λ h. left_is cs h)

and_parts : (a b : Bool) → (a && b) ≡ true → (a ≡ true) × (b ≡ true)
and_parts true b h = (refl, h)
and_parts false b h = cc

one_scalar : (c : ℕ) (cs : List ℕ) (q t : Bool) → scalar c ≡ true → ((h : Bool) → scalars (chars_left h cs) ≡ true) → scalars (cond t (chars_left false cs) (c ∷ chars_left q cs)) ≡ true
one_scalar c cs q true is left = left false
one_scalar c cs q false is left = rw is (left q)

scalars_left : (cs : List ℕ) (f : Bool) → scalars cs ≡ true → scalars (chars_left f cs) ≡ true
scalars_left [] f h = refl
scalars_left (c ∷ cs) f h = let parts = and_parts (scalar c) (scalars cs) h in one_scalar c cs (c == quote) (f && c == quote) parts.0 (λ g. scalars_left cs g parts.1)

pub IsUtf8-undoubled : (bs : Bytes) → IsUtf8 bs → IsUtf8 (undoubled bs)
IsUtf8-undoubled bs u = (chars_left false u.0, (scalars_left u.0 false u.1.0, sym (left_is u.0 false) ∙ ap (undoubled_from false) u.1.1))
