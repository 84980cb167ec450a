-- The tokens of a text, step by step.
use Rattle.std.proofs.Common.{◌≡◌, ℕ, zero, suc, ◌+◌, ◌-◌, ◌<◌, ◌≤◌, List, [], ◌∷◌, ◌++◌, length, get_or, drop, Option, Some, None, refl, sym, ap, ◌∙◌, subst, append_assoc, append-nil, add-zero, arith, length-drop, take, Bool, true, false, ◌&&◌, cond}
use Rattle.std.specs.Option.{option_map}
use Rattle.std.specs.Prelude.{is_none, map}
use Rattle.std.specs.List.{list_all}
use Rattle.castor_tokens.specs.declared.cut.Class.{Class}
use Rattle.castor_tokens.specs.declared.cut.Class.TheVariants as class
use Rattle.std.proofs.lemmas.List.{drop_all, get_or-drop}
use Rattle.castor_tokens.specs.declared.token.Token.{Token}
use Rattle.castor_tokens.specs.declared.token.Kind.{Kind}
use Rattle.castor_tokens.specs.declared.token.Kind.TheVariants as kind
use Rattle.castor_tokens.specs.declared.cut.Piece.TheVariants as piece
use Rattle.castor_tokens.specs.Cut.{StandsAt, AreInOrder, AreSpansInOrder}
use Rattle.castor_tokens.specs.Tokens.{Bytes, is_in, run, begins_word, keyword_of, is_name, tokens_of, tokens_from, piece_of, with_piece, token_at}

-- these tokens, and those that come after them
abbrev pub after : List Token → Option (List Token) → Option (List Token)
after ts more = option_map (λ us. ts ++ us) more

pub after-nil : (more : Option (List Token)) → after [] more ≡ more
after-nil None = refl
after-nil (Some us) = refl

pub after-push : (ts : List Token) (t : Token) (more : Option (List Token)) → after ts (option_map (λ us. t ∷ us) more) ≡ after (ts ++ t ∷ []) more
after-push ts t None = refl
after-push ts t (Some us) = ap Some (sym (append_assoc ts (t ∷ []) us))

-- the bytes of a piece that was cut off are passed
pub passed : (n at : ℕ) (z : Bytes) → n ≤ length z → tokens_from at n z ≡ tokens_from (at + n) 0 (drop n z)
passed zero at z h = ap (λ k. tokens_from k 0 z) (sym (add-zero at))
passed (suc n) at [] h = absurd (omega arith)
passed (suc n) at (b ∷ z) h =
    let e : at + 1 + n ≡ at + suc n = omega arith in
    passed n (at + 1) z (omega arith) ∙ ap (λ k. tokens_from k 0 (drop n z)) e

-- no bytes
abbrev nothing : Bytes
nothing = []

drop-nil : (k : ℕ) → drop k nothing ≡ nothing
drop-nil zero = refl
drop-nil (suc k) = refl

drop-drop : (n m : ℕ) (z : Bytes) → drop n (drop m z) ≡ drop (m + n) z
drop-drop n zero z = let e : 0 + n ≡ n = omega arith in ap (λ k. drop k z) (sym e)
drop-drop n (suc m) [] = drop-nil n ∙ sym (drop-nil (suc m + n))
drop-drop n (suc m) (b ∷ z) = let e : suc m + n ≡ suc (m + n) = omega arith in drop-drop n m z ∙ ap (λ k. drop k (b ∷ z)) (sym e)

-- one step past a piece of at least one byte
past : (n at b : ℕ) (z : Bytes) → 1 ≤ n → n ≤ length (b ∷ z) → tokens_from (at + 1) (n - 1) z ≡ tokens_from (at + n) 0 (drop n (b ∷ z))
past zero at b z some h = absurd (omega arith)
past (suc n) at b z some h =
    let e : suc n - 1 ≡ n = omega arith in
    let f : at + 1 + n ≡ at + suc n = omega arith in
    ap (λ k. tokens_from (at + 1) k z) e ∙ passed n (at + 1) z (omega arith) ∙ ap (λ k. tokens_from k 0 (drop n z)) f

-- the tokens of what begins with a blank
from_blank : (at len : ℕ) (z : Bytes) → piece_of z ≡ piece.Blank len → 1 ≤ len → len ≤ length z → tokens_from at 0 z ≡ tokens_from (at + len) 0 (drop len z)
from_blank at len [] is some h = absurd (omega arith)
from_blank at len (b ∷ z) is some h = ap (λ p. with_piece at p (λ n. tokens_from (at + 1) (n - 1) z)) is ∙ past len at b z some h

-- the tokens of what begins with a token
from_token : (at len : ℕ) (k : Kind) (z : Bytes) → piece_of z ≡ piece.Token k len → 1 ≤ len → len ≤ length z → tokens_from at 0 z ≡ option_map (λ ts. token_at at k len ∷ ts) (tokens_from (at + len) 0 (drop len z))
from_token at len k [] is some h = absurd (omega arith)
from_token at len k (b ∷ z) is some h = ap (λ p. with_piece at p (λ n. tokens_from (at + 1) (n - 1) z)) is ∙ ap (option_map (λ ts. token_at at k len ∷ ts)) (past len at b z some h)

-- no tokens begin with what is no piece
pub from_stray : (at : ℕ) (z : Bytes) → 0 < length z → piece_of z ≡ piece.Stray → tokens_from at 0 z ≡ None
from_stray at [] some is = absurd (omega arith)
from_stray at (b ∷ z) some is = ap (λ p. with_piece at p (λ n. tokens_from (at + 1) (n - 1) z)) is

pub from_unclosed : (at : ℕ) (z : Bytes) → 0 < length z → piece_of z ≡ piece.Unclosed → tokens_from at 0 z ≡ None
from_unclosed at [] some is = absurd (omega arith)
from_unclosed at (b ∷ z) some is = ap (λ p. with_piece at p (λ n. tokens_from (at + 1) (n - 1) z)) is

-- the loop that cuts, past a blank and past a token
pub cut_blank : (text : Bytes) (at len : ℕ) → piece_of (drop at text) ≡ piece.Blank len → 1 ≤ len → len ≤ length (drop at text) → tokens_from at 0 (drop at text) ≡ tokens_from (at + len) 0 (drop (at + len) text)
cut_blank text at len is some h = from_blank at len (drop at text) is some h ∙ ap (λ z. tokens_from (at + len) 0 z) (drop-drop len at text)

pub cut_token : (text : Bytes) (at len : ℕ) (k : Kind) → piece_of (drop at text) ≡ piece.Token k len → 1 ≤ len → len ≤ length (drop at text) → tokens_from at 0 (drop at text) ≡ option_map (λ ts. token_at at k len ∷ ts) (tokens_from (at + len) 0 (drop (at + len) text))
cut_token text at len k is some h = from_token at len k (drop at text) is some h ∙ ap (λ z. option_map (λ ts. token_at at k len ∷ ts) (tokens_from (at + len) 0 z)) (drop-drop len at text)

-- the tokens so far and those of what is left, after one more token
pub cut_push : (text : Bytes) (ts us : List Token) (at len : ℕ) (k : Kind) → tokens_of text ≡ after ts (tokens_from at 0 (drop at text)) → us ≡ ts ++ token_at at k len ∷ [] → piece_of (drop at text) ≡ piece.Token k len → 1 ≤ len → len ≤ length (drop at text) → tokens_of text ≡ after us (tokens_from (at + len) 0 (drop (at + len) text))
cut_push text ts us at len k so_far pushed is some h =
    so_far ∙ ap (after ts) (cut_token text at len k is some h) ∙ after-push ts (token_at at k len) (tokens_from (at + len) 0 (drop (at + len) text)) ∙ ap (λ vs. after vs (tokens_from (at + len) 0 (drop (at + len) text))) (sym pushed)

pub cut_pass : (text : Bytes) (ts : List Token) (at len : ℕ) → tokens_of text ≡ after ts (tokens_from at 0 (drop at text)) → piece_of (drop at text) ≡ piece.Blank len → 1 ≤ len → len ≤ length (drop at text) → tokens_of text ≡ after ts (tokens_from (at + len) 0 (drop (at + len) text))
cut_pass text ts at len so_far is some h = so_far ∙ ap (after ts) (cut_blank text at len is some h)

pub cut_none : (text : Bytes) (ts : List Token) (at : ℕ) → tokens_of text ≡ after ts (tokens_from at 0 (drop at text)) → tokens_from at 0 (drop at text) ≡ None → tokens_of text ≡ None
cut_none text ts at so_far none = so_far ∙ ap (after ts) none

after-some : (ts : List Token) → after ts (Some []) ≡ Some ts
after-some ts = ap Some (append-nil ts)

pub cut_end : (text : Bytes) (ts : List Token) (at : ℕ) → tokens_of text ≡ after ts (tokens_from at 0 (drop at text)) → length text ≤ at → tokens_of text ≡ Some ts
cut_end text ts at so_far done = so_far ∙ ap (λ z. after ts (tokens_from at 0 z)) (drop_all at text done) ∙ after-some ts

pub in_order_later : (ts : List Token) (start at more : ℕ) → AreInOrder start at ts → at ≤ more → AreInOrder start more ts
in_order_later [] start at more h le = omega arith
in_order_later (t ∷ ts) start at more h le = (h.0, h.1, in_order_later ts t.span.to at more h.2 le)

pub in_order_push : (ts : List Token) (start at len : ℕ) (k : Kind) → AreInOrder start at ts → 1 ≤ len → AreInOrder start (at + len) (ts ++ token_at at k len ∷ [])
in_order_push [] start at len k h some = (h, omega arith, omega arith)
in_order_push (t ∷ ts) start at len k h some = (h.0, h.1, in_order_push ts t.span.to at len k h.2 some)

-- a byte of what is left, and the length of that
byte_later : (z : Bytes) (at i : ℕ) → get_or (drop at z) i 0 ≡ get_or z (at + i) 0
byte_later z at i = get_or-drop at z i 0

last_later : (z : Bytes) (at len : ℕ) → 1 ≤ len → get_or (drop at z) (len - 1) 0 ≡ get_or z (at + len - 1) 0
last_later z at len some = let e : at + (len - 1) ≡ at + len - 1 = omega arith in byte_later z at (len - 1) ∙ ap (λ i. get_or z i 0) e

first_later : (z : Bytes) (at : ℕ) → get_or (drop at z) 0 0 ≡ get_or z at 0
first_later z at = byte_later z at 0 ∙ ap (λ i. get_or z i 0) (add-zero at)

name_later : (z : Bytes) (at len : ℕ) → is_name (take (len - 0) (drop at z)) ≡ true → is_name (take (at + len - at) (drop at z)) ≡ true
name_later z at len h = let e : len - 0 ≡ at + len - at = omega arith in subst (λ n. is_name (take n (drop at z)) ≡ true) e h

-- a token at the front of what is left stands in the text
pub stands_later : (z : Bytes) (at len : ℕ) (k : Kind) → StandsAt (drop at z) k 0 len → at ≤ length z → StandsAt z k at (at + len)
stands_later z at len kind.Name h le = (omega (arith, h.0), omega (arith, length-drop at z, h.0, h.1), rw (sym (first_later z at)) h.2, rw (sym (last_later z at len h.0)) h.3, name_later z at len h.4)
stands_later z at len kind.Int h le = (omega (arith, h.0), omega (arith, length-drop at z, h.0, h.1))
stands_later z at len kind.Text h le = (omega (arith, h.0), omega (arith, length-drop at z, h.0, h.1), sym (first_later z at) ∙ h.2, sym (last_later z at len (omega (arith, h.0))) ∙ h.3)
stands_later z at len (kind.Keyword k) h le = (omega (arith, h.0), omega (arith, length-drop at z, h.0, h.1))
stands_later z at len (kind.Symbol s) h le = (omega (arith, h.0), omega (arith, length-drop at z, h.0, h.1))

-- each byte of a run is of its class
run_by : (c : Class) (b : ℕ) (z : Bytes) (t : Bool) → is_in c b ≡ t → list_all (is_in c) (take (run c z) z) ≡ true → (n : ℕ) → n ≡ cond t (1 + run c z) 0 → list_all (is_in c) (take n (b ∷ z)) ≡ true
run_by c b z false is h n e = rw e refl
run_by c b z true is h n e =
    let one_more : n ≡ suc (run c z) = omega (arith, e) in
    rw one_more (λ i. is i && h i)

run_all : (c : Class) (z : Bytes) → list_all (is_in c) (take (run c z) z) ≡ true
run_all c [] = refl
run_all c (b ∷ z) = run_by c b z (is_in c b) refl (run_all c z) (run c (b ∷ z)) refl

first_taken : (z : Bytes) (n : ℕ) → 0 < n → get_or (take n z) 0 0 ≡ get_or z 0 0
first_taken z zero some = absurd (omega arith)
first_taken [] (suc n) some = refl
first_taken (b ∷ z) (suc n) some = refl

-- a word that is no reserved word is a name
pub name_is : (z : Bytes) (n : ℕ) → n ≡ run class.Word z → 0 < n → begins_word (get_or z 0 0) ≡ true → keyword_of (take n z) ≡ None → is_name (take n z) ≡ true
name_is z n is some begins none =
    let first : begins_word (get_or (take n z) 0 0) ≡ true = ap begins_word (first_taken z n some) ∙ begins in
    let all : list_all (is_in class.Word) (take n z) ≡ true = ap (λ k. list_all (is_in class.Word) (take k z)) is ∙ run_all class.Word z in
    λ i. first i && (all i && is_none (none i))

-- the spans of tokens in order are in order
pub spans_in_order : (ts : List Token) (start end : ℕ) → AreInOrder start end ts → AreSpansInOrder start end (map (λ t. t.span) ts)
spans_in_order [] start end h = h
spans_in_order (t ∷ ts) start end h = (h.0, h.1, spans_in_order ts t.span.to end h.2)
