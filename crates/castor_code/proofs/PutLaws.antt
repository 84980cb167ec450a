-- What is written, one part after the other.
use Rattle.std.proofs.Common.{◌≡◌, ◌∙◌, ℕ, ◌+◌, ◌<◌, ◌≤◌, nat_le, nat_lt, ◌==◌, Bool, List, ◌++◌, map, drop, length, get_or, true, ◌&&◌, ap, sym, append_assoc, append-nil}
use Rattle.std.proofs.lemmas.Bool.{and_parts, and_from}
use Rattle.std.proofs.lemmas.List.{drop_more, drop_all}
use Rattle.castor_alg.specs.declared.expr.Expr.{Expr}
use Rattle.castor_alg.specs.declared.rel.Bound.{Bound}
use Rattle.castor_code.specs.declared.code.Code.{Code}
use Rattle.castor_code.specs.declared.code.Code as C
use Rattle.castor_code.specs.declared.code.Range.{Range}
use Rattle.castor_code.specs.CodeForms.{CodeForm, code_bytes, code_form, code_form_step, hash_tail, key_code_form, key_codes_form, ord_tail, ranges_form}
use Rattle.castor_code.specs.Forms.{Form, then_form, in_turn, u8_form}
use Rattle.castor_code.proofs.CodeInduction.{fold-Hash, fold-Ord, fold-Dep}

-- what is left of a part whose front is written
pub record Continues (left all : Form) (out old : List ℕ) : Type 0 where
  pub sound : left.sound ≡ true
  pub bytes : out ++ left.bytes ≡ old ++ all.bytes

pub continued : (left f more all : Form) (out old new : List ℕ) → left ≡ then_form f more → new ≡ out ++ f.bytes → Continues left all out old → Continues more all new old
continued left f more all out old new is wrote so = record {
  sound = (and_parts f.sound more.sound (ap (λ (g : Form). g.sound) (sym is) ∙ so.sound)).1;
  bytes = ap (λ xs. xs ++ more.bytes) wrote ∙ append_assoc out f.bytes more.bytes ∙ ap (λ (g : Form). out ++ g.bytes) (sym is) ∙ so.bytes;
}

pub next_sound : (left f more all : Form) (out old : List ℕ) → left ≡ then_form f more → Continues left all out old → f.sound ≡ true
next_sound left f more all out old is so = (and_parts f.sound more.sound (ap (λ (g : Form). g.sound) (sym is) ∙ so.sound)).0

module _ {X : Type 0} (form : X → Form) where
  pub turn_next : (xs : List X) (i : ℕ) (x : X) → i < length xs → x ≡ get_or xs i x → in_turn (map form (drop i xs)) ≡ then_form (form x) (in_turn (map form (drop (i + 1) xs)))
  turn_next xs i x lt is = ap (λ (ys : List X). in_turn (map form ys)) (drop_more xs i x lt) ∙ ap (λ (y : X). then_form (form y) (in_turn (map form (drop (i + 1) xs)))) (sym is)

  pub turn_written : (xs : List X) (i : ℕ) (all : Form) (out old : List ℕ) → length xs ≤ i → Continues (in_turn (map form (drop i xs))) all out old → out ≡ old ++ all.bytes
  turn_written xs i all out old le so = sym (append-nil out) ∙ ap (λ (ys : List X). out ++ (in_turn (map form ys)).bytes) (sym (drop_all i xs le)) ∙ so.bytes

-- parts in turn
pub two_put : (old one new first second : List ℕ) → one ≡ old ++ first → new ≡ one ++ second → new ≡ old ++ (first ++ second)
two_put old one new first second a b = b ∙ ap (λ xs. xs ++ second) a ∙ append_assoc old first second

pub three_put : (old one two new first second third : List ℕ) → one ≡ old ++ first → two ≡ one ++ second → new ≡ two ++ third → new ≡ old ++ (first ++ (second ++ third))
three_put old one two new first second third a b c = two_put old one new first (second ++ third) a (two_put one two new second third b c)

-- a front of parts, and what stands behind it
behind_two : (a b c d : List ℕ) → (a ++ (b ++ c)) ++ d ≡ a ++ (b ++ (c ++ d))
behind_two a b c d = append_assoc a (b ++ c) d ∙ ap (λ xs. a ++ xs) (append_assoc b c d)

pub two_then : (old mid new a b c d : List ℕ) → mid ≡ old ++ (a ++ (b ++ c)) → new ≡ mid ++ d → new ≡ old ++ (a ++ (b ++ (c ++ d)))
two_then old mid new a b c d first second = two_put old mid new (a ++ (b ++ c)) d first second ∙ ap (λ xs. old ++ xs) (behind_two a b c d)

pub three_then : (old mid new a b c d e : List ℕ) → mid ≡ old ++ (a ++ (b ++ (c ++ d))) → new ≡ mid ++ e → new ≡ old ++ (a ++ (b ++ (c ++ (d ++ e))))
three_then old mid new a b c d e first second = two_then old mid new a b (c ++ d) e first second ∙ ap (λ xs. old ++ (a ++ (b ++ xs))) (append_assoc c d e)

-- the form of a code that is known
form_known : (c d : Code) (f : CodeForm) → c ≡ d → code_form d ≡ f → (code_form c).form.sound ≡ true → f.form.sound ≡ true
form_known c d f is folded sound = ap (λ (x : CodeForm). x.form.sound) (sym (ap code_form is ∙ folded)) ∙ sound

-- the parts of nodes that are known
pub hash_known : (c : Code) (count body : Range) (ks : List Code) (d : Code) (es : List Expr) → c ≡ C.Hash count body ks d es → (code_form c).form.sound ≡ true → ((key_codes_form (map code_form ks)).sound ≡ true) × ((hash_tail (code_form d).form es).sound ≡ true)
hash_known c count body ks d es is sound =
    let all = form_known c (C.Hash count body ks d es) _ is (fold-Hash CodeForm code_form_step count body ks d es) sound in
    let key = map code_form ks in
    let codes = in_turn (map key_code_form key) in
    let tests : Bool = (nat_lt 0 (length key) && nat_le (length key) 4) && (length es == length key) in
    let inner : (then_form (u8_form (length key)) (then_form codes (hash_tail (code_form d).form es))).sound ≡ true = (and_parts tests _ (and_parts (ranges_form count body).sound _ all).1).1 in
    let parts = and_parts (u8_form (length key)).sound (then_form codes (hash_tail (code_form d).form es)).sound inner in
    let behind = and_parts codes.sound (hash_tail (code_form d).form es).sound parts.1 in
    (and_from _ _ parts.0 behind.0, behind.1)

pub ord_known : (c : Code) (count body : Range) (k d : Code) (lo hi : Bound) → c ≡ C.Ord count body k d lo hi → (code_form c).form.sound ≡ true → ((code_form k).form.sound ≡ true) × ((ord_tail (code_form d).form lo hi).sound ≡ true)
ord_known c count body k d lo hi is sound =
    let all = form_known c (C.Ord count body k d lo hi) _ is (fold-Ord CodeForm code_form_step count body k d lo hi) sound in
    let parts = and_parts _ _ (and_parts _ _ all).1 in
    ((and_parts _ _ parts.0).1, parts.1)

pub dep_known : (c : Code) (k : ℕ) (d f : Code) → c ≡ C.Dep k d f → (code_form c).form.sound ≡ true → ((code_form d).form.sound ≡ true) × ((code_form f).form.sound ≡ true)
dep_known c k d f is sound = and_parts _ _ (and_parts _ _ (form_known c (C.Dep k d f) _ is (fold-Dep CodeForm code_form_step k d f) sound)).1

-- a code is put as its node
pub code_put : (old new : List ℕ) (c d : Code) (f : CodeForm) → new ≡ old ++ f.form.bytes → c ≡ d → code_form d ≡ f → new ≡ old ++ code_bytes c
code_put old new c d f wrote is folded = wrote ∙ ap (λ (x : CodeForm). old ++ x.form.bytes) (sym (ap code_form is ∙ folded))
