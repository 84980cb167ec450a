-- Parts of codes: what is written is read, and what is read is so written.
use Rattle.std.proofs.Common.{◌≡◌, ◌∙◌, ℕ, zero, suc, ◌+◌, ◌-◌, ◌<◌, ◌≤◌, max, nat_lt, List, [], ◌∷◌, ◌++◌, map, length, Bool, true, false, if◌then◌else◌, Some, None, subst, ap, sym, refl, arith, append_assoc}
use Rattle.std.proofs.lemmas.Bool.{and_parts, and_from, lt-ltb, le-leb, leb-true, ltb-true}
use Rattle.std.proofs.lemmas.Option.{some_pair_parts, none-some}
use Rattle.castor_fixed.specs.Fields.{field, number}
use Rattle.castor_fixed.proofs.FieldLaws.{number-field, number-taken}
use Rattle.castor_code.specs.Steps.{next, when, many, in_pair, made, passing}
use Rattle.castor_code.specs.Forms.{Form, plain, then_form, in_turn, only_if, number_form, u16_form, node, list_form}
use Rattle.castor_code.specs.CodeReadings.{Input, Parse, number_in, u8_in, u16_in, list_in, tag_in}
use Rattle.castor_code.proofs.StepLaws.{got, next_of, came, when_holds, let_through}

-- what is left to read before a part is read
abbrev pub front : Form → Input → Input
front f s = record { bytes = f.bytes ++ s.bytes; nodes = f.nodes + s.nodes }

-- a part that is well formed by itself, of at most so many levels
pub record Good (levels : ℕ) (f : Form) : Type 0 where
  pub sound : f.sound ≡ true
  pub depth : f.depth ≤ levels

-- a thing is read where its part stands
abbrev pub Reads : {X : Type 0} → ℕ → Parse X → Form → X → Type 0
Reads levels read f x = (s : Input) → Good levels f → read (front f s) ≡ Some (x, s)

-- what is read is written as its part
abbrev pub Writes : {X : Type 0} → ℕ → Parse X → (X → Form) → Type 0
Writes {X} levels read form = (s t : Input) (x : X) → read s ≡ Some (x, t) → Good levels (form x) × (s ≡ front (form x) t)

pub same_input : (s t : Input) → s.bytes ≡ t.bytes → s.nodes ≡ t.nodes → s ≡ t
same_input s t bytes nodes = λ i. record { bytes = bytes i; nodes = nodes i }

pub front_then : (f g : Form) (s : Input) → front (then_form f g) s ≡ front f (front g s)
front_then f g s = same_input _ _ (append_assoc f.bytes g.bytes s.bytes) (sums f.nodes g.nodes s.nodes)
  where
    sums : (a b c : ℕ) → a + b + c ≡ a + (b + c)
    sums a b c = omega arith

most_left : (a b c : ℕ) → max a b ≤ c → a ≤ c
most_left a b c le = omega arith

most_right : (a b c : ℕ) → max a b ≤ c → b ≤ c
most_right a b c le = omega arith

most : (a b c : ℕ) → a ≤ c → b ≤ c → max a b ≤ c
most a b c le up = omega arith

pub first_good : (levels : ℕ) (f g : Form) → Good levels (then_form f g) → Good levels f
first_good levels f g good = record { sound = (and_parts _ _ good.sound).0; depth = most_left _ _ _ good.depth }

pub second_good : (levels : ℕ) (f g : Form) → Good levels (then_form f g) → Good levels g
second_good levels f g good = record { sound = (and_parts _ _ good.sound).1; depth = most_right _ _ _ good.depth }

pub both_good : (levels : ℕ) (f g : Form) → Good levels f → Good levels g → Good levels (then_form f g)
both_good levels f g first second = record { sound = and_from _ _ first.sound second.sound; depth = most _ _ _ first.depth second.depth }

pub zero_and : (n : ℕ) → 0 + n ≡ n
zero_and n = omega arith

pub number_reads : (levels limit n : ℕ) → Reads levels (number_in limit) (number_form limit n) n
number_reads levels limit n s good =
    next_of _ _ _ _ (number-field limit n s.bytes (leb-true n limit good.sound))
    ∙ ap (λ m. got n (record { bytes = s.bytes; nodes = m })) (zero_and s.nodes)

pub number_writes : (levels limit : ℕ) → Writes levels (number_in limit) (number_form limit)
number_writes levels limit s t n is =
    let b = came (number limit s.bytes) (λ m rest. got m (record { bytes = rest; nodes = s.nodes })) (n, t) is in
    let parts = some_pair_parts _ _ _ _ b.answer in
    let of_field = number-taken limit b.first s.bytes b.left b.read in (
      record { sound = le-leb n limit (subst (λ m. m ≤ limit) parts.0 of_field.0); depth = omega arith },
      same_input _ _ (of_field.1 ∙ ap (λ m. field limit m ++ b.left) parts.0 ∙ ap (λ (x : Input). field limit n ++ x.bytes) parts.1) (ap (λ (x : Input). x.nodes) parts.1 ∙ sym (zero_and t.nodes)),
    )

module _ {X Y : Type 0} (levels : ℕ) where
  pub pair_reads : (one : Parse X) (other : Parse Y) (f g : Form) (x : X) (y : Y) → Reads levels one f x → Reads levels other g y → Reads levels (in_pair one other) (then_form f g) (x, y)
  pair_reads one other f g x y first second s good =
      ap (in_pair one other) (front_then f g s)
      ∙ next_of _ _ _ _ (first (front g s) (first_good levels f g good))
      ∙ next_of _ _ _ _ (second s (second_good levels f g good))

  pub pair_writes : (one : Parse X) (other : Parse Y) (form : X → Form) (forms : Y → Form) → Writes levels one form → Writes levels other forms → Writes levels (in_pair one other) (λ (p : X × Y). then_form (form p.0) (forms p.1))
  pair_writes one other form forms first second s t p is =
      let b = came (one s) (λ x u. next (other u) (λ y v. got (x, y) v)) (p, t) is in
      let c = came (other b.left) (λ y v. got (b.first, y) v) (p, t) b.answer in
      let parts = some_pair_parts _ _ _ _ c.answer in
      let fore = first s b.left b.first b.read in
      let back = second b.left c.left c.first c.read in
      let pair_form = λ (q : X × Y). then_form (form q.0) (forms q.1) in (
        subst (λ (q : X × Y). Good levels (pair_form q)) parts.0 (both_good levels (form b.first) (forms c.first) fore.0 back.0),
        fore.1 ∙ ap (front (form b.first)) back.1 ∙ sym (front_then (form b.first) (forms c.first) c.left)
            ∙ ap (λ (q : X × Y). front (pair_form q) c.left) parts.0 ∙ ap (front (pair_form p)) parts.1,
      )

  pub made_reads : (h : X → Y) (one : Parse X) (f : Form) (x : X) → Reads levels one f x → Reads levels (made h one) f (h x)
  made_reads h one f x law s good = next_of _ _ _ _ (law s good)

  pub made_writes : (h : X → Y) (one : Parse X) (form : X → Form) (forms : Y → Form) → ((x : X) → forms (h x) ≡ form x) → Writes levels one form → Writes levels (made h one) forms
  made_writes h one form forms same law s t y is =
      let b = came (one s) (λ x u. got (h x) u) (y, t) is in
      let parts = some_pair_parts _ _ _ _ b.answer in
      let fore = law s b.left b.first b.read in
      let form_is : form b.first ≡ forms y = sym (same b.first) ∙ ap forms parts.0 in (
        subst (Good levels) form_is fore.0,
        fore.1 ∙ ap (λ (f : Form). front f b.left) form_is ∙ ap (front (forms y)) parts.1,
      )

module _ {X : Type 0} (levels : ℕ) where
  pub passing_reads : (test : X → Bool) (one : Parse X) (f : Form) (x : X) → Reads levels one f x → Reads levels (passing test one) (only_if (test x) f) x
  passing_reads test one f x law s good =
      let parts = and_parts _ _ good.sound in
      next_of _ _ _ _ (law s (record { sound = parts.1; depth = good.depth })) ∙ when_holds _ _ parts.0

  pub passing_writes : (test : X → Bool) (one : Parse X) (form : X → Form) → Writes levels one form → Writes levels (passing test one) (λ x. only_if (test x) (form x))
  passing_writes test one form law s t x is =
      let b = came (one s) (λ y u. when (test y) (y, u)) (x, t) is in
      let found = let_through (test b.first) b.first x b.left t b.answer in
      let fore = law s b.left b.first b.read in
      let given = λ (y : X). only_if (test y) (form y) in (
        subst (λ (y : X). Good levels (given y)) found.value (record { sound = and_from _ _ found.holds fore.0.sound; depth = fore.0.depth }),
        fore.1 ∙ ap (λ (y : X). front (given y) b.left) found.value ∙ ap (front (given x)) found.left,
      )

module _ {X : Type 0} (levels : ℕ) (one : Parse X) (form : X → Form) where
  front_none : (s : Input) → front (plain true []) s ≡ s
  front_none s = same_input _ _ refl (zero_and s.nodes)

  pub data AllRead : List X → Type 0 where
    none_read : AllRead []
    more_read : {x : X} {xs : List X} → Reads levels one (form x) x → AllRead xs → AllRead (x ∷ xs)

  pub many_reads : (xs : List X) → AllRead xs → Reads levels (many (length xs) one) (in_turn (map form xs)) xs
  many_reads [] none_read s good = ap (got []) (front_none s)
  many_reads (x ∷ xs) (more_read law laws) s good =
      let others = in_turn (map form xs) in
      ap (many (suc (length xs)) one) (front_then (form x) others s)
      ∙ next_of _ _ _ _ (law (front others s) (first_good levels (form x) others good))
      ∙ next_of _ _ _ _ (many_reads xs laws s (second_good levels (form x) others good))

  pub many_writes : Writes levels one form → (n : ℕ) (s t : Input) (xs : List X) → many n one s ≡ Some (xs, t) → (length xs ≡ n) × Good levels (in_turn (map form xs)) × (s ≡ front (in_turn (map form xs)) t)
  many_writes law zero s t xs is =
      let parts = some_pair_parts _ _ _ _ is in (
        ap length (sym parts.0),
        subst (λ (ys : List X). Good levels (in_turn (map form ys))) parts.0 (record { sound = refl; depth = omega arith }),
        parts.1 ∙ sym (front_none t) ∙ ap (λ (ys : List X). front (in_turn (map form ys)) t) parts.0,
      )
  many_writes law (suc n) s t xs is =
      let b = came (one s) (λ x u. next (many n one u) (λ ys v. got (x ∷ ys) v)) (xs, t) is in
      let c = came (many n one b.left) (λ ys v. got (b.first ∷ ys) v) (xs, t) b.answer in
      let parts = some_pair_parts _ _ _ _ c.answer in
      let fore = law s b.left b.first b.read in
      let back = many_writes law n b.left c.left c.first c.read in (
        ap length (sym parts.0) ∙ ap suc back.0,
        subst (λ (ys : List X). Good levels (in_turn (map form ys))) parts.0 (both_good levels (form b.first) (in_turn (map form c.first)) fore.0 back.1),
        fore.1 ∙ ap (front (form b.first)) back.2 ∙ sym (front_then (form b.first) (in_turn (map form c.first)) c.left)
            ∙ ap (λ (ys : List X). front (in_turn (map form ys)) c.left) parts.0 ∙ ap (front (in_turn (map form xs))) parts.1,
      )

  pub list_reads : (xs : List X) → AllRead xs → Reads levels (list_in one) (list_form form xs) xs
  list_reads xs laws s good =
      let head = u16_form (length xs) in
      let all = in_turn (map form xs) in
      ap (list_in one) (front_then head all s)
      ∙ next_of _ _ _ _ (number_reads levels 65535 (length xs) (front all s) (first_good levels head all good))
      ∙ many_reads xs laws s (second_good levels head all good)

  pub list_writes : Writes levels one form → Writes levels (list_in one) (list_form form)
  list_writes law s t xs is =
      let b = came (u16_in s) (λ n u. many n one u) (xs, t) is in
      let fore = number_writes levels 65535 s b.left b.first b.read in
      let all = many_writes law b.first b.left t xs b.answer in
      let head = subst (λ n. Good levels (u16_form n)) (sym all.0) fore.0 in (
        both_good levels (u16_form (length xs)) (in_turn (map form xs)) head all.1,
        fore.1 ∙ ap (front (u16_form b.first)) all.2 ∙ ap (λ n. front (u16_form n) (front (in_turn (map form xs)) t)) (sym all.0) ∙ sym (front_then (u16_form (length xs)) (in_turn (map form xs)) t),
      )

-- the parts of a node
pub parts_good : (levels tag : ℕ) (parts : Form) → Good (suc levels) (node tag parts) → Good levels parts
parts_good levels tag parts good = record { sound = good.sound; depth = less parts.depth levels good.depth }
  where
    less : (m n : ℕ) → 1 + m ≤ suc n → m ≤ n
    less m n le = omega arith

pub no_level : (tag : ℕ) (parts : Form) → Good zero (node tag parts) → ⊥
no_level tag parts good = none parts.depth good.depth
  where
    none : (m : ℕ) → 1 + m ≤ zero → ⊥
    none m le = omega arith

pub node_good : (levels tag : ℕ) (parts : Form) → Good levels parts → Good (suc levels) (node tag parts)
node_good levels tag parts good = record { sound = good.sound; depth = more parts.depth levels good.depth }
  where
    more : (m n : ℕ) → m ≤ n → 1 + m ≤ suc n
    more m n le = omega arith

-- the tag before the parts of a node is read
pub tag_reads : (tag : ℕ) (parts : Form) (s : Input) → tag ≤ 255 → tag_in (front (node tag parts) s) ≡ Some (tag, front parts s)
tag_reads tag parts s small =
    let counted : nat_lt 0 (1 + parts.nodes + s.nodes) ≡ true = lt-ltb _ _ (omega arith) in
    let less : 1 + parts.nodes + s.nodes - 1 ≡ parts.nodes + s.nodes = omega arith in
    ap (λ (b : Bool). if b then u8_in (record { bytes = (field 255 tag ++ parts.bytes) ++ s.bytes; nodes = 1 + parts.nodes + s.nodes - 1 }) else None) counted
    ∙ ap (λ n. u8_in (record { bytes = (field 255 tag ++ parts.bytes) ++ s.bytes; nodes = n })) less
    ∙ ap (λ bs. u8_in (record { bytes = bs; nodes = parts.nodes + s.nodes })) (append_assoc (field 255 tag) parts.bytes s.bytes)
    ∙ next_of _ _ _ _ (number-field 255 tag (parts.bytes ++ s.bytes) small)

pub tag_writes : (s t : Input) (tag : ℕ) → tag_in s ≡ Some (tag, t) → (parts : Form) (u : Input) → t ≡ front parts u → s ≡ front (node tag parts) u
tag_writes s t tag is parts u left =
    by (nat_lt 0 s.nodes) refl is
  where
    counted : (n m : ℕ) → 0 < n → n - 1 ≡ m → n ≡ 1 + m
    counted n m some is = omega arith

    by : (b : Bool) → b ≡ nat_lt 0 s.nodes → (if b then u8_in (record { bytes = s.bytes; nodes = s.nodes - 1 }) else None) ≡ Some (tag, t) → s ≡ front (node tag parts) u
    by true some read =
        let of_field = number_writes 0 255 (record { bytes = s.bytes; nodes = s.nodes - 1 }) t tag read in
        let bytes : s.bytes ≡ field 255 tag ++ t.bytes = ap (λ (x : Input). x.bytes) of_field.1 in
        let nodes : s.nodes - 1 ≡ 0 + t.nodes = ap (λ (x : Input). x.nodes) of_field.1 in
        same_input _ _
        (bytes ∙ ap (λ (x : Input). field 255 tag ++ x.bytes) left ∙ sym (append_assoc (field 255 tag) parts.bytes u.bytes))
        (counted s.nodes (parts.nodes + u.nodes) (ltb-true 0 s.nodes (sym some)) (nodes ∙ zero_and t.nodes ∙ ap (λ (x : Input). x.nodes) left) ∙ sums parts.nodes u.nodes)
      where
        sums : (a b : ℕ) → 1 + (a + b) ≡ 1 + a + b
        sums a b = omega arith
    by false some read = absurd (none-some (tag, t) read)
