-- Codes: what is written is read, and what is read is so written.
use Rattle.std.proofs.Common.{◌≡◌, ◌∙◌, ℕ, zero, suc, ℤ, ◌+◌, ◌-◌, ◌≤◌, eqb, nat_lt, nat_le, List, [], ◌∷◌, map, length, Bool, true, false, ◌&&◌, if◌then◌else◌, slice_get, Option, Some, None, subst, ap, sym, refl, arith}
use Rattle.std.proofs.lemmas.Bool.{and_parts, and_from, ltb-false, eqb-true}
use Rattle.std.proofs.lemmas.Option.{none-some, same_Some}
use Rattle.std.proofs.lemmas.List.{length-map}
use Rattle.castor_alg.specs.declared.expr.Expr.{Expr}
use Rattle.castor_alg.specs.declared.rel.Agg.{Agg}
use Rattle.castor_alg.specs.declared.rel.Bound.{Bound}
use Rattle.castor_alg.specs.declared.rel.Key.{Key}
use Rattle.castor_code.specs.declared.code.Code.{Code, out-Code, out-roll-Code}
use Rattle.castor_code.specs.declared.code.Code as C
use Rattle.castor_code.specs.declared.code.Code.TheOpen as F
use Rattle.castor_code.specs.declared.code.Code.TheVariants.{rolls-Int, rolls-Bool, rolls-Text, rolls-Cross, rolls-Concat, rolls-List, rolls-Hash, rolls-Ord, rolls-Select, rolls-Filter, rolls-Dep, rolls-Group, rolls-Order, rolls-Dedup}
use Rattle.castor_code.specs.declared.code.Range.{Range}
use Rattle.castor_code.specs.declared.tag.CodeTag.{CodeTag}
use Rattle.castor_code.specs.declared.tag.CodeTag.TheVariants as tag
use Rattle.castor_code.specs.Pieces.{at_most_int}
use Rattle.castor_code.specs.Steps.{next, many, in_pair, passing}
use Rattle.castor_code.specs.Forms.{Form, plain, then_form, in_turn, only_if, u8_form, u16_form, u32_form, int_form, node}
use Rattle.castor_code.specs.Tags.{tag_number}
use Rattle.castor_code.specs.CodeForms.{expr_form, bound_form, key_form, ranges_form, group_form, is_some_list, some_form, int_parts, text_parts, CodeForm, form_in, key_code_form, hash_key_form, code_form_step, code_form}
use Rattle.castor_code.specs.CodeReadings.{Input, u8_in, u16_in, u32_in, int_in, told, with_left, tag_in, some_in, expr_in, bound_in, key_in, ranges_in, is_scalar_in, is_scalar, key_code_in, hash_key_in, group_in, code_tags, code_tag, code_after, code_in}
use Rattle.castor_code.proofs.CodeInduction.{With, codes, code_induction, fold-Int, fold-Bool, fold-Text, fold-Cross, fold-Concat, fold-List, fold-Hash, fold-Ord, fold-Select, fold-Filter, fold-Dep, fold-Group, fold-Order, fold-Dedup}
use Rattle.castor_code.proofs.StepLaws.{got, next_of}
use Rattle.castor_code.proofs.InputLaws.{front, Good, Reads, same_input, front_then, first_good, second_good, number_reads, pair_reads, zero_and, made_reads, passing_reads, AllRead, none_read, more_read, many_reads, parts_good, no_level, tag_reads}
use Rattle.castor_code.proofs.NodeLaws.{int_reads}
use Rattle.castor_code.proofs.ExprLaws.{expr_reads}
use Rattle.castor_code.proofs.BesideLaws.{bound_reads, ranges_reads, group_reads, some_reads, exprs_read, keys_read}

-- a node has its tag alone
tag_told : (kind : CodeTag) → code_tag (tag_number kind) ≡ Some kind
tag_told tag.Int = refl
tag_told tag.Bool = refl
tag_told tag.Text = refl
tag_told tag.Cross = refl
tag_told tag.Concat = refl
tag_told tag.List = refl
tag_told tag.Hash = refl
tag_told tag.Ord = refl
tag_told tag.Select = refl
tag_told tag.Filter = refl
tag_told tag.Dep = refl
tag_told tag.Group = refl
tag_told tag.Order = refl
tag_told tag.Dedup = refl

tag_small : (kind : CodeTag) → tag_number kind ≤ 255
tag_small tag.Int = omega arith
tag_small tag.Bool = omega arith
tag_small tag.Text = omega arith
tag_small tag.Cross = omega arith
tag_small tag.Concat = omega arith
tag_small tag.List = omega arith
tag_small tag.Hash = omega arith
tag_small tag.Ord = omega arith
tag_small tag.Select = omega arith
tag_small tag.Filter = omega arith
tag_small tag.Dep = omega arith
tag_small tag.Group = omega arith
tag_small tag.Order = omega arith
tag_small tag.Dedup = omega arith

tag_place : (n : ℕ) (kind : CodeTag) → slice_get code_tags n ≡ Some kind → 1 + n ≡ tag_number kind
tag_place zero kind is = ap tag_number (same_Some tag.Int kind is)
tag_place (suc zero) kind is = ap tag_number (same_Some tag.Bool kind is)
tag_place (suc (suc zero)) kind is = ap tag_number (same_Some tag.Text kind is)
tag_place (suc (suc (suc zero))) kind is = ap tag_number (same_Some tag.Cross kind is)
tag_place (suc (suc (suc (suc zero)))) kind is = ap tag_number (same_Some tag.Concat kind is)
tag_place (suc (suc (suc (suc (suc zero))))) kind is = ap tag_number (same_Some tag.List kind is)
tag_place (suc (suc (suc (suc (suc (suc zero)))))) kind is = ap tag_number (same_Some tag.Hash kind is)
tag_place (suc (suc (suc (suc (suc (suc (suc zero))))))) kind is = ap tag_number (same_Some tag.Ord kind is)
tag_place (suc (suc (suc (suc (suc (suc (suc (suc zero)))))))) kind is = ap tag_number (same_Some tag.Select kind is)
tag_place (suc (suc (suc (suc (suc (suc (suc (suc (suc zero))))))))) kind is = ap tag_number (same_Some tag.Filter kind is)
tag_place (suc (suc (suc (suc (suc (suc (suc (suc (suc (suc zero)))))))))) kind is = ap tag_number (same_Some tag.Dep kind is)
tag_place (suc (suc (suc (suc (suc (suc (suc (suc (suc (suc (suc zero))))))))))) kind is = ap tag_number (same_Some tag.Group kind is)
tag_place (suc (suc (suc (suc (suc (suc (suc (suc (suc (suc (suc (suc zero)))))))))))) kind is = ap tag_number (same_Some tag.Order kind is)
tag_place (suc (suc (suc (suc (suc (suc (suc (suc (suc (suc (suc (suc (suc zero))))))))))))) kind is = ap tag_number (same_Some tag.Dedup kind is)
tag_place (suc (suc (suc (suc (suc (suc (suc (suc (suc (suc (suc (suc (suc (suc n)))))))))))))) kind is = absurd (none-some kind is)

tag_above : (n : ℕ) (kind : CodeTag) (b : Bool) → nat_lt n 1 ≡ b → (if b then None else slice_get code_tags (n - 1)) ≡ Some kind → n ≡ tag_number kind
tag_above n kind true small is = absurd (none-some kind is)
tag_above n kind false small is =
    let place = tag_place (n - 1) kind is in
    let above : 1 ≤ n = ltb-false n 1 small in
    omega arith

pub tag_is : (n : ℕ) (kind : CodeTag) → code_tag n ≡ Some kind → n ≡ tag_number kind
tag_is n kind is = tag_above n kind (nat_lt n 1) refl is

-- which codes are of a single value
abbrev pub Told : Code → Type 0
Told c = (code_form c).scalar ≡ is_scalar c

told_scalar : (f : CodeForm) (c : Code) (y : F.Code-F Code) → code_form c ≡ f → f.scalar ≡ is_scalar_in y → out-Code c ≡ y → Told c
told_scalar f c y is same out = ap (λ (x : CodeForm). x.scalar) is ∙ same ∙ ap is_scalar_in (sym out)

pub scalar_told : (c : Code) → Told c
scalar_told = code_induction Told (record {
  int = λ lo hi. told_scalar _ _ (F.Int lo hi) (fold-Int CodeForm code_form_step lo hi) refl (ap out-Code (sym (rolls-Int lo hi)) ∙ out-roll-Code (F.Int lo hi));
  bool = told_scalar _ _ (F.Bool) (fold-Bool CodeForm code_form_step) refl (ap out-Code (sym (rolls-Bool)) ∙ out-roll-Code (F.Bool));
  text = λ min max. told_scalar _ _ (F.Text min max) (fold-Text CodeForm code_form_step min max) refl (ap out-Code (sym (rolls-Text min max)) ∙ out-roll-Code (F.Text min max));
  cross = λ cs. told_scalar _ _ (F.Cross (codes cs)) (fold-Cross CodeForm code_form_step (codes cs)) refl (ap out-Code (sym (rolls-Cross (codes cs))) ∙ out-roll-Code (F.Cross (codes cs)));
  concat = λ cs. told_scalar _ _ (F.Concat (codes cs)) (fold-Concat CodeForm code_form_step (codes cs)) refl (ap out-Code (sym (rolls-Concat (codes cs))) ∙ out-roll-Code (F.Concat (codes cs)));
  list = λ count body c one. told_scalar _ _ (F.List count body c) (fold-List CodeForm code_form_step count body c) refl (ap out-Code (sym (rolls-List count body c)) ∙ out-roll-Code (F.List count body c));
  hash = λ count body key c es one. told_scalar _ _ (F.Hash count body (codes key) c es) (fold-Hash CodeForm code_form_step count body (codes key) c es) refl (ap out-Code (sym (rolls-Hash count body (codes key) c es)) ∙ out-roll-Code (F.Hash count body (codes key) c es));
  ordered = λ count body key c lo hi first one. told_scalar _ _ (F.Ord count body key c lo hi) (fold-Ord CodeForm code_form_step count body key c lo hi) refl (ap out-Code (sym (rolls-Ord count body key c lo hi)) ∙ out-roll-Code (F.Ord count body key c lo hi));
  select = λ es c one. told_scalar _ _ (F.Select es c) (fold-Select CodeForm code_form_step es c) refl (ap out-Code (sym (rolls-Select es c)) ∙ out-roll-Code (F.Select es c));
  filter = λ e c one. told_scalar _ _ (F.Filter e c) (fold-Filter CodeForm code_form_step e c) refl (ap out-Code (sym (rolls-Filter e c)) ∙ out-roll-Code (F.Filter e c));
  dep = λ j c d first second. told_scalar _ _ (F.Dep j c d) (fold-Dep CodeForm code_form_step j c d) refl (ap out-Code (sym (rolls-Dep j c d)) ∙ out-roll-Code (F.Dep j c d));
  group = λ ks aggs c one. told_scalar _ _ (F.Group ks aggs c) (fold-Group CodeForm code_form_step ks aggs c) refl (ap out-Code (sym (rolls-Group ks aggs c)) ∙ out-roll-Code (F.Group ks aggs c));
  order = λ ks c one. told_scalar _ _ (F.Order ks c) (fold-Order CodeForm code_form_step ks c) refl (ap out-Code (sym (rolls-Order ks c)) ∙ out-roll-Code (F.Order ks c));
  dedup = λ c one. told_scalar _ _ (F.Dedup c) (fold-Dedup CodeForm code_form_step c) refl (ap out-Code (sym (rolls-Dedup c)) ∙ out-roll-Code (F.Dedup c));
})

-- the form of a code alone
abbrev pub form_of : Code → Form
form_of c = (code_form c).form

-- the form of a code for a column of a key
abbrev pub key_form_of : Code → Form
key_form_of c = key_code_form (code_form c)

forms_of : (cs : List Code) → map form_in (map code_form cs) ≡ map form_of cs
forms_of [] = refl
forms_of (c ∷ cs) = ap (λ (fs : List Form). form_of c ∷ fs) (forms_of cs)

key_forms_of : (cs : List Code) → map key_code_form (map code_form cs) ≡ map key_form_of cs
key_forms_of [] = refl
key_forms_of (c ∷ cs) = ap (λ (fs : List Form). key_form_of c ∷ fs) (key_forms_of cs)

-- a list of kids, by the forms of the kids themselves
pub kids_form : (cs : List Code) → some_form form_in (map code_form cs) ≡ some_form form_of cs
kids_form cs = ap (λ (fs : List Form). only_if (is_some_list (map code_form cs)) (then_form (u16_form (length (map code_form cs))) (in_turn fs))) (forms_of cs)
    ∙ ap (λ n. only_if (nat_lt 0 n) (then_form (u16_form n) (in_turn (map form_of cs)))) (length-map cs code_form)

-- a code is read, of as many levels as may be
abbrev pub CodeReads : Code → Type 0
CodeReads c = (levels : ℕ) → Reads levels (code_in levels) (form_of c) c

node_reads : (c : Code) (kind : CodeTag) (parts : Form) (f : CodeForm) → code_form c ≡ f → f.form ≡ node (tag_number kind) parts → ((levels : ℕ) → Reads levels (λ s. code_after kind (code_in levels) (expr_in levels) s) parts c) → CodeReads c
node_reads c kind parts f folded has law = by
  where
    is : form_of c ≡ node (tag_number kind) parts
    is = ap (λ (x : CodeForm). x.form) folded ∙ has

    by : CodeReads c
    by zero s good = absurd (no_level (tag_number kind) parts (subst (Good zero) is good))
    by (suc levels) s good =
        ap (λ (g : Form). code_in (suc levels) (front g s)) is
        ∙ next_of (told code_tag tag_in (front (node (tag_number kind) parts) s)) (λ k t. code_after k (code_in levels) (expr_in levels) t) kind (front parts s)
        (next_of _ _ _ _ (tag_reads (tag_number kind) parts s (tag_small kind)) ∙ ap (λ (o : Option CodeTag). with_left o (front parts s)) (tag_told kind))
        ∙ law levels s (parts_good levels (tag_number kind) parts (subst (Good (suc levels)) is good))

kids_read : (levels : ℕ) (cs : List (With CodeReads)) → AllRead levels (code_in levels) form_of (codes cs)
kids_read levels [] = none_read
kids_read levels (c ∷ cs) = more_read (c.1 levels) (kids_read levels cs)

key_code_reads : (levels : ℕ) (c : Code) → CodeReads c → Reads levels (key_code_in (code_in levels)) (key_form_of c) c
key_code_reads levels c law s good =
    let same : key_form_of c ≡ only_if (is_scalar c) (form_of c) = ap (λ b. only_if b (form_of c)) (scalar_told c) in
    ap (λ (f : Form). key_code_in (code_in levels) (front f s)) same
    ∙ passing_reads levels is_scalar (code_in levels) (form_of c) c (law levels) s (subst (Good levels) same good)

keys_all_read : (levels : ℕ) (cs : List (With CodeReads)) → AllRead levels (key_code_in (code_in levels)) key_form_of (codes cs)
keys_all_read levels [] = none_read
keys_all_read levels (c ∷ cs) = more_read (key_code_reads levels c.0 c.1) (keys_all_read levels cs)

-- how many codes a key has
abbrev pub is_key_count : ℕ → Bool
is_key_count n = nat_lt 0 n && nat_le n 4

-- the codes of a key, the kid and the expressions, by the forms of the codes themselves
abbrev pub key_parts : List Code → Code → List Expr → Form
key_parts key kid by = only_if (is_key_count (length key) && eqb (length by) (length key)) (then_form (u8_form (length key)) (then_form (in_turn (map key_form_of key)) (then_form (form_of kid) (in_turn (map expr_form by)))))

pub key_form_is : (key : List Code) (kid : Code) (by : List Expr) → hash_key_form (map code_form key) (form_of kid) by ≡ key_parts key kid by
key_form_is key kid by =
    ap (λ n. only_if (is_key_count n && eqb (length by) n) (then_form (u8_form n) (then_form (in_turn (map key_code_form (map code_form key))) (then_form (form_of kid) (in_turn (map expr_form by)))))) (length-map key code_form)
    ∙ ap (λ (fs : List Form). only_if (is_key_count (length key) && eqb (length by) (length key)) (then_form (u8_form (length key)) (then_form (in_turn fs) (then_form (form_of kid) (in_turn (map expr_form by)))))) (key_forms_of key)

-- what stands behind the codes of a key
abbrev pub after_key : ℕ → List Code → Input → Option ((List Code × (Code × List Expr)) × Input)
after_key levels ks t = next (code_in levels t) (λ kid u. next (many (length ks) (expr_in levels) u) (λ es v. got (ks, (kid, es)) v))

key_tail_reads : (levels : ℕ) (key : List Code) (kid : Code) (by : List Expr) (s : Input) → length by ≡ length key → CodeReads kid → Good levels (then_form (form_of kid) (in_turn (map expr_form by)))
    → after_key levels key (front (then_form (form_of kid) (in_turn (map expr_form by))) s) ≡ Some ((key, (kid, by)), s)
key_tail_reads levels key kid by s same law good =
    let rest = in_turn (map expr_form by) in
    ap (after_key levels key) (front_then (form_of kid) rest s)
    ∙ next_of _ _ _ _ (law levels (front rest s) (first_good levels (form_of kid) rest good))
    ∙ next_of _ _ _ _ (ap (λ n. many n (expr_in levels) (front rest s)) (sym same) ∙ many_reads levels (expr_in levels) expr_form by (exprs_read levels by) s (second_good levels (form_of kid) rest good))

hash_key_reads : (levels : ℕ) (key : List (With CodeReads)) (kid : Code) (by : List Expr) → CodeReads kid → Reads levels (hash_key_in (code_in levels) (expr_in levels)) (key_parts (codes key) kid by) (codes key, (kid, by))
hash_key_reads levels key kid by law s good =
    let ks = codes key in
    let n = length ks in
    let tests = and_parts _ _ good.sound in
    let counts = and_parts _ _ tests.0 in
    let middle = in_turn (map key_form_of ks) in
    let tail = then_form (form_of kid) (in_turn (map expr_form by)) in
    let inner : Good levels (then_form (u8_form n) (then_form middle tail)) = record { sound = tests.1; depth = good.depth } in
    let behind = second_good levels (u8_form n) (then_form middle tail) inner in
    let head : Reads levels (passing is_key_count u8_in) (only_if (is_key_count n) (u8_form n)) n = passing_reads levels is_key_count u8_in (u8_form n) n (number_reads levels 255 n) in
    let first : passing is_key_count u8_in (front (u8_form n) (front (then_form middle tail) s)) ≡ Some (n, front (then_form middle tail) s) =
    head (front (then_form middle tail) s) (record { sound = and_from _ _ counts.0 (first_good levels (u8_form n) (then_form middle tail) inner).sound; depth = (first_good levels (u8_form n) (then_form middle tail) inner).depth }) in
    let second : many n (key_code_in (code_in levels)) (front (then_form middle tail) s) ≡ Some (ks, front tail s) =
    ap (many n (key_code_in (code_in levels))) (front_then middle tail s) ∙ many_reads levels (key_code_in (code_in levels)) key_form_of ks (keys_all_read levels key) (front tail s) (first_good levels middle tail behind) in
    ap (hash_key_in (code_in levels) (expr_in levels)) (front_then (u8_form n) (then_form middle tail) s)
    ∙ ap (λ o. next o (after_key levels)) (next_of _ (λ m t. many m (key_code_in (code_in levels)) t) _ _ first ∙ second)
    ∙ key_tail_reads levels ks kid by s (eqb-true _ _ counts.1) law (second_good levels middle tail behind)

abbrev pub list_parts : Range → Range → Code → Form
list_parts count body c = then_form (ranges_form count body) (form_of c)

abbrev pub hash_parts : Range → Range → List Code → Code → List Expr → Form
hash_parts count body key c by = then_form (ranges_form count body) (key_parts key c by)

abbrev pub ord_parts : Range → Range → Code → Code → Bound → Bound → Form
ord_parts count body key c lo hi = then_form (ranges_form count body) (then_form (key_form_of key) (then_form (form_of c) (then_form (bound_form lo) (bound_form hi))))

pub code_reads : (c : Code) → CodeReads c
code_reads = code_induction CodeReads (record {
  int = λ lo hi. node_reads _ tag.Int (int_parts lo hi) _ (fold-Int CodeForm code_form_step lo hi) refl (λ levels. made_reads levels (λ (x : ℤ × ℤ). C.Int x.0 x.1) (passing (λ (x : ℤ × ℤ). at_most_int x.0 x.1) (in_pair int_in int_in)) (int_parts lo hi) (lo, hi)
      (passing_reads levels (λ (x : ℤ × ℤ). at_most_int x.0 x.1) (in_pair int_in int_in) (then_form (int_form lo) (int_form hi)) (lo, hi) (pair_reads levels int_in int_in (int_form lo) (int_form hi) lo hi (int_reads levels lo) (int_reads levels hi))));
  bool = node_reads _ tag.Bool (plain true []) _ (fold-Bool CodeForm code_form_step) refl (λ levels s good. ap (got C.Bool) (same_input _ _ refl (zero_and s.nodes)));
  text = λ min max. node_reads _ tag.Text (text_parts min max) _ (fold-Text CodeForm code_form_step min max) refl (λ levels. made_reads levels (λ (x : ℕ × ℕ). C.Text x.0 x.1) (passing (λ (x : ℕ × ℕ). nat_le x.0 x.1) (in_pair u16_in u16_in)) (text_parts min max) (min, max)
      (passing_reads levels (λ (x : ℕ × ℕ). nat_le x.0 x.1) (in_pair u16_in u16_in) (then_form (u16_form min) (u16_form max)) (min, max) (pair_reads levels u16_in u16_in (u16_form min) (u16_form max) min max (number_reads levels 65535 min) (number_reads levels 65535 max))));
  cross = λ cs. node_reads _ tag.Cross (some_form form_of (codes cs)) _ (fold-Cross CodeForm code_form_step (codes cs)) (ap (node 4) (kids_form (codes cs))) (λ levels. made_reads levels C.Cross (some_in (code_in levels)) (some_form form_of (codes cs)) (codes cs) (some_reads levels (code_in levels) form_of (codes cs) (kids_read levels cs)));
  concat = λ cs. node_reads _ tag.Concat (some_form form_of (codes cs)) _ (fold-Concat CodeForm code_form_step (codes cs)) (ap (node 5) (kids_form (codes cs))) (λ levels. made_reads levels C.Concat (some_in (code_in levels)) (some_form form_of (codes cs)) (codes cs) (some_reads levels (code_in levels) form_of (codes cs) (kids_read levels cs)));
  list = λ count body c law. node_reads _ tag.List (list_parts count body c) _ (fold-List CodeForm code_form_step count body c) refl (λ levels. made_reads levels (λ (x : (Range × Range) × Code). C.List x.0.0 x.0.1 x.1) (in_pair ranges_in (code_in levels)) (list_parts count body c) ((count, body), c)
      (pair_reads levels ranges_in (code_in levels) (ranges_form count body) (form_of c) (count, body) c (ranges_reads levels count body) (law levels)));
  hash = λ count body key c es law. node_reads _ tag.Hash (hash_parts count body (codes key) c es) _ (fold-Hash CodeForm code_form_step count body (codes key) c es) (ap (λ (f : Form). node 7 (then_form (ranges_form count body) f)) (key_form_is (codes key) c es)) (λ levels.
      made_reads levels (λ (x : (Range × Range) × (List Code × (Code × List Expr))). C.Hash x.0.0 x.0.1 x.1.0 x.1.1.0 x.1.1.1) (in_pair ranges_in (hash_key_in (code_in levels) (expr_in levels))) (hash_parts count body (codes key) c es) ((count, body), (codes key, (c, es)))
      (pair_reads levels ranges_in (hash_key_in (code_in levels) (expr_in levels)) (ranges_form count body) (key_parts (codes key) c es) (count, body) (codes key, (c, es)) (ranges_reads levels count body) (hash_key_reads levels key c es law)));
  ordered = λ count body key c lo hi first law. node_reads _ tag.Ord (ord_parts count body key c lo hi) _ (fold-Ord CodeForm code_form_step count body key c lo hi) refl (λ levels.
      made_reads levels (λ (x : (Range × Range) × (Code × (Code × (Bound × Bound)))). C.Ord x.0.0 x.0.1 x.1.0 x.1.1.0 x.1.1.1.0 x.1.1.1.1) (in_pair ranges_in (in_pair (key_code_in (code_in levels)) (in_pair (code_in levels) (in_pair (bound_in (expr_in levels)) (bound_in (expr_in levels)))))) (ord_parts count body key c lo hi) ((count, body), (key, (c, (lo, hi))))
      (pair_reads levels ranges_in (in_pair (key_code_in (code_in levels)) (in_pair (code_in levels) (in_pair (bound_in (expr_in levels)) (bound_in (expr_in levels))))) (ranges_form count body) (then_form (key_form_of key) (then_form (form_of c) (then_form (bound_form lo) (bound_form hi)))) (count, body) (key, (c, (lo, hi))) (ranges_reads levels count body)
      (pair_reads levels (key_code_in (code_in levels)) (in_pair (code_in levels) (in_pair (bound_in (expr_in levels)) (bound_in (expr_in levels)))) (key_form_of key) (then_form (form_of c) (then_form (bound_form lo) (bound_form hi))) key (c, (lo, hi)) (key_code_reads levels key first)
      (pair_reads levels (code_in levels) (in_pair (bound_in (expr_in levels)) (bound_in (expr_in levels))) (form_of c) (then_form (bound_form lo) (bound_form hi)) c (lo, hi) (law levels)
      (pair_reads levels (bound_in (expr_in levels)) (bound_in (expr_in levels)) (bound_form lo) (bound_form hi) lo hi (bound_reads levels lo) (bound_reads levels hi))))));
  select = λ es c law. node_reads _ tag.Select (then_form (some_form expr_form es) (form_of c)) _ (fold-Select CodeForm code_form_step es c) refl (λ levels. made_reads levels (λ (x : List Expr × Code). C.Select x.0 x.1) (in_pair (some_in (expr_in levels)) (code_in levels)) (then_form (some_form expr_form es) (form_of c)) (es, c)
      (pair_reads levels (some_in (expr_in levels)) (code_in levels) (some_form expr_form es) (form_of c) es c (some_reads levels (expr_in levels) expr_form es (exprs_read levels es)) (law levels)));
  filter = λ e c law. node_reads _ tag.Filter (then_form (expr_form e) (form_of c)) _ (fold-Filter CodeForm code_form_step e c) refl (λ levels. made_reads levels (λ (x : Expr × Code). C.Filter x.0 x.1) (in_pair (expr_in levels) (code_in levels)) (then_form (expr_form e) (form_of c)) (e, c)
      (pair_reads levels (expr_in levels) (code_in levels) (expr_form e) (form_of c) e c (expr_reads e levels) (law levels)));
  dep = λ j c d first second. node_reads _ tag.Dep (then_form (u32_form j) (then_form (form_of c) (form_of d))) _ (fold-Dep CodeForm code_form_step j c d) refl (λ levels. made_reads levels (λ (x : ℕ × (Code × Code)). C.Dep x.0 x.1.0 x.1.1) (in_pair u32_in (in_pair (code_in levels) (code_in levels))) (then_form (u32_form j) (then_form (form_of c) (form_of d))) (j, (c, d))
      (pair_reads levels u32_in (in_pair (code_in levels) (code_in levels)) (u32_form j) (then_form (form_of c) (form_of d)) j (c, d) (number_reads levels 4294967295 j) (pair_reads levels (code_in levels) (code_in levels) (form_of c) (form_of d) c d (first levels) (second levels))));
  group = λ ks aggs c law. node_reads _ tag.Group (then_form (group_form ks aggs) (form_of c)) _ (fold-Group CodeForm code_form_step ks aggs c) refl (λ levels. made_reads levels (λ (x : (List ℕ × List Agg) × Code). C.Group x.0.0 x.0.1 x.1) (in_pair group_in (code_in levels)) (then_form (group_form ks aggs) (form_of c)) ((ks, aggs), c)
      (pair_reads levels group_in (code_in levels) (group_form ks aggs) (form_of c) (ks, aggs) c (group_reads levels ks aggs) (law levels)));
  order = λ ks c law. node_reads _ tag.Order (then_form (some_form key_form ks) (form_of c)) _ (fold-Order CodeForm code_form_step ks c) refl (λ levels. made_reads levels (λ (x : List Key × Code). C.Order x.0 x.1) (in_pair (some_in key_in) (code_in levels)) (then_form (some_form key_form ks) (form_of c)) (ks, c)
      (pair_reads levels (some_in key_in) (code_in levels) (some_form key_form ks) (form_of c) ks c (some_reads levels key_in key_form ks (keys_read levels ks)) (law levels)));
  dedup = λ c law. node_reads _ tag.Dedup (form_of c) _ (fold-Dedup CodeForm code_form_step c) refl (λ levels. made_reads levels C.Dedup (code_in levels) (form_of c) c (law levels));
})
