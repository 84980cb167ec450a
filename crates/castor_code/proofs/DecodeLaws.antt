-- What is read as a code is written as that code, and no two codes share their bytes.
use Rattle.std.proofs.Common.{◌≡◌, ◌∙◌, ℕ, zero, suc, ℤ, ◌+◌, ◌-◌, ◌≤◌, eqb, max, nat_le, List, [], ◌++◌, ◌⊎◌, inl, inr, Result, Ok, Err, is_ok, MatchResult, map, length, true, false, ◌&&◌, Option, Some, None, subst, ap, sym, refl, arith, append-nil}
use Rattle.std.proofs.lemmas.Bool.{and_parts, and_from, eq-eqb, le-leb, leb-true}
use Rattle.std.proofs.lemmas.Option.{some_pair_parts, none-some}
use Rattle.castor_alg.specs.declared.expr.Expr.{Expr}
use Rattle.castor_alg.specs.declared.rel.Agg.{Agg}
use Rattle.castor_alg.specs.declared.rel.Bound.{Bound}
use Rattle.castor_alg.specs.declared.rel.Key.{Key}
use Rattle.castor_code.specs.declared.code.Code.{Code}
use Rattle.castor_code.specs.declared.code.Code as C
use Rattle.castor_code.specs.declared.code.Range.{Range}
use Rattle.castor_code.specs.declared.tag.CodeTag.{CodeTag}
use Rattle.castor_code.specs.declared.tag.CodeTag.TheVariants as tag
use Rattle.castor_code.specs.declared.decoding.CodeError.{CodeError}
use Rattle.castor_code.specs.declared.decoding.CodeError.TheVariants.{NotCode, Memory}
use Rattle.castor_code.specs.CodeAnswers.{Takes, EndsWith, IsNoCode}
use Rattle.castor_code.specs.Pieces.{at_most_int}
use Rattle.castor_code.specs.Steps.{next, many, in_pair, passing}
use Rattle.castor_code.specs.Forms.{Form, plain, then_form, in_turn, only_if, u8_form, u16_form, u32_form, int_form, node}
use Rattle.castor_code.specs.Tags.{tag_number}
use Rattle.castor_code.specs.CodeForms.{expr_form, bound_form, key_form, ranges_form, group_form, some_form, int_parts, text_parts, CodeForm, code_form_step, code_form, is_well_formed, code_bytes, CodesDiffer}
use Rattle.castor_code.specs.CodeReadings.{Input, Parse, u8_in, u16_in, u32_in, int_in, told, tag_in, some_in, expr_in, bound_in, key_in, ranges_in, is_scalar, key_code_in, key_codes_in, hash_key_in, group_in, code_tag, code_after, code_in}
use Rattle.castor_code.proofs.CodeInduction.{fold-Int, fold-Bool, fold-Text, fold-Cross, fold-Concat, fold-List, fold-Hash, fold-Ord, fold-Select, fold-Filter, fold-Dep, fold-Group, fold-Order, fold-Dedup}
use Rattle.castor_code.proofs.StepLaws.{got, came}
use Rattle.castor_code.proofs.InputLaws.{front, Good, Writes, same_input, front_then, both_good, zero_and, number_writes, pair_writes, passing_writes, many_writes, node_good, tag_writes}
use Rattle.castor_code.proofs.NodeLaws.{Node, made_node, told_parts, int_writes}
use Rattle.castor_code.proofs.ExprLaws.{expr_writes}
use Rattle.castor_code.proofs.BesideLaws.{bound_writes, key_writes, ranges_writes, group_writes, some_writes}
use Rattle.castor_code.proofs.CodeLaws.{tag_is, scalar_told, form_of, key_form_of, kids_form, is_key_count, key_parts, key_form_is, after_key, list_parts, hash_parts, ord_parts, code_reads}

folded_form : (c : Code) (f : CodeForm) → code_form c ≡ f → form_of c ≡ f.form
folded_form c f is = ap (λ (x : CodeForm). x.form) is

module _ (levels : ℕ) (law : Writes levels (code_in levels) form_of) where
  abbrev one : Parse Code
  one = code_in levels

  abbrev other : Parse Expr
  other = expr_in levels

  key_code_writes : Writes levels (key_code_in one) key_form_of
  key_code_writes s t c is =
      let all = passing_writes levels is_scalar one form_of law s t c is in
      let same : only_if (is_scalar c) (form_of c) ≡ key_form_of c = ap (λ b. only_if b (form_of c)) (sym (scalar_told c)) in
      (subst (Good levels) same all.0, all.1 ∙ ap (λ (f : Form). front f t) same)

  -- the number of codes of a key, and the codes
  counted_key : (s t : Input) (ks : List Code) → key_codes_in one s ≡ Some (ks, t) → (is_key_count (length ks) ≡ true) × Good levels (then_form (u8_form (length ks)) (in_turn (map key_form_of ks))) × (s ≡ front (then_form (u8_form (length ks)) (in_turn (map key_form_of ks))) t)
  counted_key s t ks is =
      let b = came (passing is_key_count u8_in s) (λ n u. many n (key_code_in one) u) (ks, t) is in
      let head = passing_writes levels is_key_count u8_in u8_form (number_writes levels 255) s b.left b.first b.read in
      let all = many_writes levels (key_code_in one) key_form_of key_code_writes b.first b.left t ks b.answer in
      let tests = and_parts _ _ head.0.sound in
      let number : Good levels (u8_form b.first) = record { sound = tests.1; depth = head.0.depth } in (
        subst (λ n. is_key_count n ≡ true) (sym all.0) tests.0,
        both_good levels (u8_form (length ks)) (in_turn (map key_form_of ks)) (subst (λ n. Good levels (u8_form n)) (sym all.0) number) all.1,
        head.1 ∙ ap (front (u8_form b.first)) all.2 ∙ ap (λ n. front (u8_form n) (front (in_turn (map key_form_of ks)) t)) (sym all.0) ∙ sym (front_then (u8_form (length ks)) (in_turn (map key_form_of ks)) t),
      )

  -- the kid behind them, and as many expressions
  key_tail : (ks : List Code) (s t : Input) (x : List Code × (Code × List Expr)) → after_key levels ks s ≡ Some (x, t)
      → (ks ≡ x.0) × (length x.1.1 ≡ length ks) × Good levels (then_form (form_of x.1.0) (in_turn (map expr_form x.1.1))) × (s ≡ front (then_form (form_of x.1.0) (in_turn (map expr_form x.1.1))) t)
  key_tail ks s t x is =
      let b = came (one s) (λ kid u. next (many (length ks) other u) (λ es v. got (ks, (kid, es)) v)) (x, t) is in
      let c = came (many (length ks) other b.left) (λ es v. got (ks, (b.first, es)) v) (x, t) b.answer in
      let parts = some_pair_parts _ _ _ _ c.answer in
      let kid : b.first ≡ x.1.0 = ap (λ (y : List Code × (Code × List Expr)). y.1.0) parts.0 in
      let by : c.first ≡ x.1.1 = ap (λ (y : List Code × (Code × List Expr)). y.1.1) parts.0 in
      let head = law s b.left b.first b.read in
      let all = many_writes levels other expr_form (expr_writes levels) (length ks) b.left c.left c.first c.read in
      let tail_form = λ (y : List Code × (Code × List Expr)). then_form (form_of y.1.0) (in_turn (map expr_form y.1.1)) in (
        ap (λ (y : List Code × (Code × List Expr)). y.0) parts.0,
        ap length (sym by) ∙ all.0,
        subst (λ (y : List Code × (Code × List Expr)). Good levels (tail_form y)) parts.0 (both_good levels (form_of b.first) (in_turn (map expr_form c.first)) head.0 all.1),
        head.1 ∙ ap (front (form_of b.first)) all.2 ∙ sym (front_then (form_of b.first) (in_turn (map expr_form c.first)) c.left)
            ∙ ap (λ (y : List Code × (Code × List Expr)). front (tail_form y) c.left) parts.0 ∙ ap (front (tail_form x)) parts.1,
      )

  hash_key_writes : Writes levels (hash_key_in one other) (λ (x : List Code × (Code × List Expr)). key_parts x.0 x.1.0 x.1.1)
  hash_key_writes s t x is =
      let b = came (key_codes_in one s) (λ ks u. after_key levels ks u) (x, t) is in
      let head = counted_key s b.left b.first b.read in
      let tail = key_tail b.first b.left t x b.answer in
      let ks = b.first in
      let number = u8_form (length ks) in
      let middle = in_turn (map key_form_of ks) in
      let rest = then_form (form_of x.1.0) (in_turn (map expr_form x.1.1)) in
      let joined = both_good levels (then_form number middle) rest head.1 tail.2 in
      let sounds = and_parts (then_form number middle).sound rest.sound joined.sound in
      let fronts = and_parts number.sound middle.sound sounds.0 in
      let sound : (then_form number (then_form middle rest)).sound ≡ true = and_from _ _ fronts.0 (and_from _ _ fronts.1 sounds.1) in
      let tests : (is_key_count (length ks) && eqb (length x.1.1) (length ks)) ≡ true = and_from _ _ head.0 (eq-eqb _ _ tail.1) in
      let depth : (then_form number (then_form middle rest)).depth ≤ levels = deep number.depth middle.depth rest.depth joined.depth in
      let good : Good levels (key_parts ks x.1.0 x.1.1) = record { sound = and_from _ _ tests sound; depth = depth } in
      let left : s ≡ front (key_parts ks x.1.0 x.1.1) t = head.2 ∙ ap (front (then_form number middle)) tail.3 ∙ front_then number middle (front rest t) ∙ ap (front number) (sym (front_then middle rest t)) ∙ sym (front_then number (then_form middle rest) t) in
      (subst (λ (ys : List Code). Good levels (key_parts ys x.1.0 x.1.1)) tail.0 good, left ∙ ap (λ (ys : List Code). front (key_parts ys x.1.0 x.1.1) t) tail.0)
    where
      deep : (a b c : ℕ) → max (max a b) c ≤ levels → max a (max b c) ≤ levels
      deep a b c le = omega arith

  -- the node behind a tag is written as its parts
  kind_writes : (kind : CodeTag) (s t : Input) (c : Code) → code_after kind one other s ≡ Some (c, t) → Node levels (tag_number kind) form_of s t c
  kind_writes tag.Int s t c is = made_node levels 1 form_of (λ (x : ℤ × ℤ). C.Int x.0 x.1) (passing (λ (x : ℤ × ℤ). at_most_int x.0 x.1) (in_pair int_in int_in)) (λ (x : ℤ × ℤ). int_parts x.0 x.1) (λ x. folded_form _ _ (fold-Int CodeForm code_form_step x.0 x.1))
      (passing_writes levels (λ (x : ℤ × ℤ). at_most_int x.0 x.1) (in_pair int_in int_in) (λ (x : ℤ × ℤ). then_form (int_form x.0) (int_form x.1)) (pair_writes levels int_in int_in int_form int_form (int_writes levels) (int_writes levels))) s t c is
  kind_writes tag.Bool s t c is =
      let parts = some_pair_parts _ _ _ _ is in
      record { parts = plain true []; is = ap form_of (sym parts.0) ∙ folded_form _ _ (fold-Bool CodeForm code_form_step); good = record { sound = refl; depth = omega arith }; left = parts.1 ∙ same_input _ _ refl (sym (zero_and t.nodes)) }
  kind_writes tag.Text s t c is = made_node levels 3 form_of (λ (x : ℕ × ℕ). C.Text x.0 x.1) (passing (λ (x : ℕ × ℕ). nat_le x.0 x.1) (in_pair u16_in u16_in)) (λ (x : ℕ × ℕ). text_parts x.0 x.1) (λ x. folded_form _ _ (fold-Text CodeForm code_form_step x.0 x.1))
      (passing_writes levels (λ (x : ℕ × ℕ). nat_le x.0 x.1) (in_pair u16_in u16_in) (λ (x : ℕ × ℕ). then_form (u16_form x.0) (u16_form x.1)) (pair_writes levels u16_in u16_in u16_form u16_form (number_writes levels 65535) (number_writes levels 65535))) s t c is
  kind_writes tag.Cross s t c is = made_node levels 4 form_of C.Cross (some_in one) (some_form form_of) (λ cs. folded_form _ _ (fold-Cross CodeForm code_form_step cs) ∙ ap (node 4) (kids_form cs)) (some_writes levels one form_of law) s t c is
  kind_writes tag.Concat s t c is = made_node levels 5 form_of C.Concat (some_in one) (some_form form_of) (λ cs. folded_form _ _ (fold-Concat CodeForm code_form_step cs) ∙ ap (node 5) (kids_form cs)) (some_writes levels one form_of law) s t c is
  kind_writes tag.List s t c is = made_node levels 6 form_of (λ (x : (Range × Range) × Code). C.List x.0.0 x.0.1 x.1) (in_pair ranges_in one) (λ (x : (Range × Range) × Code). list_parts x.0.0 x.0.1 x.1) (λ x. folded_form _ _ (fold-List CodeForm code_form_step x.0.0 x.0.1 x.1))
      (pair_writes levels ranges_in one (λ (x : Range × Range). ranges_form x.0 x.1) form_of (ranges_writes levels) law) s t c is
  kind_writes tag.Hash s t c is = made_node levels 7 form_of (λ (x : (Range × Range) × (List Code × (Code × List Expr))). C.Hash x.0.0 x.0.1 x.1.0 x.1.1.0 x.1.1.1) (in_pair ranges_in (hash_key_in one other)) (λ (x : (Range × Range) × (List Code × (Code × List Expr))). hash_parts x.0.0 x.0.1 x.1.0 x.1.1.0 x.1.1.1)
      (λ x. folded_form _ _ (fold-Hash CodeForm code_form_step x.0.0 x.0.1 x.1.0 x.1.1.0 x.1.1.1) ∙ ap (λ (f : Form). node 7 (then_form (ranges_form x.0.0 x.0.1) f)) (key_form_is x.1.0 x.1.1.0 x.1.1.1))
      (pair_writes levels ranges_in (hash_key_in one other) (λ (x : Range × Range). ranges_form x.0 x.1) (λ (x : List Code × (Code × List Expr)). key_parts x.0 x.1.0 x.1.1) (ranges_writes levels) hash_key_writes) s t c is
  kind_writes tag.Ord s t c is = made_node levels 8 form_of (λ (x : (Range × Range) × (Code × (Code × (Bound × Bound)))). C.Ord x.0.0 x.0.1 x.1.0 x.1.1.0 x.1.1.1.0 x.1.1.1.1) (in_pair ranges_in (in_pair (key_code_in one) (in_pair one (in_pair (bound_in other) (bound_in other)))))
      (λ (x : (Range × Range) × (Code × (Code × (Bound × Bound)))). ord_parts x.0.0 x.0.1 x.1.0 x.1.1.0 x.1.1.1.0 x.1.1.1.1) (λ x. folded_form _ _ (fold-Ord CodeForm code_form_step x.0.0 x.0.1 x.1.0 x.1.1.0 x.1.1.1.0 x.1.1.1.1))
      (pair_writes levels ranges_in (in_pair (key_code_in one) (in_pair one (in_pair (bound_in other) (bound_in other)))) (λ (x : Range × Range). ranges_form x.0 x.1) (λ (x : Code × (Code × (Bound × Bound))). then_form (key_form_of x.0) (then_form (form_of x.1.0) (then_form (bound_form x.1.1.0) (bound_form x.1.1.1)))) (ranges_writes levels)
      (pair_writes levels (key_code_in one) (in_pair one (in_pair (bound_in other) (bound_in other))) key_form_of (λ (x : Code × (Bound × Bound)). then_form (form_of x.0) (then_form (bound_form x.1.0) (bound_form x.1.1))) key_code_writes
      (pair_writes levels one (in_pair (bound_in other) (bound_in other)) form_of (λ (x : Bound × Bound). then_form (bound_form x.0) (bound_form x.1)) law
      (pair_writes levels (bound_in other) (bound_in other) bound_form bound_form (bound_writes levels) (bound_writes levels))))) s t c is
  kind_writes tag.Select s t c is = made_node levels 9 form_of (λ (x : List Expr × Code). C.Select x.0 x.1) (in_pair (some_in other) one) (λ (x : List Expr × Code). then_form (some_form expr_form x.0) (form_of x.1)) (λ x. folded_form _ _ (fold-Select CodeForm code_form_step x.0 x.1))
      (pair_writes levels (some_in other) one (some_form expr_form) form_of (some_writes levels other expr_form (expr_writes levels)) law) s t c is
  kind_writes tag.Filter s t c is = made_node levels 10 form_of (λ (x : Expr × Code). C.Filter x.0 x.1) (in_pair other one) (λ (x : Expr × Code). then_form (expr_form x.0) (form_of x.1)) (λ x. folded_form _ _ (fold-Filter CodeForm code_form_step x.0 x.1))
      (pair_writes levels other one expr_form form_of (expr_writes levels) law) s t c is
  kind_writes tag.Dep s t c is = made_node levels 11 form_of (λ (x : ℕ × (Code × Code)). C.Dep x.0 x.1.0 x.1.1) (in_pair u32_in (in_pair one one)) (λ (x : ℕ × (Code × Code)). then_form (u32_form x.0) (then_form (form_of x.1.0) (form_of x.1.1))) (λ x. folded_form _ _ (fold-Dep CodeForm code_form_step x.0 x.1.0 x.1.1))
      (pair_writes levels u32_in (in_pair one one) u32_form (λ (x : Code × Code). then_form (form_of x.0) (form_of x.1)) (number_writes levels 4294967295) (pair_writes levels one one form_of form_of law law)) s t c is
  kind_writes tag.Group s t c is = made_node levels 12 form_of (λ (x : (List ℕ × List Agg) × Code). C.Group x.0.0 x.0.1 x.1) (in_pair group_in one) (λ (x : (List ℕ × List Agg) × Code). then_form (group_form x.0.0 x.0.1) (form_of x.1)) (λ x. folded_form _ _ (fold-Group CodeForm code_form_step x.0.0 x.0.1 x.1))
      (pair_writes levels group_in one (λ (x : List ℕ × List Agg). group_form x.0 x.1) form_of (group_writes levels) law) s t c is
  kind_writes tag.Order s t c is = made_node levels 13 form_of (λ (x : List Key × Code). C.Order x.0 x.1) (in_pair (some_in key_in) one) (λ (x : List Key × Code). then_form (some_form key_form x.0) (form_of x.1)) (λ x. folded_form _ _ (fold-Order CodeForm code_form_step x.0 x.1))
      (pair_writes levels (some_in key_in) one (some_form key_form) form_of (some_writes levels key_in key_form (key_writes levels)) law) s t c is
  kind_writes tag.Dedup s t c is = made_node levels 14 form_of C.Dedup one form_of (λ d. folded_form _ _ (fold-Dedup CodeForm code_form_step d)) law s t c is

pub code_writes : (levels : ℕ) → Writes levels (code_in levels) form_of
code_writes zero s t c is = absurd (none-some _ is)
code_writes (suc levels) s t c is =
    let b = came (told code_tag tag_in s) (λ kind u. code_after kind (code_in levels) (expr_in levels) u) (c, t) is in
    let tag = told_parts zero code_tag tag_in s b.left b.first b.read in
    let n = kind_writes levels (code_writes levels) b.first b.left t c b.answer in
    let number : tag.0 ≡ tag_number b.first = tag_is tag.0 b.first tag.2 in (
      subst (Good (suc levels)) (sym n.is) (node_good levels (tag_number b.first) n.parts n.good),
      tag_writes s b.left tag.0 tag.1 n.parts t n.left ∙ ap (λ m. front (node m n.parts) t) number ∙ ap (λ (f : Form). front f t) (sym n.is),
    )

-- all that is to be read of a code
abbrev pub all_of : List ℕ → Input
all_of bytes = record { bytes = bytes; nodes = 8192 }

-- what is left of the nodes that a code might have
abbrev pub spare : Code → Input
spare c = record { bytes = []; nodes = 8192 - (form_of c).nodes }

pub decoded : (c : Code) → is_well_formed c ≡ true → code_in 64 (all_of (code_bytes c)) ≡ Some (c, spare c)
decoded c ok =
    let tests = and_parts _ _ ok in
    let limits = and_parts _ _ tests.1 in
    let few : (form_of c).nodes ≤ 8192 = leb-true _ _ limits.0 in
    let shallow : (form_of c).depth ≤ 64 = leb-true _ _ limits.1 in
    let whole : all_of (code_bytes c) ≡ front (form_of c) (spare c) = same_input _ _ (sym (append-nil (code_bytes c))) (counted (form_of c).nodes few) in
    ap (code_in 64) whole ∙ code_reads c 64 (spare c) (record { sound = tests.0; depth = shallow })
  where
    counted : (n : ℕ) → n ≤ 8192 → 8192 ≡ n + (8192 - n)
    counted n few = omega arith

pub encoded : (bytes : List ℕ) (c : Code) (left : Input) → code_in 64 (all_of bytes) ≡ Some (c, left) → left.bytes ≡ [] → (is_well_formed c ≡ true) × (bytes ≡ code_bytes c)
encoded bytes c left is none =
    let all = code_writes 64 (all_of bytes) left c is in
    let nodes : 8192 ≡ (form_of c).nodes + left.nodes = ap (λ (x : Input). x.nodes) all.1 in
    let same : bytes ≡ code_bytes c ++ left.bytes = ap (λ (x : Input). x.bytes) all.1 in
    let few : nat_le (form_of c).nodes 8192 ≡ true = le-leb _ _ (omega arith) in
    let shallow : nat_le (form_of c).depth 64 ≡ true = le-leb _ _ all.0.depth in
    (and_from _ _ all.0.sound (and_from _ _ few shallow), same ∙ ap (λ (xs : List ℕ). code_bytes c ++ xs) none ∙ append-nil (code_bytes c))

none_is : {X : Type 0} (o : Option X) (x : X) → o ≡ None → o ≡ Some x → ⊥
none_is o x none is = none-some x (sym none ∙ is)

-- where nothing is read there is no code
not_read : (bytes : List ℕ) → code_in 64 (all_of bytes) ≡ None → IsNoCode bytes
not_read bytes none c ok same = none_is (code_in 64 (all_of bytes)) (c, spare c) none (ap (λ bs. code_in 64 (all_of bs)) same ∙ decoded c ok)

-- and none where something is left behind a code
not_all : (bytes : List ℕ) (d : Code) (left : Input) → code_in 64 (all_of bytes) ≡ Some (d, left) → (left.bytes ≡ [] → ⊥) → IsNoCode bytes
not_all bytes d left is more c ok same = more (ap (λ (x : Input). x.bytes) (some_pair_parts _ _ _ _ (sym is ∙ ap (λ bs. code_in 64 (all_of bs)) same ∙ decoded c ok)).1)

abbrev Decodes : List ℕ → Result Code CodeError → Type 0
Decodes bytes r = MatchResult r (λ c. (is_well_formed c ≡ true) × (bytes ≡ code_bytes c)) (λ e. (e ≡ Memory) ⊎ ((e ≡ NotCode) × IsNoCode bytes))

refused : (bytes : List ℕ) (left : Input) (e : CodeError) → (e ≡ Memory) ⊎ ((e ≡ NotCode) × (code_in 64 (all_of bytes) ≡ None)) → (e ≡ Memory) ⊎ ((e ≡ NotCode) × IsNoCode bytes)
refused bytes left e (inl memory) = inl memory
refused bytes left e (inr due) = inr (due.0, not_read bytes due.1)

abbrev ok_in : Code → Result Code CodeError → Code
ok_in d (Ok c) = c
ok_in d (Err e) = d

abbrev err_in : CodeError → Result Code CodeError → CodeError
err_in w (Ok c) = w
err_in w (Err e) = e

not_both : (c : Code) (e : CodeError) (r s : Result Code CodeError) → r ≡ Ok c → s ≡ Err e → r ≡ s → ⊥
not_both c e r s ok err same = let no : true ≡ false = ap is_ok (sym ok ∙ same ∙ err) in absurd cc

-- what is decoded, of what is read and of what is left then
pub decodes : (bytes : List ℕ) (left : Input) (read r : Result Code CodeError) → Takes (λ c. c) (code_in 64 (all_of bytes)) left read → EndsWith read left.bytes r → Decodes bytes r
decodes bytes left (Ok d) (Ok c) took ends =
    let same : d ≡ c = ap (ok_in d) ends.0 in
    let read : code_in 64 (all_of bytes) ≡ Some (c, left) = took ∙ ap (λ (x : Code). got {X = Code} {S = Input} x left) same in
    encoded bytes c left read ends.1
decodes bytes left (Err w) (Ok c) took ends = absurd (not_both c w (Ok c) (Err w) refl refl (sym ends.0))
decodes bytes left (Ok d) (Err e) took (inl same) = absurd (not_both d e (Ok d) (Err e) refl refl same)
decodes bytes left (Err w) (Err e) took (inl same) = subst (λ x. (x ≡ Memory) ⊎ ((x ≡ NotCode) × IsNoCode bytes)) (ap (err_in w) same) (refused bytes left w took)
decodes bytes left (Ok d) (Err e) took (inr more) = inr (more.0, not_all bytes d left took more.1.1)
decodes bytes left (Err w) (Err e) took (inr more) = let no : false ≡ true = more.1.0 in absurd cc

-- two well-formed codes never share their bytes
pub codes_differ : CodesDiffer
codes_differ c d fine good same = (some_pair_parts _ _ _ _ (sym (decoded c fine) ∙ ap (λ bs. code_in 64 (all_of bs)) same ∙ decoded d good)).0
