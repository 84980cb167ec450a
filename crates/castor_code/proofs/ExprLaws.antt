-- Expressions and what stands beside them: what is written is read, and what is read is so written.
use Rattle.std.proofs.Common.{◌≡◌, ◌∙◌, ℕ, zero, suc, ◌+◌, ◌-◌, ◌≤◌, nat_lt, Bool, true, false, if◌then◌else◌, slice_get, Option, Some, None, subst, ap, sym, refl, arith}
use Rattle.std.proofs.lemmas.Bool.{ltb-false}
use Rattle.std.proofs.lemmas.Option.{none-some, same_Some}
use Rattle.castor_val.specs.declared.value.Value.{Value}
use Rattle.castor_val.specs.declared.value.Value.TheVariants.{Int, Bool as Truth, Text}
use Rattle.castor_alg.specs.declared.expr.Op.{Op}
use Rattle.castor_alg.specs.declared.expr.Op.TheVariants.{Or, And, Eq, Ne, Lt, Le, Gt, Ge, Add, Sub, Mul, Div, Rem}
use Rattle.castor_alg.specs.declared.expr.Expr.{Expr}
use Rattle.castor_alg.specs.declared.expr.Expr as E
use Rattle.castor_alg.proofs.ExprInduction.{expr_induction, fold-Col, fold-Scope, fold-Param, fold-Lit, fold-Bin, fold-Not, fold-If}
use Rattle.castor_code.specs.declared.tag.ExprTag.{ExprTag}
use Rattle.castor_code.specs.declared.tag.ExprTag.TheVariants as part
use Rattle.castor_code.specs.Steps.{in_pair}
use Rattle.castor_code.specs.Forms.{Form, then_form, u8_form, u32_form, int_form, bool_form, text_form, node}
use Rattle.castor_code.specs.Tags.{expr_number}
use Rattle.castor_code.specs.CodeForms.{op_number, expr_form_step, expr_form}
use Rattle.castor_code.specs.CodeReadings.{Input, u8_in, u32_in, int_in, bool_in, text_in, told, with_left, tag_in, ops, op_in, expr_tags, expr_tag, expr_after, expr_in}
use Rattle.castor_code.proofs.StepLaws.{next_of, came}
use Rattle.castor_code.proofs.InputLaws.{front, Good, Reads, Writes, number_reads, number_writes, pair_reads, pair_writes, made_reads, parts_good, no_level, node_good, tag_reads, tag_writes}
use Rattle.castor_code.proofs.NodeLaws.{Node, made_node, told_reads, told_parts, told_writes, int_reads, int_writes, bool_reads, bool_writes, text_reads, text_writes}

-- an operator has its number alone
op_told : (op : Op) → slice_get ops (op_number op) ≡ Some op
op_told Or = refl
op_told And = refl
op_told Eq = refl
op_told Ne = refl
op_told Lt = refl
op_told Le = refl
op_told Gt = refl
op_told Ge = refl
op_told Add = refl
op_told Sub = refl
op_told Mul = refl
op_told Div = refl
op_told Rem = refl

op_place : (n : ℕ) (op : Op) → slice_get ops n ≡ Some op → n ≡ op_number op
op_place zero op is = ap op_number (same_Some Or op is)
op_place (suc zero) op is = ap op_number (same_Some And op is)
op_place (suc (suc zero)) op is = ap op_number (same_Some Eq op is)
op_place (suc (suc (suc zero))) op is = ap op_number (same_Some Ne op is)
op_place (suc (suc (suc (suc zero)))) op is = ap op_number (same_Some Lt op is)
op_place (suc (suc (suc (suc (suc zero))))) op is = ap op_number (same_Some Le op is)
op_place (suc (suc (suc (suc (suc (suc zero)))))) op is = ap op_number (same_Some Gt op is)
op_place (suc (suc (suc (suc (suc (suc (suc zero))))))) op is = ap op_number (same_Some Ge op is)
op_place (suc (suc (suc (suc (suc (suc (suc (suc zero)))))))) op is = ap op_number (same_Some Add op is)
op_place (suc (suc (suc (suc (suc (suc (suc (suc (suc zero))))))))) op is = ap op_number (same_Some Sub op is)
op_place (suc (suc (suc (suc (suc (suc (suc (suc (suc (suc zero)))))))))) op is = ap op_number (same_Some Mul op is)
op_place (suc (suc (suc (suc (suc (suc (suc (suc (suc (suc (suc zero))))))))))) op is = ap op_number (same_Some Div op is)
op_place (suc (suc (suc (suc (suc (suc (suc (suc (suc (suc (suc (suc zero)))))))))))) op is = ap op_number (same_Some Rem op is)
op_place (suc (suc (suc (suc (suc (suc (suc (suc (suc (suc (suc (suc (suc n))))))))))))) op is = absurd (none-some op is)

-- a node has its tag alone
tag_told : (kind : ExprTag) → expr_tag (expr_number kind) ≡ Some kind
tag_told part.Col = refl
tag_told part.Scope = refl
tag_told part.Param = refl
tag_told part.Int = refl
tag_told part.Bool = refl
tag_told part.Text = refl
tag_told part.Bin = refl
tag_told part.Not = refl
tag_told part.If = refl

tag_small : (kind : ExprTag) → expr_number kind ≤ 255
tag_small part.Col = omega arith
tag_small part.Scope = omega arith
tag_small part.Param = omega arith
tag_small part.Int = omega arith
tag_small part.Bool = omega arith
tag_small part.Text = omega arith
tag_small part.Bin = omega arith
tag_small part.Not = omega arith
tag_small part.If = omega arith

tag_place : (n : ℕ) (kind : ExprTag) → slice_get expr_tags n ≡ Some kind → 32 + n ≡ expr_number kind
tag_place zero kind is = ap expr_number (same_Some part.Col kind is)
tag_place (suc zero) kind is = ap expr_number (same_Some part.Scope kind is)
tag_place (suc (suc zero)) kind is = ap expr_number (same_Some part.Param kind is)
tag_place (suc (suc (suc zero))) kind is = ap expr_number (same_Some part.Int kind is)
tag_place (suc (suc (suc (suc zero)))) kind is = ap expr_number (same_Some part.Bool kind is)
tag_place (suc (suc (suc (suc (suc zero))))) kind is = ap expr_number (same_Some part.Text kind is)
tag_place (suc (suc (suc (suc (suc (suc zero)))))) kind is = ap expr_number (same_Some part.Bin kind is)
tag_place (suc (suc (suc (suc (suc (suc (suc zero))))))) kind is = ap expr_number (same_Some part.Not kind is)
tag_place (suc (suc (suc (suc (suc (suc (suc (suc zero)))))))) kind is = ap expr_number (same_Some part.If kind is)
tag_place (suc (suc (suc (suc (suc (suc (suc (suc (suc n))))))))) kind is = absurd (none-some kind is)

tag_above : (n : ℕ) (kind : ExprTag) (b : Bool) → nat_lt n 32 ≡ b → (if b then None else slice_get expr_tags (n - 32)) ≡ Some kind → n ≡ expr_number kind
tag_above n kind true small is = absurd (none-some kind is)
tag_above n kind false small is =
    let place = tag_place (n - 32) kind is in
    let above : 32 ≤ n = ltb-false n 32 small in
    omega arith

tag_is : (n : ℕ) (kind : ExprTag) → expr_tag n ≡ Some kind → n ≡ expr_number kind
tag_is n kind is = tag_above n kind (nat_lt n 32) refl is

op_reads : (levels : ℕ) (op : Op) → Reads levels op_in (u8_form (op_number op)) op
op_reads levels op = told_reads levels (slice_get ops) u8_in (u8_form (op_number op)) (op_number op) op (op_told op) (number_reads levels 255 (op_number op))

op_writes : (levels : ℕ) → Writes levels op_in (λ op. u8_form (op_number op))
op_writes levels = told_writes levels (slice_get ops) u8_in u8_form (λ op. u8_form (op_number op)) (λ n op is. ap u8_form (op_place n op is)) (number_writes levels 255)

-- an expression is read, of as many levels as may be
abbrev pub ExprReads : Expr → Type 0
ExprReads e = (levels : ℕ) → Reads levels (expr_in levels) (expr_form e) e

node_reads : (e : Expr) (kind : ExprTag) (parts : Form) → expr_form e ≡ node (expr_number kind) parts → ((levels : ℕ) → Reads levels (λ s. expr_after kind (expr_in levels) s) parts e) → ExprReads e
node_reads e kind parts is law zero s good = absurd (no_level (expr_number kind) parts (subst (Good zero) is good))
node_reads e kind parts is law (suc levels) s good =
    ap (λ (f : Form). expr_in (suc levels) (front f s)) is
    ∙ next_of (told expr_tag tag_in (front (node (expr_number kind) parts) s)) (λ k t. expr_after k (expr_in levels) t) kind (front parts s)
    (next_of _ _ _ _ (tag_reads (expr_number kind) parts s (tag_small kind)) ∙ ap (λ (o : Option ExprTag). with_left o (front parts s)) (tag_told kind))
    ∙ law levels s (parts_good levels (expr_number kind) parts (subst (Good (suc levels)) is good))

literal_reads : (v : Value) → ExprReads (E.Lit v)
literal_reads (Int z) = node_reads _ part.Int (int_form z) (fold-Lit Form expr_form_step (Int z)) (λ levels. made_reads levels (λ x. E.Lit (Int x)) int_in (int_form z) z (int_reads levels z))
literal_reads (Truth b) = node_reads _ part.Bool (bool_form b) (fold-Lit Form expr_form_step (Truth b)) (λ levels. made_reads levels (λ x. E.Lit (Truth x)) bool_in (bool_form b) b (bool_reads levels b))
literal_reads (Text t) = node_reads _ part.Text (text_form t) (fold-Lit Form expr_form_step (Text t)) (λ levels. made_reads levels (λ x. E.Lit (Text x)) text_in (text_form t) t (text_reads levels t))

pub expr_reads : (e : Expr) → ExprReads e
expr_reads = expr_induction ExprReads (record {
  col = λ i. node_reads _ part.Col (u32_form i) (fold-Col Form expr_form_step i) (λ levels. made_reads levels E.Col u32_in (u32_form i) i (number_reads levels 4294967295 i));
  scope = λ j i. node_reads _ part.Scope (then_form (u32_form j) (u32_form i)) (fold-Scope Form expr_form_step j i) (λ levels. made_reads levels (λ (x : ℕ × ℕ). E.Scope x.0 x.1) (in_pair u32_in u32_in) (then_form (u32_form j) (u32_form i)) (j, i) (pair_reads levels u32_in u32_in (u32_form j) (u32_form i) j i (number_reads levels 4294967295 j) (number_reads levels 4294967295 i)));
  param = λ i. node_reads _ part.Param (u32_form i) (fold-Param Form expr_form_step i) (λ levels. made_reads levels E.Param u32_in (u32_form i) i (number_reads levels 4294967295 i));
  lit = literal_reads;
  bin = λ op a b first second. node_reads _ part.Bin (then_form (u8_form (op_number op)) (then_form (expr_form a) (expr_form b))) (fold-Bin Form expr_form_step op a b) (λ levels.
      made_reads levels (λ (x : Op × (Expr × Expr)). E.Bin x.0 x.1.0 x.1.1) (in_pair op_in (in_pair (expr_in levels) (expr_in levels))) (then_form (u8_form (op_number op)) (then_form (expr_form a) (expr_form b))) (op, (a, b))
      (pair_reads levels op_in (in_pair (expr_in levels) (expr_in levels)) (u8_form (op_number op)) (then_form (expr_form a) (expr_form b)) op (a, b) (op_reads levels op)
      (pair_reads levels (expr_in levels) (expr_in levels) (expr_form a) (expr_form b) a b (first levels) (second levels))));
  not = λ a first. node_reads _ part.Not (expr_form a) (fold-Not Form expr_form_step a) (λ levels. made_reads levels E.Not (expr_in levels) (expr_form a) a (first levels));
  cond = λ c a b zeroth first second. node_reads _ part.If (then_form (expr_form c) (then_form (expr_form a) (expr_form b))) (fold-If Form expr_form_step c a b) (λ levels.
      made_reads levels (λ (x : Expr × (Expr × Expr)). E.If x.0 x.1.0 x.1.1) (in_pair (expr_in levels) (in_pair (expr_in levels) (expr_in levels))) (then_form (expr_form c) (then_form (expr_form a) (expr_form b))) (c, (a, b))
      (pair_reads levels (expr_in levels) (in_pair (expr_in levels) (expr_in levels)) (expr_form c) (then_form (expr_form a) (expr_form b)) c (a, b) (zeroth levels)
      (pair_reads levels (expr_in levels) (expr_in levels) (expr_form a) (expr_form b) a b (first levels) (second levels))));
})

-- the node behind a tag is written as its parts
module _ (levels : ℕ) (law : Writes levels (expr_in levels) expr_form) where
  two : Writes levels (in_pair (expr_in levels) (expr_in levels)) (λ (x : Expr × Expr). then_form (expr_form x.0) (expr_form x.1))
  two = pair_writes levels (expr_in levels) (expr_in levels) expr_form expr_form law law

  kind_writes : (kind : ExprTag) (s t : Input) (e : Expr) → expr_after kind (expr_in levels) s ≡ Some (e, t) → Node levels (expr_number kind) expr_form s t e
  kind_writes part.Col s t e is = made_node levels 32 expr_form E.Col u32_in u32_form (λ i. fold-Col Form expr_form_step i) (number_writes levels 4294967295) s t e is
  kind_writes part.Scope s t e is = made_node levels 33 expr_form (λ (x : ℕ × ℕ). E.Scope x.0 x.1) (in_pair u32_in u32_in) (λ (x : ℕ × ℕ). then_form (u32_form x.0) (u32_form x.1)) (λ x. fold-Scope Form expr_form_step x.0 x.1) (pair_writes levels u32_in u32_in u32_form u32_form (number_writes levels 4294967295) (number_writes levels 4294967295)) s t e is
  kind_writes part.Param s t e is = made_node levels 34 expr_form E.Param u32_in u32_form (λ i. fold-Param Form expr_form_step i) (number_writes levels 4294967295) s t e is
  kind_writes part.Int s t e is = made_node levels 35 expr_form (λ z. E.Lit (Int z)) int_in int_form (λ z. fold-Lit Form expr_form_step (Int z)) (int_writes levels) s t e is
  kind_writes part.Bool s t e is = made_node levels 36 expr_form (λ b. E.Lit (Truth b)) bool_in bool_form (λ b. fold-Lit Form expr_form_step (Truth b)) (bool_writes levels) s t e is
  kind_writes part.Text s t e is = made_node levels 37 expr_form (λ x. E.Lit (Text x)) text_in text_form (λ x. fold-Lit Form expr_form_step (Text x)) (text_writes levels) s t e is
  kind_writes part.Bin s t e is = made_node levels 38 expr_form (λ (x : Op × (Expr × Expr)). E.Bin x.0 x.1.0 x.1.1) (in_pair op_in (in_pair (expr_in levels) (expr_in levels))) (λ (x : Op × (Expr × Expr)). then_form (u8_form (op_number x.0)) (then_form (expr_form x.1.0) (expr_form x.1.1))) (λ x. fold-Bin Form expr_form_step x.0 x.1.0 x.1.1)
      (pair_writes levels op_in (in_pair (expr_in levels) (expr_in levels)) (λ op. u8_form (op_number op)) (λ (x : Expr × Expr). then_form (expr_form x.0) (expr_form x.1)) (op_writes levels) two) s t e is
  kind_writes part.Not s t e is = made_node levels 39 expr_form E.Not (expr_in levels) expr_form (λ a. fold-Not Form expr_form_step a) law s t e is
  kind_writes part.If s t e is = made_node levels 40 expr_form (λ (x : Expr × (Expr × Expr)). E.If x.0 x.1.0 x.1.1) (in_pair (expr_in levels) (in_pair (expr_in levels) (expr_in levels))) (λ (x : Expr × (Expr × Expr)). then_form (expr_form x.0) (then_form (expr_form x.1.0) (expr_form x.1.1))) (λ x. fold-If Form expr_form_step x.0 x.1.0 x.1.1)
      (pair_writes levels (expr_in levels) (in_pair (expr_in levels) (expr_in levels)) expr_form (λ (x : Expr × Expr). then_form (expr_form x.0) (expr_form x.1)) law two) s t e is

pub expr_writes : (levels : ℕ) → Writes levels (expr_in levels) expr_form
expr_writes zero s t e is = absurd (none-some _ is)
expr_writes (suc levels) s t e is =
    let b = came (told expr_tag tag_in s) (λ kind u. expr_after kind (expr_in levels) u) (e, t) is in
    let tag = told_parts zero expr_tag tag_in s b.left b.first b.read in
    let n = kind_writes levels (expr_writes levels) b.first b.left t e b.answer in
    let number : tag.0 ≡ expr_number b.first = tag_is tag.0 b.first tag.2 in (
      subst (Good (suc levels)) (sym n.is) (node_good levels (expr_number b.first) n.parts n.good),
      tag_writes s b.left tag.0 tag.1 n.parts t n.left ∙ ap (λ m. front (node m n.parts) t) number ∙ ap (λ (f : Form). front f t) (sym n.is),
    )
