-- The bytes of codes, and the codes that are well formed.
use Rattle.std.specs.Prelude.{◌≡◌, ℕ, ℤ, nat_lt, nat_le, ◌==◌, List, [], map, length, Bool, true, false, ◌&&◌, ◌||◌}
use Rattle.castor_val.specs.Limits.{most_code_nodes, most_depth}
use Rattle.castor_val.specs.declared.value.Value.{Value}
use Rattle.castor_val.specs.declared.value.Value.TheVariants.{Int, Bool as Truth, Text}
use Rattle.castor_alg.specs.declared.expr.Op.{Op}
use Rattle.castor_alg.specs.declared.expr.Op.TheVariants.{Or, And, Eq, Ne, Lt, Le, Gt, Ge, Add, Sub, Mul, Div, Rem}
use Rattle.castor_alg.specs.declared.expr.Expr.{Expr, fold-Expr}
use Rattle.castor_alg.specs.declared.expr.Expr.TheOpen.{Expr-F, Col, Scope, Param, Lit, Bin, Not, If}
use Rattle.castor_alg.specs.declared.rel.Agg.{Agg}
use Rattle.castor_alg.specs.declared.rel.Agg.TheVariants.{Count, Sum, Min, Max}
use Rattle.castor_alg.specs.declared.rel.Bound.{Bound}
use Rattle.castor_alg.specs.declared.rel.Bound.TheVariants.{Any, Incl, Excl}
use Rattle.castor_alg.specs.declared.rel.Key.{Key}
use Rattle.castor_code.specs.declared.code.Code.{Code, fold-Code}
use Rattle.castor_code.specs.declared.code.Code.TheOpen.{Code-F}
use Rattle.castor_code.specs.declared.code.Code.TheOpen as code
use Rattle.castor_code.specs.declared.code.Range.{Range}
use Rattle.castor_code.specs.Forms.{Form, plain, then_form, in_turn, only_if, u8_form, u16_form, u32_form, u64_form, int_form, bool_form, text_form, node, list_form}
use Rattle.castor_code.specs.Pieces.{at_most_int}

-- the number of an operator: its place among the operators, from 0
abbrev pub op_number : Op → ℕ
op_number Or = 0
op_number And = 1
op_number Eq = 2
op_number Ne = 3
op_number Lt = 4
op_number Le = 5
op_number Gt = 6
op_number Ge = 7
op_number Add = 8
op_number Sub = 9
op_number Mul = 10
op_number Div = 11
op_number Rem = 12

abbrev pub literal_form : Value → Form
literal_form (Int z) = node 35 (int_form z)
literal_form (Truth b) = node 36 (bool_form b)
literal_form (Text t) = node 37 (text_form t)

abbrev pub expr_form_step : Expr-F Form → Form
expr_form_step (Col i) = node 32 (u32_form i)
expr_form_step (Scope k i) = node 33 (then_form (u32_form k) (u32_form i))
expr_form_step (Param i) = node 34 (u32_form i)
expr_form_step (Lit v) = literal_form v
expr_form_step (Bin op a b) = node 38 (then_form (u8_form (op_number op)) (then_form a b))
expr_form_step (Not a) = node 39 a
expr_form_step (If c a b) = node 40 (then_form c (then_form a b))

-- the form of an expression
abbrev pub expr_form : Expr → Form
expr_form e = fold-Expr Form expr_form_step e

-- a bound: 0 where there is no limit, else 1 where the limit is in the range and 2 where it isn't, and the limit
abbrev pub bound_form : Bound → Form
bound_form Any = u8_form 0
bound_form (Incl e) = then_form (u8_form 1) (expr_form e)
bound_form (Excl e) = then_form (u8_form 2) (expr_form e)

-- an aggregate: 0 for a count, 1 for a sum, 2 for the least and 3 for the greatest, and but for a count the column
abbrev pub agg_form : Agg → Form
agg_form Count = u8_form 0
agg_form (Sum at) = then_form (u8_form 1) (u32_form at)
agg_form (Min at) = then_form (u8_form 2) (u32_form at)
agg_form (Max at) = then_form (u8_form 3) (u32_form at)

-- a sorting key: the column, and 1 where it falls, else 0
abbrev pub key_form : Key → Form
key_form k = then_form (u32_form k.col) (bool_form k.desc)

-- a range, whose least number is at most its greatest
abbrev pub range_form : Range → Form
range_form r = only_if (nat_le r.lo r.hi) (then_form (u64_form r.lo) (u64_form r.hi))

-- the ranges of a count and of a body length
abbrev pub ranges_form : Range → Range → Form
ranges_form count body = then_form (range_form count) (range_form body)

abbrev pub is_some_list : {X : Type 0} → List X → Bool
is_some_list xs = nat_lt 0 (length xs)

-- a list that isn't empty
abbrev pub some_form : {X : Type 0} → (X → Form) → List X → Form
some_form form xs = only_if (is_some_list xs) (list_form form xs)

-- the form of a code, and whether it is one of a single value
pub record CodeForm : Type 0 where
  pub form : Form
  pub scalar : Bool

abbrev pub form_in : CodeForm → Form
form_in c = c.form

-- a code for a column of a key, which is one of a single value
abbrev pub key_code_form : CodeForm → Form
key_code_form c = only_if c.scalar c.form

-- 1 to 4 codes of single values behind a number of 8 bits, then the kid, then as many expressions
abbrev pub hash_key_form : List CodeForm → Form → List Expr → Form
hash_key_form key kid by = only_if ((nat_lt 0 (length key) && nat_le (length key) 4) && (length by == length key)) (then_form (u8_form (length key)) (then_form (in_turn (map key_code_form key)) (then_form kid (in_turn (map expr_form by)))))

-- a group has a key or an aggregate
abbrev pub group_form : List ℕ → List Agg → Form
group_form ks aggs = only_if (is_some_list ks || is_some_list aggs) (then_form (list_form u32_form ks) (list_form agg_form aggs))

-- the parts of nodes, by the forms of their kids
abbrev pub int_parts : ℤ → ℤ → Form
int_parts lo hi = only_if (at_most_int lo hi) (then_form (int_form lo) (int_form hi))

abbrev pub text_parts : ℕ → ℕ → Form
text_parts min max = only_if (nat_le min max) (then_form (u16_form min) (u16_form max))

abbrev pub list_parts : Range → Range → Form → Form
list_parts count body kid = then_form (ranges_form count body) kid

abbrev pub hash_parts : Range → Range → List CodeForm → Form → List Expr → Form
hash_parts count body key kid by = then_form (ranges_form count body) (hash_key_form key kid by)

abbrev pub ord_parts : Range → Range → CodeForm → Form → Bound → Bound → Form
ord_parts count body key kid lo hi = then_form (ranges_form count body) (then_form (key_code_form key) (then_form kid (then_form (bound_form lo) (bound_form hi))))

abbrev pub select_parts : List Expr → Form → Form
select_parts es kid = then_form (some_form expr_form es) kid

abbrev pub filter_parts : Expr → Form → Form
filter_parts e kid = then_form (expr_form e) kid

abbrev pub dep_parts : ℕ → Form → Form → Form
dep_parts k first second = then_form (u32_form k) (then_form first second)

abbrev pub group_parts : List ℕ → List Agg → Form → Form
group_parts ks aggs kid = then_form (group_form ks aggs) kid

abbrev pub order_parts : List Key → Form → Form
order_parts ks kid = then_form (some_form key_form ks) kid

-- the front of a node with several kids, and what stands behind it
abbrev pub key_codes_form : List CodeForm → Form
key_codes_form key = then_form (u8_form (length key)) (in_turn (map key_code_form key))

abbrev pub hash_head : Range → Range → List CodeForm → Form
hash_head count body key = node 7 (then_form (ranges_form count body) (key_codes_form key))

abbrev pub hash_tail : Form → List Expr → Form
hash_tail kid by = then_form kid (in_turn (map expr_form by))

abbrev pub ord_head : Range → Range → CodeForm → Form
ord_head count body key = node 8 (then_form (ranges_form count body) (key_code_form key))

abbrev pub ord_tail : Form → Bound → Bound → Form
ord_tail kid lo hi = then_form kid (then_form (bound_form lo) (bound_form hi))

abbrev pub dep_head : ℕ → Form → Form
dep_head k first = node 11 (then_form (u32_form k) first)

abbrev pub scalar_node : ℕ → Form → CodeForm
scalar_node tag parts = record { form = node tag parts; scalar = true }

abbrev pub relation_node : ℕ → Form → CodeForm
relation_node tag parts = record { form = node tag parts; scalar = false }

abbrev pub code_form_step : Code-F CodeForm → CodeForm
code_form_step (code.Int lo hi) = scalar_node 1 (int_parts lo hi)
code_form_step code.Bool = scalar_node 2 (plain true [])
code_form_step (code.Text min max) = scalar_node 3 (text_parts min max)
code_form_step (code.Cross ks) = relation_node 4 (some_form form_in ks)
code_form_step (code.Concat ks) = relation_node 5 (some_form form_in ks)
code_form_step (code.List count body kid) = relation_node 6 (list_parts count body kid.form)
code_form_step (code.Hash count body key kid by) = relation_node 7 (hash_parts count body key kid.form by)
code_form_step (code.Ord count body key kid lo hi) = relation_node 8 (ord_parts count body key kid.form lo hi)
code_form_step (code.Select es kid) = relation_node 9 (select_parts es kid.form)
code_form_step (code.Filter e kid) = relation_node 10 (filter_parts e kid.form)
code_form_step (code.Dep k first second) = relation_node 11 (dep_parts k first.form second.form)
code_form_step (code.Group ks aggs kid) = relation_node 12 (group_parts ks aggs kid.form)
code_form_step (code.Order ks kid) = relation_node 13 (order_parts ks kid.form)
code_form_step (code.Dedup kid) = relation_node 14 kid.form

-- the form of a code
abbrev pub code_form : Code → CodeForm
code_form c = fold-Code CodeForm code_form_step c

-- the bytes of a code
abbrev pub code_bytes : Code → List ℕ
code_bytes c = (code_form c).form.bytes

-- a code is well formed if each of its parts is, it has at most 8,192 nodes, codes and expressions together, and its
-- depth is at most 64
abbrev pub is_well_formed : Code → Bool
is_well_formed c = (code_form c).form.sound && (nat_le (code_form c).form.nodes most_code_nodes && nat_le (code_form c).form.depth most_depth)

-- the bytes of two well-formed codes differ
abbrev pub CodesDiffer : Type 0
CodesDiffer = (c d : Code) → is_well_formed c ≡ true → is_well_formed d ≡ true → code_bytes c ≡ code_bytes d → c ≡ d
