-- Codes read from the front of bytes.
use Rattle.std.specs.Prelude.{ℕ, zero, suc, ◌-◌, ℤ, nat_lt, nat_le, ◌==◌, List, [], ◌∷◌, take, drop, length, slice_get, Bool, true, false, ◌&&◌, ◌||◌, if◌then◌else◌, Option, Some, None}
use Rattle.std.specs.Int.{cast_signed, w64}
use Rattle.std.specs.Str.{is_utf8}
use Rattle.castor_val.specs.Limits.{most_code_nodes, most_depth}
use Rattle.castor_val.specs.declared.value.Value.TheVariants.{Int, Bool as Truth, Text}
use Rattle.castor_alg.specs.declared.expr.Op.{Op}
use Rattle.castor_alg.specs.declared.expr.Op.TheVariants.{Or, And, Eq, Ne, Lt, Le, Gt, Ge, Add, Sub, Mul, Div, Rem}
use Rattle.castor_alg.specs.declared.expr.Expr.{Expr}
use Rattle.castor_alg.specs.declared.expr.Expr as expr
use Rattle.castor_alg.specs.declared.rel.Agg.{Agg}
use Rattle.castor_alg.specs.declared.rel.Agg.TheVariants.{Count, Sum, Min, Max}
use Rattle.castor_alg.specs.declared.rel.Bound.{Bound}
use Rattle.castor_alg.specs.declared.rel.Bound.TheVariants.{Any, Incl, Excl}
use Rattle.castor_alg.specs.declared.rel.Key.{Key}
use Rattle.castor_fixed.specs.Fields.{number}
use Rattle.castor_code.specs.declared.code.Code.{Code, out-Code}
use Rattle.castor_code.specs.declared.code.Code as made
use Rattle.castor_code.specs.declared.code.Code.TheOpen.{Code-F}
use Rattle.castor_code.specs.declared.code.Code.TheOpen as code
use Rattle.castor_code.specs.declared.code.Range.{Range}
use Rattle.castor_code.specs.declared.tag.CodeTag.{CodeTag}
use Rattle.castor_code.specs.declared.tag.CodeTag.TheVariants as tag
use Rattle.castor_code.specs.declared.tag.ExprTag.{ExprTag}
use Rattle.castor_code.specs.declared.tag.ExprTag.TheVariants as part
use Rattle.castor_code.specs.Pieces.{at_most_int}
use Rattle.castor_code.specs.CodeForms.{is_some_list}
use Rattle.castor_code.specs.Steps.{next, when, many, in_pair, made as made_of, passing}

-- what is left to read: bytes, and how many nodes may still come
pub record Input : Type 0 where
  pub bytes : List ℕ
  pub nodes : ℕ

-- how something is read
abbrev pub Parse : Type 0 → Type 0
Parse X = Input → Option (X × Input)

-- a number from 0 to most
abbrev pub number_in : ℕ → Parse ℕ
number_in most s = next (number most s.bytes) (λ n rest. Some (n, record { bytes = rest; nodes = s.nodes }))

abbrev pub u8_in : Parse ℕ
u8_in s = number_in 255 s

abbrev pub u16_in : Parse ℕ
u16_in s = number_in 65535 s

abbrev pub u32_in : Parse ℕ
u32_in s = number_in 4294967295 s

abbrev pub u64_in : Parse ℕ
u64_in s = number_in 18446744073709551615 s

abbrev pub int_in : Parse ℤ
int_in s = made_of (cast_signed w64) u64_in s

-- 0 or 1
abbrev pub bool_of : ℕ → Option Bool
bool_of zero = Some false
bool_of (suc zero) = Some true
bool_of (suc (suc n)) = None

-- what a number tells, with what is left behind it
abbrev pub with_left : {X : Type 0} → Option X → Input → Option (X × Input)
with_left (Some x) s = Some (x, s)
with_left None s = None

-- what is told by what is read, if anything is
abbrev pub told : {X Y : Type 0} → (X → Option Y) → Parse X → Parse Y
told f one s = next (one s) (λ x t. with_left (f x) t)

abbrev pub bool_in : Parse Bool
bool_in s = told bool_of u8_in s

-- so many bytes of UTF-8
abbrev pub utf8_in : ℕ → Parse (List ℕ)
utf8_in n s = when (nat_le n (length s.bytes) && is_utf8 (take n s.bytes)) (take n s.bytes, record { bytes = drop n s.bytes; nodes = s.nodes })

abbrev pub text_in : Parse (List ℕ)
text_in s = next (u16_in s) (λ n t. utf8_in n t)

-- a list behind a number of 16 bits that tells its length
abbrev pub list_in : {X : Type 0} → Parse X → Parse (List X)
list_in one s = next (u16_in s) (λ n t. many n one t)

-- a list that isn't empty
abbrev pub some_in : {X : Type 0} → Parse X → Parse (List X)
some_in one s = passing is_some_list (list_in one) s

-- the tag of a node, which takes one of the nodes that may still come
abbrev pub tag_in : Parse ℕ
tag_in s = if nat_lt 0 s.nodes then u8_in (record { bytes = s.bytes; nodes = s.nodes - 1 }) else None

abbrev pub ops : List Op
ops = Or ∷ And ∷ Eq ∷ Ne ∷ Lt ∷ Le ∷ Gt ∷ Ge ∷ Add ∷ Sub ∷ Mul ∷ Div ∷ Rem ∷ []

abbrev pub op_in : Parse Op
op_in s = told (slice_get ops) u8_in s

abbrev pub expr_tags : List ExprTag
expr_tags = part.Col ∷ part.Scope ∷ part.Param ∷ part.Int ∷ part.Bool ∷ part.Text ∷ part.Bin ∷ part.Not ∷ part.If ∷ []

-- the node of an expression that a tag is for
abbrev pub expr_tag : ℕ → Option ExprTag
expr_tag n = if nat_lt n 32 then None else slice_get expr_tags (n - 32)

-- the node of an expression behind its tag
abbrev pub expr_after : ExprTag → Parse Expr → Parse Expr
expr_after part.Col one s = made_of expr.Col u32_in s
expr_after part.Scope one s = made_of (λ (x : ℕ × ℕ). expr.Scope x.0 x.1) (in_pair u32_in u32_in) s
expr_after part.Param one s = made_of expr.Param u32_in s
expr_after part.Int one s = made_of (λ z. expr.Lit (Int z)) int_in s
expr_after part.Bool one s = made_of (λ b. expr.Lit (Truth b)) bool_in s
expr_after part.Text one s = made_of (λ t. expr.Lit (Text t)) text_in s
expr_after part.Bin one s = made_of (λ (x : Op × (Expr × Expr)). expr.Bin x.0 x.1.0 x.1.1) (in_pair op_in (in_pair one one)) s
expr_after part.Not one s = made_of expr.Not one s
expr_after part.If one s = made_of (λ (x : Expr × (Expr × Expr)). expr.If x.0 x.1.0 x.1.1) (in_pair one (in_pair one one)) s

-- an expression of at most so many levels
abbrev pub expr_in : ℕ → Parse Expr
expr_in zero s = None
expr_in (suc levels) s = next (told expr_tag tag_in s) (λ kind t. expr_after kind (expr_in levels) t)

-- a bound behind its number
abbrev pub bound_after : ℕ → Parse Expr → Parse Bound
bound_after zero one s = Some (Any, s)
bound_after (suc zero) one s = made_of Incl one s
bound_after (suc (suc zero)) one s = made_of Excl one s
bound_after (suc (suc (suc n))) one s = None

abbrev pub bound_in : Parse Expr → Parse Bound
bound_in one s = next (u8_in s) (λ n t. bound_after n one t)

-- an aggregate behind its number
abbrev pub agg_after : ℕ → Parse Agg
agg_after zero s = Some (Count, s)
agg_after (suc zero) s = made_of Sum u32_in s
agg_after (suc (suc zero)) s = made_of Min u32_in s
agg_after (suc (suc (suc zero))) s = made_of Max u32_in s
agg_after (suc (suc (suc (suc n)))) s = None

abbrev pub agg_in : Parse Agg
agg_in s = next (u8_in s) (λ n t. agg_after n t)

abbrev pub key_in : Parse Key
key_in s = made_of (λ (x : ℕ × Bool). record { col = x.0; desc = x.1 }) (in_pair u32_in bool_in) s

abbrev pub range_in : Parse Range
range_in s = passing (λ (r : Range). nat_le r.lo r.hi) (made_of (λ (x : ℕ × ℕ). record { lo = x.0; hi = x.1 }) (in_pair u64_in u64_in)) s

abbrev pub ranges_in : Parse (Range × Range)
ranges_in s = in_pair range_in range_in s

-- a code of one value
abbrev pub is_scalar_in : Code-F Code → Bool
is_scalar_in (code.Int lo hi) = true
is_scalar_in code.Bool = true
is_scalar_in (code.Text min max) = true
is_scalar_in (code.Cross ks) = false
is_scalar_in (code.Concat ks) = false
is_scalar_in (code.List count body kid) = false
is_scalar_in (code.Hash count body key kid by) = false
is_scalar_in (code.Ord count body key kid lo hi) = false
is_scalar_in (code.Select es kid) = false
is_scalar_in (code.Filter e kid) = false
is_scalar_in (code.Dep k first second) = false
is_scalar_in (code.Group ks aggs kid) = false
is_scalar_in (code.Order ks kid) = false
is_scalar_in (code.Dedup kid) = false

abbrev pub is_scalar : Code → Bool
is_scalar c = is_scalar_in (out-Code c)

-- a code for a column of a key
abbrev pub key_code_in : Parse Code → Parse Code
key_code_in one s = passing is_scalar one s

-- 1 to 4 codes for the columns of a key
abbrev pub key_codes_in : Parse Code → Parse (List Code)
key_codes_in one s = next (passing (λ n. nat_lt 0 n && nat_le n 4) u8_in s) (λ n t. many n (key_code_in one) t)

-- the key codes, the kid, and as many expressions
abbrev pub hash_key_in : Parse Code → Parse Expr → Parse (List Code × (Code × List Expr))
hash_key_in one other s = next (key_codes_in one s) (λ ks t. next (one t) (λ kid u. next (many (length ks) other u) (λ es v. Some ((ks, (kid, es)), v))))

abbrev pub group_in : Parse (List ℕ × List Agg)
group_in s = passing (λ (x : List ℕ × List Agg). is_some_list x.0 || is_some_list x.1) (in_pair (list_in u32_in) (list_in agg_in)) s

abbrev pub code_tags : List CodeTag
code_tags = tag.Int ∷ tag.Bool ∷ tag.Text ∷ tag.Cross ∷ tag.Concat ∷ tag.List ∷ tag.Hash ∷ tag.Ord ∷ tag.Select ∷ tag.Filter ∷ tag.Dep ∷ tag.Group ∷ tag.Order ∷ tag.Dedup ∷ []

-- the node of a code that a tag is for
abbrev pub code_tag : ℕ → Option CodeTag
code_tag n = if nat_lt n 1 then None else slice_get code_tags (n - 1)

-- the node of a code behind its tag
abbrev pub code_after : CodeTag → Parse Code → Parse Expr → Parse Code
code_after tag.Int one other s = made_of (λ (x : ℤ × ℤ). made.Int x.0 x.1) (passing (λ (x : ℤ × ℤ). at_most_int x.0 x.1) (in_pair int_in int_in)) s
code_after tag.Bool one other s = Some (made.Bool, s)
code_after tag.Text one other s = made_of (λ (x : ℕ × ℕ). made.Text x.0 x.1) (passing (λ (x : ℕ × ℕ). nat_le x.0 x.1) (in_pair u16_in u16_in)) s
code_after tag.Cross one other s = made_of made.Cross (some_in one) s
code_after tag.Concat one other s = made_of made.Concat (some_in one) s
code_after tag.List one other s = made_of (λ (x : (Range × Range) × Code). made.List x.0.0 x.0.1 x.1) (in_pair ranges_in one) s
code_after tag.Hash one other s = made_of (λ (x : (Range × Range) × (List Code × (Code × List Expr))). made.Hash x.0.0 x.0.1 x.1.0 x.1.1.0 x.1.1.1) (in_pair ranges_in (hash_key_in one other)) s
code_after tag.Ord one other s = made_of (λ (x : (Range × Range) × (Code × (Code × (Bound × Bound)))). made.Ord x.0.0 x.0.1 x.1.0 x.1.1.0 x.1.1.1.0 x.1.1.1.1) (in_pair ranges_in (in_pair (key_code_in one) (in_pair one (in_pair (bound_in other) (bound_in other))))) s
code_after tag.Select one other s = made_of (λ (x : List Expr × Code). made.Select x.0 x.1) (in_pair (some_in other) one) s
code_after tag.Filter one other s = made_of (λ (x : Expr × Code). made.Filter x.0 x.1) (in_pair other one) s
code_after tag.Dep one other s = made_of (λ (x : ℕ × (Code × Code)). made.Dep x.0 x.1.0 x.1.1) (in_pair u32_in (in_pair one one)) s
code_after tag.Group one other s = made_of (λ (x : (List ℕ × List Agg) × Code). made.Group x.0.0 x.0.1 x.1) (in_pair group_in one) s
code_after tag.Order one other s = made_of (λ (x : List Key × Code). made.Order x.0 x.1) (in_pair (some_in key_in) one) s
code_after tag.Dedup one other s = made_of made.Dedup one s

-- a code of at most so many levels
abbrev pub code_in : ℕ → Parse Code
code_in zero s = None
code_in (suc levels) s = next (told code_tag tag_in s) (λ kind t. code_after kind (code_in levels) (expr_in levels) t)

-- the whole of what is read, where nothing is left
abbrev pub whole : {X : Type 0} → Option (X × Input) → Option X
whole o = next o (λ x s. when (length s.bytes == 0) x)

-- the well-formed code that bytes are
abbrev pub code_of : List ℕ → Option Code
code_of bytes = whole (code_in most_depth (record { bytes = bytes; nodes = most_code_nodes }))
