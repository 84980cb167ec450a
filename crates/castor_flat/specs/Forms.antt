-- The forms that rules rewrite, with their parts.
use Rattle.std.specs.Prelude.{ℕ, List, Option, Some, None, Result, Ok, Err, Bool, if◌then◌else◌}
use Rattle.castor_alg.specs.declared.expr.Op.{Op}
use Rattle.castor_alg.specs.declared.expr.Op.TheVariants.{And}
use Rattle.castor_alg.specs.declared.expr.Expr.{Expr, out-Expr}
use Rattle.castor_alg.specs.declared.expr.Expr.TheOpen.{Expr-F, Bin}
use Rattle.castor_alg.specs.declared.rel.Agg.{Agg}
use Rattle.castor_alg.specs.declared.rel.Key.{Key}
use Rattle.castor_alg.specs.declared.rel.Rel.{Rel, out-Rel}
use Rattle.castor_alg.specs.declared.rel.Rel.TheOpen.{Rel-F}
use Rattle.castor_alg.specs.declared.rel.Rel.TheOpen as rel
use Rattle.castor_alg.specs.declared.rule_error.RuleError.{RuleError}
use Rattle.castor_alg.specs.declared.rule_error.RuleError.TheVariants.{NotTotal, Shape}

-- what a rule makes of a relation, or why it is refused
abbrev pub Rewriting : Type 0
Rewriting = Result Rel RuleError

-- another form has the wrong shape
abbrev pub with_one : {X : Type 0} → Option X → (X → Rewriting) → Rewriting
with_one None made = Err Shape
with_one (Some x) made = made x

abbrev pub with_two : {X Y : Type 0} → Option (X × Y) → (X → Y → Rewriting) → Rewriting
with_two None made = Err Shape
with_two (Some parts) made = made parts.0 parts.1

abbrev pub with_three : {X Y Z : Type 0} → Option (X × Y × Z) → (X → Y → Z → Rewriting) → Rewriting
with_three None made = Err Shape
with_three (Some parts) made = made parts.0 parts.1 parts.2

-- where a part may fault, what it would become isn't made
abbrev pub if_total : Bool → Rel → Rewriting
if_total is_total made = if is_total then Ok made else Err NotTotal

-- where a side condition fails, the form is another
abbrev pub if_fits : Bool → Rewriting → Rewriting
if_fits fits made = if fits then made else Err Shape

abbrev pub sides_under : Op → Expr → Expr → Option (Expr × Expr)
sides_under And a b = Some (a, b)
sides_under op a b = None

abbrev pub sides_in : Expr-F Expr → Option (Expr × Expr)
sides_in (Bin op a b) = sides_under op a b
sides_in layer = None

-- the sides of a conjunction
abbrev pub sides_of : Expr → Option (Expr × Expr)
sides_of e = sides_in (out-Expr e)

abbrev pub filter_in : Rel-F Rel → Option (Expr × Rel)
filter_in (rel.Filter e r) = Some (e, r)
filter_in layer = None

-- the condition and the operand of a filter
abbrev pub filter_of : Rel → Option (Expr × Rel)
filter_of q = filter_in (out-Rel q)

abbrev pub select_in : Rel-F Rel → Option (List Expr × Rel)
select_in (rel.Select es r) = Some (es, r)
select_in layer = None

-- the items and the operand of a projection
abbrev pub select_of : Rel → Option (List Expr × Rel)
select_of q = select_in (out-Rel q)

abbrev pub join_in : Rel-F Rel → Option (Expr × Rel × Rel)
join_in (rel.Join e r s) = Some (e, r, s)
join_in layer = None

-- the condition and the operands of a join
abbrev pub join_of : Rel → Option (Expr × Rel × Rel)
join_of q = join_in (out-Rel q)

abbrev pub concat_in : Rel-F Rel → Option (List Rel)
concat_in (rel.Concat rs) = Some rs
concat_in layer = None

-- the operands of a concatenation
abbrev pub concat_of : Rel → Option (List Rel)
concat_of q = concat_in (out-Rel q)

abbrev pub group_in : Rel-F Rel → Option (List ℕ × List Agg × Rel)
group_in (rel.Group ks aggs r) = Some (ks, aggs, r)
group_in layer = None

-- the keys, the aggregates and the operand of groups
abbrev pub group_of : Rel → Option (List ℕ × List Agg × Rel)
group_of q = group_in (out-Rel q)

abbrev pub order_in : Rel-F Rel → Option (List Key × Rel)
order_in (rel.Order ks r) = Some (ks, r)
order_in layer = None

-- the keys and the operand of a sorted relation
abbrev pub order_of : Rel → Option (List Key × Rel)
order_of q = order_in (out-Rel q)

abbrev pub dedup_in : Rel-F Rel → Option Rel
dedup_in (rel.Dedup r) = Some r
dedup_in layer = None

-- the operand of distinct rows
abbrev pub dedup_of : Rel → Option Rel
dedup_of q = dedup_in (out-Rel q)
