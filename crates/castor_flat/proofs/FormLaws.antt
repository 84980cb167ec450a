-- What has a form is that operator over its parts, and what a rule makes is made of these.
use Rattle.std.proofs.Common.{◌≡◌, ◌∙◌, ℕ, List, Bool, true, false, refl, sym, ap, subst, Option, Some, None, Ok}
use Rattle.castor_alg.specs.declared.context.Context.{Context}
use Rattle.castor_alg.specs.declared.expr.Op.{Op}
use Rattle.castor_alg.specs.declared.expr.Op.TheVariants.{And}
use Rattle.castor_alg.specs.declared.expr.Expr.{Expr, out-Expr, roll-Expr, roll-out-Expr}
use Rattle.castor_alg.specs.declared.expr.Expr as E
use Rattle.castor_alg.specs.declared.expr.Expr.TheOpen as expr
use Rattle.castor_alg.specs.declared.expr.Expr.TheVariants.{rolls-Bin}
use Rattle.castor_alg.specs.declared.rel.Rel.{Rel, out-Rel, roll-Rel, roll-out-Rel}
use Rattle.castor_alg.specs.declared.rel.Rel as R
use Rattle.castor_alg.specs.declared.rel.Rel.TheOpen as rel
use Rattle.castor_alg.specs.declared.rel.Rel.TheVariants.{rolls-Concat, rolls-Dedup, rolls-Filter, rolls-Group, rolls-Join, rolls-Order, rolls-Select}
use Rattle.castor_alg.specs.Equivalence.{Equivalent}
use Rattle.castor_alg.specs.Typing.{Typed}
use Rattle.castor_alg.specs.declared.rel.Agg.{Agg}
use Rattle.castor_alg.specs.declared.rel.Key.{Key}
use Rattle.castor_flat.specs.Forms.{Rewriting, concat_in, concat_of, dedup_in, dedup_of, filter_in, filter_of, group_in, group_of, if_fits, if_total, join_in, join_of, order_in, order_of, select_in, select_of, sides_in, sides_of, sides_under, with_one, with_three, with_two}

sides_are_of : (op : Op) (a b : Expr) (x : Expr × Expr) → sides_under op a b ≡ Some x → E.Bin op a b ≡ E.Bin And x.0 x.1
sides_are_of And a b x is = let same : (a, b) ≡ x = cc in λ i. E.Bin And (same i).0 (same i).1
sides_are_of op a b x is = cc

sides_layer : (y : expr.Expr-F Expr) (x : Expr × Expr) → sides_in y ≡ Some x → roll-Expr y ≡ E.Bin And x.0 x.1
sides_layer (expr.Bin op a b) x is = rolls-Bin op a b ∙ sides_are_of op a b x is
sides_layer y x is = cc

pub sides_are : (e : Expr) (x : Expr × Expr) → sides_of e ≡ Some x → e ≡ E.Bin And x.0 x.1
sides_are e x is = sym (roll-out-Expr e) ∙ sides_layer (out-Expr e) x is

filter_layer : (y : rel.Rel-F Rel) (x : Expr × Rel) → filter_in y ≡ Some x → roll-Rel y ≡ R.Filter x.0 x.1
filter_layer (rel.Filter e r) x is = let same : (e, r) ≡ x = cc in rolls-Filter e r ∙ (λ i. R.Filter (same i).0 (same i).1)
filter_layer y x is = cc

pub filter_is : (q : Rel) (x : Expr × Rel) → filter_of q ≡ Some x → q ≡ R.Filter x.0 x.1
filter_is q x is = sym (roll-out-Rel q) ∙ filter_layer (out-Rel q) x is

select_layer : (y : rel.Rel-F Rel) (x : List Expr × Rel) → select_in y ≡ Some x → roll-Rel y ≡ R.Select x.0 x.1
select_layer (rel.Select es r) x is = let same : (es, r) ≡ x = cc in rolls-Select es r ∙ (λ i. R.Select (same i).0 (same i).1)
select_layer y x is = cc

pub select_is : (q : Rel) (x : List Expr × Rel) → select_of q ≡ Some x → q ≡ R.Select x.0 x.1
select_is q x is = sym (roll-out-Rel q) ∙ select_layer (out-Rel q) x is

join_layer : (y : rel.Rel-F Rel) (x : Expr × Rel × Rel) → join_in y ≡ Some x → roll-Rel y ≡ R.Join x.0 x.1 x.2
join_layer (rel.Join e r s) x is = let same : (e, r, s) ≡ x = cc in rolls-Join e r s ∙ (λ i. R.Join (same i).0 (same i).1 (same i).2)
join_layer y x is = cc

pub join_is : (q : Rel) (x : Expr × Rel × Rel) → join_of q ≡ Some x → q ≡ R.Join x.0 x.1 x.2
join_is q x is = sym (roll-out-Rel q) ∙ join_layer (out-Rel q) x is

concat_layer : (y : rel.Rel-F Rel) (x : List Rel) → concat_in y ≡ Some x → roll-Rel y ≡ R.Concat x
concat_layer (rel.Concat rs) x is = let same : rs ≡ x = cc in rolls-Concat rs ∙ ap R.Concat same
concat_layer y x is = cc

pub concat_is : (q : Rel) (x : List Rel) → concat_of q ≡ Some x → q ≡ R.Concat x
concat_is q x is = sym (roll-out-Rel q) ∙ concat_layer (out-Rel q) x is

group_layer : (y : rel.Rel-F Rel) (x : List ℕ × List Agg × Rel) → group_in y ≡ Some x → roll-Rel y ≡ R.Group x.0 x.1 x.2
group_layer (rel.Group ks aggs r) x is = let same : (ks, aggs, r) ≡ x = cc in rolls-Group ks aggs r ∙ (λ i. R.Group (same i).0 (same i).1 (same i).2)
group_layer y x is = cc

pub group_is : (q : Rel) (x : List ℕ × List Agg × Rel) → group_of q ≡ Some x → q ≡ R.Group x.0 x.1 x.2
group_is q x is = sym (roll-out-Rel q) ∙ group_layer (out-Rel q) x is

order_layer : (y : rel.Rel-F Rel) (x : List Key × Rel) → order_in y ≡ Some x → roll-Rel y ≡ R.Order x.0 x.1
order_layer (rel.Order ks r) x is = let same : (ks, r) ≡ x = cc in rolls-Order ks r ∙ (λ i. R.Order (same i).0 (same i).1)
order_layer y x is = cc

pub order_is : (q : Rel) (x : List Key × Rel) → order_of q ≡ Some x → q ≡ R.Order x.0 x.1
order_is q x is = sym (roll-out-Rel q) ∙ order_layer (out-Rel q) x is

dedup_layer : (y : rel.Rel-F Rel) (x : Rel) → dedup_in y ≡ Some x → roll-Rel y ≡ R.Dedup x
dedup_layer (rel.Dedup r) x is = let same : r ≡ x = cc in rolls-Dedup r ∙ ap R.Dedup same
dedup_layer y x is = cc

pub dedup_is : (q x : Rel) → dedup_of q ≡ Some x → q ≡ R.Dedup x
dedup_is q x is = sym (roll-out-Rel q) ∙ dedup_layer (out-Rel q) x is

-- the parts of what was made of one, of two and of three
pub one_part : {X : Type 0} (o : Option X) (made : X → Rewriting) (r : Rel) → with_one o made ≡ Ok r → (x : X) × (o ≡ Some x) × (made x ≡ Ok r)
one_part None made r is = cc
one_part (Some x) made r is = (x, refl, is)

pub two_parts : {X Y : Type 0} (o : Option (X × Y)) (made : X → Y → Rewriting) (r : Rel) → with_two o made ≡ Ok r → (x : X × Y) × (o ≡ Some x) × (made x.0 x.1 ≡ Ok r)
two_parts None made r is = cc
two_parts (Some x) made r is = (x, refl, is)

pub three_parts : {X Y Z : Type 0} (o : Option (X × Y × Z)) (made : X → Y → Z → Rewriting) (r : Rel) → with_three o made ≡ Ok r → (x : X × Y × Z) × (o ≡ Some x) × (made x.0 x.1 x.2 ≡ Ok r)
three_parts None made r is = cc
three_parts (Some x) made r is = (x, refl, is)

pub fits_parts : (fits : Bool) (made : Rewriting) (r : Rel) → if_fits fits made ≡ Ok r → (fits ≡ true) × (made ≡ Ok r)
fits_parts true made r is = (refl, is)
fits_parts false made r is = cc

abbrev unrefused : Rel → Rewriting
unrefused made = Ok made

-- what is made where nothing is refused
pub is_made : (made r : Rel) → unrefused made ≡ Ok r → made ≡ r
is_made made r is = cc

pub total_parts : (total : Bool) (made r : Rel) → if_total total made ≡ Ok r → (total ≡ true) × (made ≡ r)
total_parts true made r is = (refl, cc)
total_parts false made r is = cc

-- what is equivalent by the form
pub by_form : (context : Context) (q form made r : Rel) → q ≡ form → made ≡ r → (Typed form context → Equivalent context form made) → Typed q context → Equivalent context q r
by_form context q form made r is same equivalent typed =
    subst (λ x. Equivalent context x r) (sym is) (subst (Equivalent context form) same (equivalent (subst (λ x. Typed x context) is typed)))
