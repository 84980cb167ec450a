-- What stands beside codes and expressions: what is written is read, and what is read is so written.
use Rattle.std.proofs.Common.{◌≡◌, ◌∙◌, ℕ, zero, suc, List, [], ◌∷◌, Bool, ◌||◌, nat_le, Some, subst, ap, sym, refl}
use Rattle.std.proofs.lemmas.Option.{some_pair_parts, none-some}
use Rattle.castor_alg.specs.declared.expr.Expr.{Expr}
use Rattle.castor_alg.specs.declared.rel.Agg.{Agg}
use Rattle.castor_alg.specs.declared.rel.Agg.TheVariants.{Count, Sum, Min, Max}
use Rattle.castor_alg.specs.declared.rel.Bound.{Bound}
use Rattle.castor_alg.specs.declared.rel.Bound.TheVariants.{Any, Incl, Excl}
use Rattle.castor_alg.specs.declared.rel.Key.{Key}
use Rattle.castor_code.specs.declared.code.Range.{Range}
use Rattle.castor_code.specs.Steps.{in_pair, made}
use Rattle.castor_code.specs.Forms.{Form, then_form, u8_form, u32_form, u64_form, bool_form, list_form}
use Rattle.castor_code.specs.CodeForms.{expr_form, bound_form, agg_form, key_form, range_form, ranges_form, is_some_list, some_form, group_form}
use Rattle.castor_code.specs.CodeReadings.{Input, Parse, u8_in, u32_in, u64_in, bool_in, expr_in, bound_after, bound_in, agg_after, agg_in, key_in, range_in, ranges_in, list_in, some_in, group_in}
use Rattle.castor_code.proofs.StepLaws.{got, next_of, came}
use Rattle.castor_code.proofs.InputLaws.{front, Good, Reads, Writes, front_then, first_good, second_good, both_good, number_reads, number_writes, pair_reads, pair_writes, made_reads, made_writes, passing_reads, passing_writes, AllRead, none_read, more_read, list_reads, list_writes}
use Rattle.castor_code.proofs.NodeLaws.{bool_reads, bool_writes}
use Rattle.castor_code.proofs.ExprLaws.{expr_reads, expr_writes}

module _ {X Y : Type 0} (levels : ℕ) where
  -- a choice that is told by a number before it
  chosen_writes : (n : ℕ) (h : X → Y) (one : Parse X) (form : X → Form) (forms : Y → Form) → ((x : X) → forms (h x) ≡ then_form (u8_form n) (form x)) → Writes levels one form
      → (s u t : Input) (y : Y) → Good levels (u8_form n) → s ≡ front (u8_form n) u → made h one u ≡ Some (y, t) → Good levels (forms y) × (s ≡ front (forms y) t)
  chosen_writes n h one form forms same law s u t y good told is =
      let b = came (one u) (λ x v. got (h x) v) (y, t) is in
      let parts = some_pair_parts _ _ _ _ b.answer in
      let all = law u b.left b.first b.read in
      let form_is : then_form (u8_form n) (form b.first) ≡ forms y = sym (same b.first) ∙ ap forms parts.0 in (
        subst (Good levels) form_is (both_good levels (u8_form n) (form b.first) good all.0),
        told ∙ ap (front (u8_form n)) all.1 ∙ sym (front_then (u8_form n) (form b.first) b.left) ∙ ap (λ (f : Form). front f b.left) form_is ∙ ap (front (forms y)) parts.1,
      )

-- a choice of nothing
alone_writes : {Y : Type 0} (levels n : ℕ) (forms : Y → Form) (s u t : Input) (x y : Y) → forms x ≡ u8_form n → Good levels (u8_form n) → s ≡ front (u8_form n) u → got x u ≡ Some (y, t) → Good levels (forms y) × (s ≡ front (forms y) t)
alone_writes levels n forms s u t x y same good told is =
    let parts = some_pair_parts _ _ _ _ is in
    let form_is = sym same ∙ ap forms parts.0 in
    (subst (Good levels) form_is good, told ∙ ap (λ f. front f u) form_is ∙ ap (front (forms y)) parts.1)

pub bound_reads : (levels : ℕ) (b : Bound) → Reads levels (bound_in (expr_in levels)) (bound_form b) b
bound_reads levels Any s good = next_of (u8_in (front (u8_form 0) s)) (λ n t. bound_after n (expr_in levels) t) 0 s (number_reads levels 255 0 s good)
bound_reads levels (Incl e) s good =
    ap (bound_in (expr_in levels)) (front_then (u8_form 1) (expr_form e) s)
    ∙ next_of (u8_in (front (u8_form 1) (front (expr_form e) s))) (λ n t. bound_after n (expr_in levels) t) 1 (front (expr_form e) s) (number_reads levels 255 1 (front (expr_form e) s) (first_good levels (u8_form 1) (expr_form e) good))
    ∙ made_reads levels Incl (expr_in levels) (expr_form e) e (expr_reads e levels) s (second_good levels (u8_form 1) (expr_form e) good)
bound_reads levels (Excl e) s good =
    ap (bound_in (expr_in levels)) (front_then (u8_form 2) (expr_form e) s)
    ∙ next_of (u8_in (front (u8_form 2) (front (expr_form e) s))) (λ n t. bound_after n (expr_in levels) t) 2 (front (expr_form e) s) (number_reads levels 255 2 (front (expr_form e) s) (first_good levels (u8_form 2) (expr_form e) good))
    ∙ made_reads levels Excl (expr_in levels) (expr_form e) e (expr_reads e levels) s (second_good levels (u8_form 2) (expr_form e) good)

bound_told : (levels n : ℕ) (s u t : Input) (b : Bound) → Good levels (u8_form n) → s ≡ front (u8_form n) u → bound_after n (expr_in levels) u ≡ Some (b, t) → Good levels (bound_form b) × (s ≡ front (bound_form b) t)
bound_told levels zero s u t b good told is = alone_writes levels 0 bound_form s u t Any b refl good told is
bound_told levels (suc zero) s u t b good told is = chosen_writes levels 1 Incl (expr_in levels) expr_form bound_form (λ e. refl) (expr_writes levels) s u t b good told is
bound_told levels (suc (suc zero)) s u t b good told is = chosen_writes levels 2 Excl (expr_in levels) expr_form bound_form (λ e. refl) (expr_writes levels) s u t b good told is
bound_told levels (suc (suc (suc n))) s u t b good told is = absurd (none-some _ is)

pub bound_writes : (levels : ℕ) → Writes levels (bound_in (expr_in levels)) bound_form
bound_writes levels s t b is =
    let c = came (u8_in s) (λ n u. bound_after n (expr_in levels) u) (b, t) is in
    let all = number_writes levels 255 s c.left c.first c.read in
    bound_told levels c.first s c.left t b all.0 all.1 c.answer

agg_at : (levels n at : ℕ) (h : ℕ → Agg) (s : Input) → ((t : Input) → agg_after n t ≡ made h u32_in t) → Good levels (then_form (u8_form n) (u32_form at)) → agg_in (front (then_form (u8_form n) (u32_form at)) s) ≡ Some (h at, s)
agg_at levels n at h s after good =
    ap agg_in (front_then (u8_form n) (u32_form at) s)
    ∙ next_of _ _ _ _ (number_reads levels 255 n (front (u32_form at) s) (first_good levels (u8_form n) (u32_form at) good))
    ∙ after (front (u32_form at) s)
    ∙ made_reads levels h u32_in (u32_form at) at (number_reads levels 4294967295 at) s (second_good levels (u8_form n) (u32_form at) good)

agg_reads : (levels : ℕ) (a : Agg) → Reads levels agg_in (agg_form a) a
agg_reads levels Count s good = next_of (u8_in (front (u8_form 0) s)) (λ n t. agg_after n t) 0 s (number_reads levels 255 0 s good)
agg_reads levels (Sum at) s good = agg_at levels 1 at Sum s (λ t. refl) good
agg_reads levels (Min at) s good = agg_at levels 2 at Min s (λ t. refl) good
agg_reads levels (Max at) s good = agg_at levels 3 at Max s (λ t. refl) good

agg_told : (levels n : ℕ) (s u t : Input) (a : Agg) → Good levels (u8_form n) → s ≡ front (u8_form n) u → agg_after n u ≡ Some (a, t) → Good levels (agg_form a) × (s ≡ front (agg_form a) t)
agg_told levels zero s u t a good told is = alone_writes levels 0 agg_form s u t Count a refl good told is
agg_told levels (suc zero) s u t a good told is = chosen_writes levels 1 Sum u32_in u32_form agg_form (λ at. refl) (number_writes levels 4294967295) s u t a good told is
agg_told levels (suc (suc zero)) s u t a good told is = chosen_writes levels 2 Min u32_in u32_form agg_form (λ at. refl) (number_writes levels 4294967295) s u t a good told is
agg_told levels (suc (suc (suc zero))) s u t a good told is = chosen_writes levels 3 Max u32_in u32_form agg_form (λ at. refl) (number_writes levels 4294967295) s u t a good told is
agg_told levels (suc (suc (suc (suc n)))) s u t a good told is = absurd (none-some _ is)

agg_writes : (levels : ℕ) → Writes levels agg_in agg_form
agg_writes levels s t a is =
    let c = came (u8_in s) (λ n u. agg_after n u) (a, t) is in
    let all = number_writes levels 255 s c.left c.first c.read in
    agg_told levels c.first s c.left t a all.0 all.1 c.answer

abbrev key_made : ℕ × Bool → Key
key_made x = record { col = x.0; desc = x.1 }

pub key_reads : (levels : ℕ) (k : Key) → Reads levels key_in (key_form k) k
key_reads levels k = made_reads levels key_made (in_pair u32_in bool_in) (key_form k) (k.col, k.desc) (pair_reads levels u32_in bool_in (u32_form k.col) (bool_form k.desc) k.col k.desc (number_reads levels 4294967295 k.col) (bool_reads levels k.desc))

pub key_writes : (levels : ℕ) → Writes levels key_in key_form
key_writes levels = made_writes levels key_made (in_pair u32_in bool_in) (λ (x : ℕ × Bool). then_form (u32_form x.0) (bool_form x.1)) key_form (λ x. refl) (pair_writes levels u32_in bool_in u32_form bool_form (number_writes levels 4294967295) (bool_writes levels))

abbrev range_made : ℕ × ℕ → Range
range_made x = record { lo = x.0; hi = x.1 }

abbrev rises : Range → Bool
rises r = nat_le r.lo r.hi

abbrev ends_form : Range → Form
ends_form r = then_form (u64_form r.lo) (u64_form r.hi)

abbrev ends_in : Parse Range
ends_in = made range_made (in_pair u64_in u64_in)

range_reads : (levels : ℕ) (r : Range) → Reads levels range_in (range_form r) r
range_reads levels r = passing_reads levels rises ends_in (ends_form r) r (made_reads levels range_made (in_pair u64_in u64_in) (ends_form r) (r.lo, r.hi) (pair_reads levels u64_in u64_in (u64_form r.lo) (u64_form r.hi) r.lo r.hi (number_reads levels 18446744073709551615 r.lo) (number_reads levels 18446744073709551615 r.hi)))

range_writes : (levels : ℕ) → Writes levels range_in range_form
range_writes levels = passing_writes levels rises ends_in ends_form (made_writes levels range_made (in_pair u64_in u64_in) (λ (x : ℕ × ℕ). then_form (u64_form x.0) (u64_form x.1)) ends_form (λ x. refl) (pair_writes levels u64_in u64_in u64_form u64_form (number_writes levels 18446744073709551615) (number_writes levels 18446744073709551615)))

pub ranges_reads : (levels : ℕ) (count body : Range) → Reads levels ranges_in (ranges_form count body) (count, body)
ranges_reads levels count body = pair_reads levels range_in range_in (range_form count) (range_form body) count body (range_reads levels count) (range_reads levels body)

pub ranges_writes : (levels : ℕ) → Writes levels ranges_in (λ (x : Range × Range). ranges_form x.0 x.1)
ranges_writes levels = pair_writes levels range_in range_in range_form range_form (range_writes levels) (range_writes levels)

module _ {X : Type 0} (levels : ℕ) (one : Parse X) (form : X → Form) where
  pub all_read : ((x : X) → Reads levels one (form x) x) → (xs : List X) → AllRead levels one form xs
  all_read law [] = none_read
  all_read law (x ∷ xs) = more_read (law x) (all_read law xs)

  pub some_reads : (xs : List X) → AllRead levels one form xs → Reads levels (some_in one) (some_form form xs) xs
  some_reads xs laws = passing_reads levels is_some_list (list_in one) (list_form form xs) xs (list_reads levels one form xs laws)

  pub some_writes : Writes levels one form → Writes levels (some_in one) (some_form form)
  some_writes law = passing_writes levels is_some_list (list_in one) (list_form form) (list_writes levels one form law)

pub exprs_read : (levels : ℕ) (es : List Expr) → AllRead levels (expr_in levels) expr_form es
exprs_read levels es = all_read levels (expr_in levels) expr_form (λ e. expr_reads e levels) es

pub keys_read : (levels : ℕ) (ks : List Key) → AllRead levels key_in key_form ks
keys_read levels ks = all_read levels key_in key_form (key_reads levels) ks

abbrev lists_in : Parse (List ℕ × List Agg)
lists_in = in_pair (list_in u32_in) (list_in agg_in)

abbrev has_one : List ℕ × List Agg → Bool
has_one x = is_some_list x.0 || is_some_list x.1

pub group_reads : (levels : ℕ) (ks : List ℕ) (aggs : List Agg) → Reads levels group_in (group_form ks aggs) (ks, aggs)
group_reads levels ks aggs = passing_reads levels has_one lists_in (then_form (list_form u32_form ks) (list_form agg_form aggs)) (ks, aggs)
    (pair_reads levels (list_in u32_in) (list_in agg_in) (list_form u32_form ks) (list_form agg_form aggs) ks aggs
    (list_reads levels u32_in u32_form ks (all_read levels u32_in u32_form (number_reads levels 4294967295) ks))
    (list_reads levels agg_in agg_form aggs (all_read levels agg_in agg_form (agg_reads levels) aggs)))

pub group_writes : (levels : ℕ) → Writes levels group_in (λ (x : List ℕ × List Agg). group_form x.0 x.1)
group_writes levels = passing_writes levels has_one lists_in (λ (x : List ℕ × List Agg). then_form (list_form u32_form x.0) (list_form agg_form x.1))
    (pair_writes levels (list_in u32_in) (list_in agg_in) (list_form u32_form) (list_form agg_form) (list_writes levels u32_in u32_form (number_writes levels 4294967295)) (list_writes levels agg_in agg_form (agg_writes levels)))
