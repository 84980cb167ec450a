-- Free scopes occur, and fresh ones don't.
use Rattle.std.proofs.Common.{◌≡◌, ◌∙◌, ℕ, ◌+◌, ◌<◌, ◌≤◌, ◌==◌, max, fold, List, [], ◌∷◌, ◌++◌, map, refl, sym, ap, subst, Bool, true, false, not, ◌&&◌, ◌||◌, Some, None, if◌then◌else◌, arith}
use Rattle.std.specs.List.{list_any, flat_map}
use Rattle.std.proofs.lemmas.Bool.{ne_eqb, or_from, or_left, or_right}
use Rattle.std.proofs.lemmas.List.Folds.{list_any-append}
use Rattle.castor_alg.specs.declared.expr.Expr.{Expr}
use Rattle.castor_alg.specs.declared.rel.Bound.{Bound}
use Rattle.castor_alg.specs.declared.rel.Bound.TheVariants.{Any, Incl, Excl}
use Rattle.castor_alg.specs.declared.rel.Rel.{Rel}
use Rattle.castor_alg.specs.FreeScopes.{bound_reads, free_step, is_free, reads, reads_step}
use Rattle.castor_alg.specs.FreshScope.{bound_scopes, expr_scopes, expr_scopes_step, fresh_scope, one_above, scope_numbers, scope_numbers_step}
use Rattle.castor_alg.proofs.ExprInduction.{expr_induction, fold-Col, fold-Scope, fold-Param, fold-Lit, fold-Bin, fold-Not, fold-If}
use Rattle.castor_alg.proofs.RelInduction.{With, relations, rel_induction, fold-Table, fold-Scalar, fold-Cross, fold-Concat, fold-Select, fold-Filter, fold-Join, fold-DepJoin, fold-Group, fold-Order, fold-Dedup, fold-List, fold-Hash, fold-Ord}
use Rattle.castor_laws.specs.Freshness.{FreshIfAbove, IsFresh}
use Rattle.castor_laws.proofs.EachLaws.{Each, none, one, All_from_each, each_from_All}

-- the number is in the list
abbrev is_in : ℕ → List ℕ → Bool
is_in k ks = list_any (λ j. j == k) ks

in_append : (k : ℕ) (xs ys : List ℕ) → is_in k (xs ++ ys) ≡ (is_in k xs || is_in k ys)
in_append k xs ys = list_any-append (λ j. j == k) xs ys

or_false : (b : Bool) → (b || false) ≡ b
or_false true = refl
or_false false = refl

clash : {P : Type 0} → true ≡ false → P
clash is = cc

-- an expression reads just the scopes whose numbers are in it
abbrev ReadsAreIn : Expr → Type 0
ReadsAreIn e = (k : ℕ) → reads k e ≡ is_in k (expr_scopes e)

pub reads_are_in : (e : Expr) → ReadsAreIn e
reads_are_in = expr_induction ReadsAreIn record {
  col = λ i k. fold-Col Bool (reads_step k) i ∙ sym (ap (is_in k) (fold-Col (List ℕ) expr_scopes_step i));
  scope = λ j i k. fold-Scope Bool (reads_step k) j i ∙ sym (or_false (j == k)) ∙ sym (ap (is_in k) (fold-Scope (List ℕ) expr_scopes_step j i));
  param = λ i k. fold-Param Bool (reads_step k) i ∙ sym (ap (is_in k) (fold-Param (List ℕ) expr_scopes_step i));
  lit = λ v k. fold-Lit Bool (reads_step k) v ∙ sym (ap (is_in k) (fold-Lit (List ℕ) expr_scopes_step v));
  bin = λ op a b x y k.
      fold-Bin Bool (reads_step k) op a b ∙ (λ i. x k i || y k i)
      ∙ sym (ap (is_in k) (fold-Bin (List ℕ) expr_scopes_step op a b) ∙ in_append k (expr_scopes a) (expr_scopes b));
  not = λ a x k. fold-Not Bool (reads_step k) a ∙ x k ∙ sym (ap (is_in k) (fold-Not (List ℕ) expr_scopes_step a));
  cond = λ c a b w x y k.
      fold-If Bool (reads_step k) c a b ∙ (λ i. w k i || (x k i || y k i))
      ∙ sym (ap (is_in k) (fold-If (List ℕ) expr_scopes_step c a b) ∙ in_append k (expr_scopes c) (expr_scopes a ++ expr_scopes b) ∙ ap (λ b. is_in k (expr_scopes c) || b) (in_append k (expr_scopes a) (expr_scopes b)));
}

all_reads_are_in : (es : List Expr) (k : ℕ) → list_any (reads k) es ≡ is_in k (flat_map expr_scopes es)
all_reads_are_in [] k = refl
all_reads_are_in (e ∷ es) k = (λ i. reads_are_in e k i || all_reads_are_in es k i) ∙ sym (in_append k (expr_scopes e) (flat_map expr_scopes es))

bound_reads_are_in : (b : Bound) (k : ℕ) → bound_reads k b ≡ is_in k (bound_scopes b)
bound_reads_are_in Any k = refl
bound_reads_are_in (Incl e) k = reads_are_in e k
bound_reads_are_in (Excl e) k = reads_are_in e k

-- one truth follows from another
abbrev Implies : Bool → Bool → Type 0
Implies a b = a ≡ true → b ≡ true

either_implies : (a b c d : Bool) → Implies a c → Implies b d → Implies (a || b) (c || d)
either_implies true b c d left right is = or_left c d (left refl)
either_implies false b c d left right is = or_right c d (right is)

-- a scope that is free in a source or passes the binder of a body
dependent_implies : (same a b c d : Bool) → Implies a c → Implies b d → Implies (a || (not same && b)) (same || (c || d))
dependent_implies true a b c d left right is = refl
dependent_implies false a b c d left right is = either_implies a b c d left right is

index_implies : (same es a b c d : Bool) → Implies a c → Implies b d → Implies (es || (a || (not same && b))) (same || (c || (d || es)))
index_implies true es a b c d left right is = refl
index_implies false true a b c d left right is = or_right c (d || true) (or_right d true refl)
index_implies false false a b c d left right is = either_implies a b c (d || false) left (λ t. or_left d false (right t)) is

abbrev FreeIsIn : Rel → Type 0
FreeIsIn q = (k : ℕ) → Implies (is_free k q) (is_in k (scope_numbers q))

-- from what is free in one operator, over what occurs in its operands
shown : (free free' in' in'' : Bool) → free ≡ free' → in'' ≡ in' → Implies free' in' → Implies free in''
shown free free' in' in'' left right holds is = right ∙ holds (sym left ∙ is)

operands_in : (rs : List (With FreeIsIn)) (k : ℕ) → Implies (list_any (λ b. b) (map (is_free k) (relations rs))) (is_in k (flat_map (λ ks. ks) (map scope_numbers (relations rs))))
operands_in [] k is = is
operands_in (r ∷ rs) k is =
    in_append k (scope_numbers r.0) (flat_map (λ ks. ks) (map scope_numbers (relations rs)))
    ∙ either_implies (is_free k r.0) (list_any (λ b. b) (map (is_free k) (relations rs))) (is_in k (scope_numbers r.0)) (is_in k (flat_map (λ ks. ks) (map scope_numbers (relations rs)))) (r.1 k) (operands_in rs k) is

binder_in : (k j : ℕ) (r s : Rel) → is_in k (j ∷ (scope_numbers r ++ scope_numbers s)) ≡ ((j == k) || (is_in k (scope_numbers r) || is_in k (scope_numbers s)))
binder_in k j r s = ap (λ b. (j == k) || b) (in_append k (scope_numbers r) (scope_numbers s))

index_in : (k j : ℕ) (r s : Rel) (more : List ℕ) → is_in k (j ∷ (scope_numbers r ++ (scope_numbers s ++ more))) ≡ ((j == k) || (is_in k (scope_numbers r) || (is_in k (scope_numbers s) || is_in k more)))
index_in k j r s more =
    ap (λ b. (j == k) || b) (in_append k (scope_numbers r) (scope_numbers s ++ more) ∙ ap (λ b. is_in k (scope_numbers r) || b) (in_append k (scope_numbers s) more))

pub free_is_in : (q : Rel) → FreeIsIn q
free_is_in = rel_induction FreeIsIn record {
  table = λ n k is. clash (sym (sym (fold-Table Bool (free_step k) n) ∙ is));
  scalar = λ e k is. ap (is_in k) (fold-Scalar (List ℕ) scope_numbers_step e) ∙ sym (reads_are_in e k) ∙ sym (fold-Scalar Bool (free_step k) e) ∙ is;
  cross = λ rs k is. ap (is_in k) (fold-Cross (List ℕ) scope_numbers_step (relations rs)) ∙ operands_in rs k (sym (fold-Cross Bool (free_step k) (relations rs)) ∙ is);
  concat = λ rs k is. ap (is_in k) (fold-Concat (List ℕ) scope_numbers_step (relations rs)) ∙ operands_in rs k (sym (fold-Concat Bool (free_step k) (relations rs)) ∙ is);
  select = λ es r x k is.
      ap (is_in k) (fold-Select (List ℕ) scope_numbers_step es r) ∙ in_append k (flat_map expr_scopes es) (scope_numbers r)
      ∙ either_implies (list_any (reads k) es) (is_free k r) _ _ (λ t. sym (all_reads_are_in es k) ∙ t) (x k) (sym (fold-Select Bool (free_step k) es r) ∙ is);
  filter = λ e r x k is.
      ap (is_in k) (fold-Filter (List ℕ) scope_numbers_step e r) ∙ in_append k (expr_scopes e) (scope_numbers r)
      ∙ either_implies (reads k e) (is_free k r) _ _ (λ t. sym (reads_are_in e k) ∙ t) (x k) (sym (fold-Filter Bool (free_step k) e r) ∙ is);
  join = λ e r s x y k is.
      ap (is_in k) (fold-Join (List ℕ) scope_numbers_step e r s) ∙ in_append k (expr_scopes e) (scope_numbers r ++ scope_numbers s)
      ∙ either_implies (reads k e) (is_free k r || is_free k s) _ _ (λ t. sym (reads_are_in e k) ∙ t)
      (λ t. in_append k (scope_numbers r) (scope_numbers s) ∙ either_implies (is_free k r) (is_free k s) _ _ (x k) (y k) t)
      (sym (fold-Join Bool (free_step k) e r s) ∙ is);
  depjoin = λ j r s x y k is.
      ap (is_in k) (fold-DepJoin (List ℕ) scope_numbers_step j r s) ∙ binder_in k j r s
      ∙ dependent_implies (j == k) (is_free k r) (is_free k s) _ _ (x k) (y k) (sym (fold-DepJoin Bool (free_step k) j r s) ∙ is);
  group = λ ks aggs r x k is. ap (is_in k) (fold-Group (List ℕ) scope_numbers_step ks aggs r) ∙ x k (sym (fold-Group Bool (free_step k) ks aggs r) ∙ is);
  order = λ ks r x k is. ap (is_in k) (fold-Order (List ℕ) scope_numbers_step ks r) ∙ x k (sym (fold-Order Bool (free_step k) ks r) ∙ is);
  dedup = λ r x k is. ap (is_in k) (fold-Dedup (List ℕ) scope_numbers_step r) ∙ x k (sym (fold-Dedup Bool (free_step k) r) ∙ is);
  list = λ j r s x y k is.
      ap (is_in k) (fold-List (List ℕ) scope_numbers_step j r s) ∙ binder_in k j r s
      ∙ dependent_implies (j == k) (is_free k r) (is_free k s) _ _ (x k) (y k) (sym (fold-List Bool (free_step k) j r s) ∙ is);
  hash = λ j r s es x y k is.
      ap (is_in k) (fold-Hash (List ℕ) scope_numbers_step j r s es) ∙ index_in k j r s (flat_map expr_scopes es)
      ∙ ap (λ b. (j == k) || (is_in k (scope_numbers r) || (is_in k (scope_numbers s) || b))) (sym (all_reads_are_in es k))
      ∙ index_implies (j == k) (list_any (reads k) es) (is_free k r) (is_free k s) _ _ (x k) (y k) (sym (fold-Hash Bool (free_step k) j r s es) ∙ is);
  ordered = λ j r s lo hi x y k is.
      let bounds = in_append k (bound_scopes lo) (bound_scopes hi) ∙ sym (λ i. bound_reads_are_in lo k i || bound_reads_are_in hi k i) in
      ap (is_in k) (fold-Ord (List ℕ) scope_numbers_step j r s lo hi) ∙ index_in k j r s (bound_scopes lo ++ bound_scopes hi)
      ∙ ap (λ b. (j == k) || (is_in k (scope_numbers r) || (is_in k (scope_numbers s) || b))) bounds
      ∙ index_implies (j == k) (bound_reads k lo || bound_reads k hi) (is_free k r) (is_free k s) _ _ (x k) (y k) (sym (fold-Ord Bool (free_step k) j r s lo hi) ∙ is);
}

-- one above numbers
abbrev raise : ℕ → ℕ → ℕ
raise above k = max above (k + 1)

at_least : (a : ℕ) (ks : List ℕ) → a ≤ fold raise a ks
at_least a [] = omega arith
at_least a (k ∷ ks) = let rest = at_least (raise a k) ks in omega arith

each_below : (a : ℕ) (ks : List ℕ) → Each (λ j. j < fold raise a ks) ks
each_below a [] = none
each_below a (k ∷ ks) = one (let rest = at_least (raise a k) ks in omega arith) (each_below (raise a k) ks)

not_in : (k : ℕ) {ks : List ℕ} → Each (λ j. j < k) ks → is_in k ks ≡ false
not_in k none = refl
not_in k (one {x} {xs} first rest) = or_from (x == k) (is_in k xs) (ne_eqb x k (λ is. omega arith)) (not_in k rest)

one_above_is : (q : Rel) (k : ℕ) (b : Bool) → (if b then None else Some (one_above (scope_numbers q))) ≡ Some k → one_above (scope_numbers q) ≡ k
one_above_is q k true is = cc
one_above_is q k false is = cc

unfree : (free in' : Bool) → Implies free in' → in' ≡ false → free ≡ false
unfree true in' holds is = sym (holds refl) ∙ is
unfree false in' holds is = refl

pub above_is_fresh : (q : Rel) (k : ℕ) → FreshIfAbove k q
above_is_fresh q k above =
    let absent = not_in k (each_from_All (λ j. j < k) (scope_numbers q) above) in
    record { above = above; absent = absent; unread = unfree (is_free k q) (is_in k (scope_numbers q)) (free_is_in q k) absent }

pub fresh_is_fresh : (q : Rel) (k : ℕ) → fresh_scope q ≡ Some k → IsFresh k q
fresh_is_fresh q k is =
    let below = subst (λ n. Each (λ j. j < n) (scope_numbers q)) (one_above_is q k (list_any (λ j. j == 4294967295) (scope_numbers q)) is) (each_below 0 (scope_numbers q)) in
    above_is_fresh q k (All_from_each (λ j. j < k) (scope_numbers q) below)
