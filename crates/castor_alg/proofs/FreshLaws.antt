-- A number raised above scope numbers one by one.
use Rattle.std.proofs.Common.{◌≡◌, ℕ, ◌+◌, ◌==◌, max, fold, map, refl, sym, ap, ◌∙◌, List, [], ◌∷◌, ◌++◌, Bool, true, false, ◌||◌, Option, Some, None, if◌then◌else◌}
use Rattle.std.specs.List.{list_any, flat_map}
use Rattle.std.proofs.lemmas.List.Sums.{fold-append}
use Rattle.castor_alg.specs.declared.expr.Expr.{Expr}
use Rattle.castor_alg.specs.declared.rel.Bound.{Bound}
use Rattle.castor_alg.specs.declared.rel.Rel.{Rel}
use Rattle.castor_alg.specs.FreshScope.{bound_scopes, expr_scopes, raised, raised_over, scope_numbers}

raised_none : (ks : List ℕ) → raised_over None ks ≡ None
raised_none [] = refl
raised_none (k ∷ ks) = raised_none ks

-- what one number more makes of the rest
raised_first : (above k : ℕ) (ks : List ℕ) (b : Bool) → raised_over (Some (max above (k + 1))) ks ≡ (if list_any (λ k. k == 4294967295) ks then None else Some (fold (λ above k. max above (k + 1)) (max above (k + 1)) ks)) → raised_over (if b then None else Some (max above (k + 1))) ks ≡ (if b || list_any (λ k. k == 4294967295) ks then None else Some (fold (λ above k. max above (k + 1)) (max above (k + 1)) ks))
raised_first above k ks true rest = raised_none ks
raised_first above k ks false rest = rest

-- all at once
pub raised_all : (above : ℕ) (ks : List ℕ) → raised_over (Some above) ks ≡ (if list_any (λ k. k == 4294967295) ks then None else Some (fold (λ above k. max above (k + 1)) above ks))
raised_all above [] = refl
raised_all above (k ∷ ks) = raised_first above k ks (k == 4294967295) (raised_all (max above (k + 1)) ks)

-- the numbers in all the relations
pub each_numbers : (rs : List Rel) → flat_map (λ ks. ks) (map scope_numbers rs) ≡ flat_map scope_numbers rs
each_numbers [] = refl
each_numbers (r ∷ rs) = ap (λ ks. scope_numbers r ++ ks) (each_numbers rs)

-- over the scope of a binder, its source and its body
pub over_dependent : (above a b c : Option ℕ) (k : ℕ) (r r' s s' : Rel) (all : List ℕ) → all ≡ k ∷ (scope_numbers r ++ scope_numbers s) → r' ≡ r → s' ≡ s → a ≡ raised above k → b ≡ raised_over a (scope_numbers r') → c ≡ raised_over b (scope_numbers s') → c ≡ raised_over above all
over_dependent above a b c k r r' s s' all numbers same_r same_s at_a at_b at_c =
    rw (at_c, at_b, at_a, same_r, same_s, numbers) (sym (fold-append raised (raised above k) (scope_numbers r) (scope_numbers s)))

-- then over the keys of an index
pub over_hash : (above a b c d : Option ℕ) (k : ℕ) (r r' s s' : Rel) (es es' : List Expr) (all : List ℕ) → all ≡ k ∷ (scope_numbers r ++ (scope_numbers s ++ flat_map expr_scopes es)) → r' ≡ r → s' ≡ s → es' ≡ es → a ≡ raised above k → b ≡ raised_over a (scope_numbers r') → c ≡ raised_over b (scope_numbers s') → d ≡ raised_over c (flat_map expr_scopes es') → d ≡ raised_over above all
over_hash above a b c d k r r' s s' es es' all numbers same_r same_s same_es at_a at_b at_c at_d =
    rw (at_d, at_c, at_b, at_a, same_r, same_s, same_es, numbers) (sym (
    fold-append raised (raised above k) (scope_numbers r) (scope_numbers s ++ flat_map expr_scopes es)
    ∙ fold-append raised (raised_over (raised above k) (scope_numbers r)) (scope_numbers s) (flat_map expr_scopes es)))

-- then over the bounds of an index
pub over_ordered : (above a b c d e : Option ℕ) (k : ℕ) (r r' s s' : Rel) (lo hi : Bound) (all : List ℕ) → all ≡ k ∷ (scope_numbers r ++ (scope_numbers s ++ (bound_scopes lo ++ bound_scopes hi))) → r' ≡ r → s' ≡ s → a ≡ raised above k → b ≡ raised_over a (scope_numbers r') → c ≡ raised_over b (scope_numbers s') → d ≡ raised_over c (bound_scopes lo) → e ≡ raised_over d (bound_scopes hi) → e ≡ raised_over above all
over_ordered above a b c d e k r r' s s' lo hi all numbers same_r same_s at_a at_b at_c at_d at_e =
    rw (at_e, at_d, at_c, at_b, at_a, same_r, same_s, numbers) (sym (
    fold-append raised (raised above k) (scope_numbers r) (scope_numbers s ++ (bound_scopes lo ++ bound_scopes hi))
    ∙ fold-append raised (raised_over (raised above k) (scope_numbers r)) (scope_numbers s) (bound_scopes lo ++ bound_scopes hi)
    ∙ fold-append raised (raised_over (raised_over (raised above k) (scope_numbers r)) (scope_numbers s)) (bound_scopes lo) (bound_scopes hi)))
