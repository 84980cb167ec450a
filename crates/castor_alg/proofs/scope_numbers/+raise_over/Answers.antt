use Rattle.std.proofs.Common.{◌≡◌, ◌∙◌, ℕ, List, ◌∷◌, ◌++◌, ap}
use Rattle.std.specs.List.{flat_map}
use Rattle.std.proofs.lemmas.List.Sums.{fold-append}
use Rattle.castor_alg.specs.FreshScope.{expr_scopes, bound_scopes, raised, raised_over, scope_numbers, scope_numbers_step}
use Rattle.castor_alg.proofs.FreshLaws.{each_numbers, over_dependent, over_hash, over_ordered}
use Rattle.castor_alg.proofs.RelInduction.{fold-Cross, fold-Concat, fold-Select, fold-Filter, fold-Join, fold-DepJoin, fold-List, fold-Hash, fold-Ord}
use Rattle.castor_alg.proofs.scope_numbers.+raise_over.Goals as goal

pub raise_over-returns-in-Cross : goal.raise_over-returns-in-Cross
raise_over-returns-in-Cross t c =
    let numbers : scope_numbers c.args.query.now ≡ flat_map scope_numbers c.in-Cross.rs = ap scope_numbers c.in-Cross.is ∙ fold-Cross (List ℕ) scope_numbers_step c.in-Cross.rs ∙ each_numbers c.in-Cross.rs in
    cc

pub raise_over-returns-in-Concat : goal.raise_over-returns-in-Concat
raise_over-returns-in-Concat t c =
    let numbers : scope_numbers c.args.query.now ≡ flat_map scope_numbers c.in-Concat.rs = ap scope_numbers c.in-Concat.is ∙ fold-Concat (List ℕ) scope_numbers_step c.in-Concat.rs ∙ each_numbers c.in-Concat.rs in
    cc

pub raise_over-returns-in-Select : goal.raise_over-returns-in-Select
raise_over-returns-in-Select t c =
    let numbers : scope_numbers c.args.query.now ≡ flat_map expr_scopes c.in-Select.es ++ scope_numbers c.in-Select.r = ap scope_numbers c.in-Select.is ∙ fold-Select (List ℕ) scope_numbers_step c.in-Select.es c.in-Select.r in
    cc (numbers, fold-append raised c.args.above (flat_map expr_scopes c.in-Select.es) (scope_numbers c.in-Select.r))

pub raise_over-returns-in-Filter : goal.raise_over-returns-in-Filter
raise_over-returns-in-Filter t c =
    let numbers : scope_numbers c.args.query.now ≡ expr_scopes c.in-Filter.e ++ scope_numbers c.in-Filter.r = ap scope_numbers c.in-Filter.is ∙ fold-Filter (List ℕ) scope_numbers_step c.in-Filter.e c.in-Filter.r in
    cc (numbers, fold-append raised c.args.above (expr_scopes c.in-Filter.e) (scope_numbers c.in-Filter.r))

pub raise_over-returns-in-Join : goal.raise_over-returns-in-Join
raise_over-returns-in-Join t c =
    let numbers : scope_numbers c.args.query.now ≡ expr_scopes c.in-Join.e ++ (scope_numbers c.in-Join.r ++ scope_numbers c.in-Join.s) = ap scope_numbers c.in-Join.is ∙ fold-Join (List ℕ) scope_numbers_step c.in-Join.e c.in-Join.r c.in-Join.s in
    cc (numbers, fold-append raised c.args.above (expr_scopes c.in-Join.e) (scope_numbers c.in-Join.r ++ scope_numbers c.in-Join.s), fold-append raised (raised_over c.args.above (expr_scopes c.in-Join.e)) (scope_numbers c.in-Join.r) (scope_numbers c.in-Join.s))

pub raise_over-returns-in-DepJoin : goal.raise_over-returns-in-DepJoin
raise_over-returns-in-DepJoin t c =
    let numbers : scope_numbers c.args.query.now ≡ c.in-DepJoin.scope ∷ (scope_numbers c.in-DepJoin.r ++ scope_numbers c.in-DepJoin.s) = ap scope_numbers c.in-DepJoin.is ∙ fold-DepJoin (List ℕ) scope_numbers_step c.in-DepJoin.scope c.in-DepJoin.r c.in-DepJoin.s in
    over_dependent _ _ _ _ _ _ _ _ _ _ numbers c.get-in-DepJoin.ensures c.get-in-DepJoin-2.ensures c.raise.ensures c.raise_over-in-DepJoin.ensures c.raise_over-in-DepJoin-2.ensures

pub raise_over-returns-in-List : goal.raise_over-returns-in-List
raise_over-returns-in-List t c =
    let numbers : scope_numbers c.args.query.now ≡ c.in-List.scope ∷ (scope_numbers c.in-List.r ++ scope_numbers c.in-List.s) = ap scope_numbers c.in-List.is ∙ fold-List (List ℕ) scope_numbers_step c.in-List.scope c.in-List.r c.in-List.s in
    over_dependent _ _ _ _ _ _ _ _ _ _ numbers c.get-in-List.ensures c.get-in-List-2.ensures c.raise-in-List.ensures c.raise_over-in-List.ensures c.raise_over-in-List-2.ensures

pub raise_over-returns-in-Hash : goal.raise_over-returns-in-Hash
raise_over-returns-in-Hash t c =
    let numbers : scope_numbers c.args.query.now ≡ c.in-Hash.scope ∷ (scope_numbers c.in-Hash.r ++ (scope_numbers c.in-Hash.s ++ flat_map expr_scopes c.in-Hash.es)) = ap scope_numbers c.in-Hash.is ∙ fold-Hash (List ℕ) scope_numbers_step c.in-Hash.scope c.in-Hash.r c.in-Hash.s c.in-Hash.es in
    over_hash _ _ _ _ _ _ _ _ _ _ _ _ _ numbers c.get-in-Hash.ensures c.get-in-Hash-2.ensures c.as_slice-in-Hash.ensures c.raise-in-Hash.ensures c.raise_over-in-Hash.ensures c.raise_over-above.ensures c.raise_over_exprs-in-Hash.ensures

pub raise_over-returns-in-Ord : goal.raise_over-returns-in-Ord
raise_over-returns-in-Ord t c =
    let numbers : scope_numbers c.args.query.now ≡ c.in-Ord.scope ∷ (scope_numbers c.in-Ord.r ++ (scope_numbers c.in-Ord.s ++ (bound_scopes c.in-Ord.lo ++ bound_scopes c.in-Ord.hi))) = ap scope_numbers c.in-Ord.is ∙ fold-Ord (List ℕ) scope_numbers_step c.in-Ord.scope c.in-Ord.r c.in-Ord.s c.in-Ord.lo c.in-Ord.hi in
    over_ordered _ _ _ _ _ _ _ _ _ _ _ _ _ _ numbers c.get-in-Ord.ensures c.get-in-Ord-2.ensures c.raise-in-Ord.ensures c.raise_over-in-Ord.ensures c.raise_over-above-in-Ord.ensures c.raise_over_bound.ensures c.raise_over_bound-in-Ord.ensures
