-- What is held at build rests on the scopes that are known at build alone, and on no parameter.
use Rattle.std.proofs.Common.{◌≡◌, ◌∙◌, List, [], ◌∷◌, map, refl, sym, ap, Ok, Err, OnOk}
use Rattle.castor_val.specs.declared.row.Row.{Row}
use Rattle.castor_val.specs.declared.table.Table.{Table}
use Rattle.castor_alg.specs.declared.phase.Phase.TheVariants.{Build, Run}
use Rattle.castor_alg.specs.declared.rel.Rel.{Rel}
use Rattle.castor_alg.specs.HeldData.{held_under, keyed, keys_of, leaf, listed, parted, within}
use Rattle.castor_alg.specs.Scopes.{Scopes, bind}
use Rattle.castor_alg.specs.Stages.{Phases, Staged, Staging, bind_phase, bound_stage, in_turn, no_phases, stage, stage_step, stage_under}
use Rattle.castor_alg.proofs.RelInduction.{With, relations, rel_induction, fold-Scalar, fold-Cross, fold-Concat, fold-Select, fold-Filter, fold-DepJoin, fold-Group, fold-Order, fold-Dedup, fold-List, fold-Hash, fold-Ord}
use Rattle.castor_stage.specs.Holds.{IsKnownAtBuild}
use Rattle.castor_stage.proofs.HoldingLaws.{holding-Table, holding-Scalar, holding-Cross, holding-Concat, holding-Select, holding-Filter, holding-Join, holding-DepJoin, holding-Group, holding-Order, holding-Dedup, holding-List, holding-Hash, holding-Ord}
use Rattle.castor_stage.proofs.PhaseLaws.{AgreeAt, agree_both, agree_other, expr_rests, here, rel_rests}
use Rattle.castor_stage.proofs.WalkLaws.{both_left, both_right}

-- a relation in run position holds one tree
abbrev RelHeld : Rel → Type 0
RelHeld q = (scopes : Phases) (env other run later : Scopes) (ts : List Table) (p v : Row) → stage_under q Run scopes ≡ Ok tt → AgreeAt Build scopes env other → held_under q ts env run p ≡ held_under q ts other later v

operands_held : (rs : List (With RelHeld)) (scopes : Phases) (env other run later : Scopes) (ts : List Table) (p v : Row) → in_turn (map (λ (r : Staging). r Run scopes) (map stage_under (relations rs))) ≡ Ok tt → AgreeAt Build scopes env other
    → map (λ (r : Rel). held_under r ts env run p) (relations rs) ≡ map (λ (r : Rel). held_under r ts other later v) (relations rs)
operands_held [] scopes env other run later ts p v staged agree = refl
operands_held (r ∷ rs) scopes env other run later ts p v staged agree =
    let first = r.1 scopes env other run later ts p v (both_left _ _ staged) agree in
    let rest = operands_held rs scopes env other run later ts p v (both_right _ _ staged) agree in
    λ i. first i ∷ rest i

rel_held : (q : Rel) → RelHeld q
rel_held = rel_induction RelHeld record {
  table = λ n scopes env other run later ts p v staged agree. holding-Table ts env run p n ∙ sym (holding-Table ts other later v n);
  scalar = λ e scopes env other run later ts p v staged agree.
      let part = sym (ap (here Run scopes) (fold-Scalar Staging stage_step e)) ∙ staged in
      holding-Scalar ts env run p e ∙ ap leaf (expr_rests e Build scopes env other [] p v part agree tt) ∙ sym (holding-Scalar ts other later v e);
  cross = λ rs scopes env other run later ts p v staged agree.
      let parts = sym (ap (here Run scopes) (fold-Cross Staging stage_step (relations rs))) ∙ staged in
      holding-Cross ts env run p (relations rs) ∙ ap parted (operands_held rs scopes env other run later ts p v parts agree) ∙ sym (holding-Cross ts other later v (relations rs));
  concat = λ rs scopes env other run later ts p v staged agree.
      let parts = sym (ap (here Run scopes) (fold-Concat Staging stage_step (relations rs))) ∙ staged in
      holding-Concat ts env run p (relations rs) ∙ ap parted (operands_held rs scopes env other run later ts p v parts agree) ∙ sym (holding-Concat ts other later v (relations rs));
  select = λ es r x scopes env other run later ts p v staged agree.
      let parts = sym (ap (here Run scopes) (fold-Select Staging stage_step es r)) ∙ staged in
      holding-Select ts env run p es r ∙ ap within (x scopes env other run later ts p v (both_right _ _ parts) agree) ∙ sym (holding-Select ts other later v es r);
  filter = λ e r x scopes env other run later ts p v staged agree.
      let parts = sym (ap (here Run scopes) (fold-Filter Staging stage_step e r)) ∙ staged in
      holding-Filter ts env run p e r ∙ ap within (x scopes env other run later ts p v (both_right _ _ parts) agree) ∙ sym (holding-Filter ts other later v e r);
  join = λ e r s x y scopes env other run later ts p v staged agree. holding-Join ts env run p e r s ∙ sym (holding-Join ts other later v e r s);
  depjoin = λ k r s x y scopes env other run later ts p v staged agree.
      let parts = sym (ap (here Run scopes) (fold-DepJoin Staging stage_step k r s)) ∙ staged in
      let first = x scopes env other run later ts p v (both_left _ _ parts) agree in
      let second = y (bind_phase scopes k Run) (bind env k (run k)) (bind other k (later k)) run later ts p v (both_right _ _ parts) (agree_other scopes env other agree k (run k) (later k)) in
      holding-DepJoin ts env run p k r s ∙ (λ i. parted (first i ∷ second i ∷ [])) ∙ sym (holding-DepJoin ts other later v k r s);
  group = λ ks aggs r x scopes env other run later ts p v staged agree.
      let part = sym (ap (here Run scopes) (fold-Group Staging stage_step ks aggs r)) ∙ staged in
      holding-Group ts env run p ks aggs r ∙ ap within (x scopes env other run later ts p v part agree) ∙ sym (holding-Group ts other later v ks aggs r);
  order = λ ks r x scopes env other run later ts p v staged agree.
      let part = sym (ap (here Run scopes) (fold-Order Staging stage_step ks r)) ∙ staged in
      holding-Order ts env run p ks r ∙ ap within (x scopes env other run later ts p v part agree) ∙ sym (holding-Order ts other later v ks r);
  dedup = λ r x scopes env other run later ts p v staged agree.
      let part = sym (ap (here Run scopes) (fold-Dedup Staging stage_step r)) ∙ staged in
      holding-Dedup ts env run p r ∙ ap within (x scopes env other run later ts p v part agree) ∙ sym (holding-Dedup ts other later v r);
  list = λ k r s x y scopes env other run later ts p v staged agree.
      let parts = sym (ap (here Run scopes) (fold-List Staging stage_step k r s)) ∙ staged in
      let source = rel_rests r scopes env other ts p v (both_left _ _ parts) agree in
      let body = λ (a : Row). y (bind_phase scopes k Build) (bind env k a) (bind other k a) run later ts p v (both_right _ _ parts) (agree_both Build scopes env other agree k a) in
      holding-List ts env run p k r s ∙ (λ i. listed (λ a. body a i) (source i)) ∙ sym (holding-List ts other later v k r s);
  hash = λ k r s es x y scopes env other run later ts p v staged agree.
      let parts = sym (ap (here Run scopes) (fold-Hash Staging stage_step k r s es)) ∙ staged in
      let source = rel_rests r scopes env other ts p v (both_left _ _ (both_right _ _ parts)) agree in
      let body = λ (a : Row). y (bind_phase scopes k Build) (bind env k a) (bind other k a) run later ts p v (both_right _ _ (both_right _ _ parts)) (agree_both Build scopes env other agree k a) in
      holding-Hash ts env run p k r s es ∙ (λ i. keyed (λ a. body a i) (keys_of (source i))) ∙ sym (holding-Hash ts other later v k r s es);
  ordered = λ k r s lo hi x y scopes env other run later ts p v staged agree.
      let parts = sym (ap (here Run scopes) (fold-Ord Staging stage_step k r s lo hi)) ∙ staged in
      let source = rel_rests r scopes env other ts p v (both_left _ _ (both_right _ _ (both_right _ _ parts))) agree in
      let behind : stage_under s Run (bind_phase scopes k Build) ≡ Ok tt = both_right (stage_under r Build scopes) _ (both_right (bound_stage hi Run scopes) _ (both_right (bound_stage lo Run scopes) _ parts)) in
      let body = λ (a : Row). y (bind_phase scopes k Build) (bind env k a) (bind other k a) run later ts p v behind (agree_both Build scopes env other agree k a) in
      holding-Ord ts env run p k r s lo hi ∙ (λ i. keyed (λ a. body a i) (keys_of (source i))) ∙ sym (holding-Ord ts other later v k r s lo hi);
}

nothing_bound : (env other : Scopes) → AgreeAt Build no_phases env other
nothing_bound env other k is = cc

-- what is held for a query whose parts all stand in their phase is known at build
pub known_at_build : (q : Rel) → stage q ≡ Ok tt → IsKnownAtBuild q
known_at_build q staged ts env other run later p v = rel_held q no_phases env other run later ts p v staged (nothing_bound env other)

pub known_on_ok : (q : Rel) (r : Staged) → r ≡ stage q → OnOk r (IsKnownAtBuild q)
known_on_ok q (Ok fine) is = known_at_build q (sym is)
known_on_ok q (Err why) is = tt
