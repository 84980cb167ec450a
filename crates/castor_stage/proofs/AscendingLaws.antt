-- The keys of each index that is held are distinct and ascend.
use Rattle.std.proofs.Common.{◌≡◌, ◌∙◌, List, [], ◌∷◌, map, Bool, true, false, ◌&&◌, if◌then◌else◌, refl, sym, ap, Result, Ok, Err, IfOk}
use Rattle.std.specs.List.{list_all}
use Rattle.castor_val.specs.declared.row.Row.{Row}
use Rattle.castor_val.specs.declared.table.Table.{Table}
use Rattle.castor_val.specs.declared.value.Value.TheVariants.{Bool as Truth}
use Rattle.castor_val.specs.Values.{has_faults, row_cmp}
use Rattle.castor_val.proofs.OrderLaws.{row_order}
use Rattle.castor_alg.specs.declared.held.Held.{Held}
use Rattle.castor_alg.specs.declared.out.Out.{Out}
use Rattle.castor_alg.specs.declared.rel.Rel.{Rel}
use Rattle.castor_alg.specs.Expression.{Answer, expr_value}
use Rattle.castor_alg.specs.Meaning.{meaning}
use Rattle.castor_alg.specs.Scopes.{Scopes, bind, unbound}
use Rattle.castor_alg.proofs.RelInduction.{With, relations, rel_induction}
use Rattle.castor_alg.specs.declared.held_out.HeldOut.{HeldOut}
use Rattle.castor_stage.specs.declared.hold_error.HoldError.{HoldError}
use Rattle.castor_alg.specs.HeldData.{entry, held_under, keyed, keys_of, leaf, tree_or_faults}
use Rattle.castor_alg.specs.HeldKeys.{HasAscendingKeys, has_ascending_keys}
use Rattle.castor_stage.specs.Holds.{IsHold}
use Rattle.castor_stage.proofs.HoldingLaws.{holding-Table, holding-Scalar, holding-Cross, holding-Concat, holding-Select, holding-Filter, holding-Join, holding-DepJoin, holding-Group, holding-Order, holding-Dedup, holding-List, holding-Hash, holding-Ord}
use Rattle.castor_stage.proofs.KeyLaws.{strict_keys}
use Rattle.castor_stage.proofs.ShapeLaws.{ascends-Inner, ascends-Leaf, ascends-Parts, ascends-Rows, each_ascends, entries_ascend}

abbrev ascends : HeldOut → Bool
ascends out = has_ascending_keys out.held

abbrev Ascends : Rel → Type 0
Ascends q = (ts : List Table) (env run : Scopes) (p : Row) → ascends (held_under q ts env run p) ≡ true

leaf_ascends : (answer : Answer) → ascends (leaf answer) ≡ true
leaf_ascends (Ok v) = ascends-Leaf v
leaf_ascends (Err f) = ascends-Leaf (Truth false)

operands_ascend : (rs : List (With Ascends)) (ts : List Table) (env run : Scopes) (p : Row)
    → list_all (λ (k : Bool). k) (map has_ascending_keys (map (λ (part : HeldOut). part.held) (map (λ (r : Rel). held_under r ts env run p) (relations rs)))) ≡ true
operands_ascend [] ts env run p = refl
operands_ascend (r ∷ rs) ts env run p = (λ i. r.1 ts env run p i && operands_ascend rs ts env run p i)

index_ascends : (body : Row → HeldOut) → ((a : Row) → ascends (body a) ≡ true) → (r : Out) → ascends (keyed body (keys_of r)) ≡ true
index_ascends body good r = entries_ascend (entry body) (λ a. refl) good (keys_of r).rows (strict_keys row_cmp row_order.total r.rows)

rel_ascends : (q : Rel) → Ascends q
rel_ascends = rel_induction Ascends record {
  table = λ n ts env run p. ap ascends (holding-Table ts env run p n) ∙ ascends-Parts [];
  scalar = λ e ts env run p. ap ascends (holding-Scalar ts env run p e) ∙ leaf_ascends (expr_value e [] env p);
  cross = λ rs ts env run p. ap ascends (holding-Cross ts env run p (relations rs)) ∙ ascends-Parts _ ∙ operands_ascend rs ts env run p;
  concat = λ rs ts env run p. ap ascends (holding-Concat ts env run p (relations rs)) ∙ ascends-Parts _ ∙ operands_ascend rs ts env run p;
  select = λ es r x ts env run p. ap ascends (holding-Select ts env run p es r) ∙ ascends-Inner _ ∙ x ts env run p;
  filter = λ e r x ts env run p. ap ascends (holding-Filter ts env run p e r) ∙ ascends-Inner _ ∙ x ts env run p;
  join = λ e r s x y ts env run p. ap ascends (holding-Join ts env run p e r s) ∙ ascends-Parts [];
  depjoin = λ k r s x y ts env run p. ap ascends (holding-DepJoin ts env run p k r s) ∙ ascends-Parts _ ∙ (λ i. x ts env run p i && (y ts (bind env k (run k)) run p i && true));
  group = λ ks aggs r x ts env run p. ap ascends (holding-Group ts env run p ks aggs r) ∙ ascends-Inner _ ∙ x ts env run p;
  order = λ ks r x ts env run p. ap ascends (holding-Order ts env run p ks r) ∙ ascends-Inner _ ∙ x ts env run p;
  dedup = λ r x ts env run p. ap ascends (holding-Dedup ts env run p r) ∙ ascends-Inner _ ∙ x ts env run p;
  list = λ k r s x y ts env run p. ap ascends (holding-List ts env run p k r s) ∙ ascends-Rows _ ∙ each_ascends (λ (a : Row). (held_under s ts (bind env k a) run p).held) (meaning r ts env p).rows (λ a. y ts (bind env k a) run p);
  hash = λ k r s es x y ts env run p. ap ascends (holding-Hash ts env run p k r s es) ∙ index_ascends (λ (a : Row). held_under s ts (bind env k a) run p) (λ a. y ts (bind env k a) run p) (meaning r ts env p);
  ordered = λ k r s lo hi x y ts env run p. ap ascends (holding-Ord ts env run p k r s lo hi) ∙ index_ascends (λ (a : Row). held_under s ts (bind env k a) run p) (λ a. y ts (bind env k a) run p) (meaning r ts env p);
}

tree_ascends : (out : HeldOut) (t : Bool) (held : Held) → (if t then Err out.faults else Ok out.held) ≡ Ok held → ascends out ≡ true → has_ascending_keys held ≡ true
tree_ascends out true held is good = cc
tree_ascends out false held is good = let same : out.held ≡ held = cc in ap has_ascending_keys (sym same) ∙ good

-- what is held for a query
pub hold_ascends : (q : Rel) (ts : List Table) (out : HeldOut) (result : Result Held HoldError) → out ≡ held_under q ts unbound unbound [] → IsHold (tree_or_faults out) result → IfOk result HasAscendingKeys
hold_ascends q ts out (Ok held) is tree = tree_ascends out (has_faults out.faults) held tree (ap ascends is ∙ rel_ascends q ts unbound unbound [])
hold_ascends q ts out (Err e) is tree = tt
