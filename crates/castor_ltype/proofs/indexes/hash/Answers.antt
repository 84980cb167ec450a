use Rattle.std.proofs.Common.{◌≡◌, ◌∙◌, ℕ, List, length, map, refl, Result, Ok, Err, IfOk, IsOkAnd}
use Rattle.std.specs.List.{flat_map}
use Rattle.castor_val.specs.declared.memory.Memory.{Memory}
use Rattle.castor_alg.specs.declared.expr.Expr.{Expr}
use Rattle.castor_alg.specs.declared.held.Held.{Held}
use Rattle.castor_code.specs.declared.code.Code.{Code}
use Rattle.castor_code.specs.declared.code.Code as C
use Rattle.castor_code.specs.Shapes.{keyed_of}
use Rattle.castor_ltype.specs.declared.indexes.IndexSizes.{IndexSizes}
use Rattle.castor_ltype.specs.declared.laid.Laid.{Laid}
use Rattle.castor_ltype.specs.Generation.{body_range, count_range, kids}
use Rattle.castor_ltype.specs.Places.{entries}
use Rattle.castor_ltype.specs.Ranges.{least_range}
use Rattle.castor_ltype.specs.Sizes.{added, hash_frame, held_size, key_size, sums}
use Rattle.castor_ltype.proofs.LaidLaws.{hash_coded, hash_sized}
use Rattle.castor_ltype.proofs.indexes.hash.Goals as goal

module _ (hs : List Held) (cs : List Code) (c : Code) (keys under : List ℕ) (k : keys ≡ map (key_size 0 cs) (flat_map entries hs)) (u : under ≡ map (held_size c) (kids (flat_map entries hs))) (by : List Expr) where
  abbrev bodies : List ℕ
  bodies = sums (map (λ h. length (entries h)) hs) (added keys under)

  coded : (made : Result IndexSizes Memory) (laid : Result Laid Memory) → IfOk made (λ m. m.count ≡ count_range hs) → IfOk made (λ m. m.body ≡ least_range bodies)
      → IfOk laid (λ l. IsOkAnd made (λ m. l.code ≡ C.Hash m.count m.body cs c by)) → IfOk laid (λ l. l.code ≡ C.Hash (count_range hs) (body_range cs c hs) cs c by)
  coded (Ok m) (Ok l) count body code = hash_coded hs cs c keys under bodies k u refl m.count m.body by l.code count body code
  coded (Err e) (Ok l) count body code = absurd code
  coded made (Err e) count body code = tt

  sized : (made : Result IndexSizes Memory) (laid : Result Laid Memory) → IfOk made (λ m. m.sizes.items ≡ added (map (λ h. hash_frame m.count m.body (keyed_of h)) hs) bodies)
      → IfOk laid (λ l. IsOkAnd made (λ m. l.code ≡ C.Hash m.count m.body cs c by)) → IfOk laid (λ l. IsOkAnd made (λ m. l.sizes.items ≡ m.sizes.items)) → IfOk laid (λ l. l.sizes.items ≡ map (held_size l.code) hs)
  sized (Ok m) (Ok l) sizes code same = same ∙ hash_sized hs cs c keys under bodies k u refl m.count m.body by l.code _ m.sizes.items refl sizes code
  sized (Err e) (Ok l) sizes code same = absurd code
  sized made (Err e) sizes code same = tt

pub returns-clause-code : goal.returns-clause-code
returns-clause-code c =
    coded _ c.args.key.codes c.args.kid.code _ _ (c.as_slice.ensures.value ∙ c.requires.keys) (c.as_slice-2.ensures.value ∙ c.requires.kids) _ c.hash_sizes-sizes.result _ c.hash_sizes-sizes.ensures.count c.hash_sizes-sizes.ensures.body c.hash_node.ensures.code

pub returns-clause-sizes : goal.returns-clause-sizes
returns-clause-sizes c =
    sized _ c.args.key.codes c.args.kid.code _ _ (c.as_slice.ensures.value ∙ c.requires.keys) (c.as_slice-2.ensures.value ∙ c.requires.kids) _ c.hash_sizes-sizes.result _ c.hash_sizes-sizes.ensures.sizes c.hash_node.ensures.code c.hash_node.ensures.sizes
