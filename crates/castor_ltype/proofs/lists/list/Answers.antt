use Rattle.std.proofs.Common.{◌≡◌, ℕ, List, length, map, refl, Result, Ok, Err, IfOk, IsOkAnd}
use Rattle.std.specs.List.{flat_map}
use Rattle.castor_val.specs.declared.memory.Memory.{Memory}
use Rattle.castor_alg.specs.declared.held.Held.{Held}
use Rattle.castor_code.specs.declared.code.Code as C
use Rattle.castor_code.specs.Shapes.{rows_of}
use Rattle.castor_ltype.specs.declared.laid.Laid.{Laid}
use Rattle.castor_ltype.specs.declared.lists.ListSizes.{ListSizes}
use Rattle.castor_ltype.specs.Generation.{list_code}
use Rattle.castor_ltype.specs.Places.{children}
use Rattle.castor_ltype.specs.Ranges.{least_range}
use Rattle.castor_ltype.specs.Sizes.{IsLaid, added, held_size, list_frame, sums}
use Rattle.castor_ltype.proofs.LaidLaws.{children_laid}
use Rattle.castor_ltype.proofs.lists.list.Goals as goal

module _ (hs : List Held) (kid : Laid) (under : List ℕ) (same : under ≡ kid.sizes.items) (k : kid.sizes.items ≡ map (held_size kid.code) (flat_map children hs)) where
  abbrev counts : List ℕ
  counts = map (λ h. length (children h)) hs

  abbrev bodies : List ℕ
  bodies = sums counts under

  laid_by : (made : Result ListSizes Memory) (laid : Result Laid Memory) → IfOk made (λ m. m.count ≡ least_range counts) → IfOk made (λ m. m.body ≡ least_range bodies)
      → IfOk made (λ m. m.sizes.items ≡ added (map (λ h. list_frame m.count m.body (rows_of h)) hs) bodies)
      → IfOk laid (λ l. IsOkAnd made (λ m. l.code ≡ C.List m.count m.body kid.code)) → IfOk laid (λ l. IsOkAnd made (λ m. l.sizes.items ≡ m.sizes.items)) → IfOk laid (IsLaid (list_code (λ xs. kid.code) hs) hs)
  laid_by (Ok m) (Ok l) count body sizes code have =
      children_laid hs kid counts bodies (map (λ h. list_frame m.count m.body (rows_of h)) hs) m.sizes.items m.count m.body l k refl (λ i. sums counts (same i)) count body refl sizes code have
  laid_by (Err e) (Ok l) count body sizes code have = absurd code
  laid_by made (Err e) count body sizes code have = tt

pub returns : goal.returns
returns c =
    laid_by _ c.args.kid _ c.as_slice.ensures.value c.requires c.list_sizes-sizes.result _ c.list_sizes-sizes.ensures.count c.list_sizes-sizes.ensures.body c.list_sizes-sizes.ensures.sizes c.list_node.ensures.code c.list_node.ensures.sizes
