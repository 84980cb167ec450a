use Rattle.std.proofs.Common.{◌≡◌, ◌∙◌, ap, rules}
use Rattle.std.specs.Cmp.Lexicographic.{slice_cmp}
use Rattle.std.specs.Iterator.Adapters.{map_callee, map_source}
use Rattle.std.proofs.lemmas.Iterator.{YieldsList-from_map_by, YieldsList-from_slice}
use Rattle.std.proofs.lemmas.Iterator.Consumers.{YieldsList-at}
use Rattle.std.proofs.lemmas.Iterator.Search.{cmp_from_yields_List}
use Rattle.std.proofs.lemmas.List.{map-id}
use Rattle.castor_val.specs.declared.value.Value.{Value}
use Rattle.castor_val.specs.Values.{value_cmp, value_of}
use Rattle.castor_val.proofs.CellLaws.{cell_cmp}
use Rattle.castor_val.proofs.row_order.compare_values.Goals as goal

pub returns : goal.returns
returns c =
    cmp_from_yields_List (λ x y. y ≡ x) _ value_cmp _ c.cmp.ensures.ran
    (YieldsList-from_map_by _ value_of (λ (v : Value). v) (YieldsList-at c.map.ensures.source (YieldsList-from_slice c.args.a.now cc)) c.map.ensures.closure (λ x r q k. search rules))
    (λ it e. YieldsList-from_map_by _ value_of (λ (v : Value). v) (YieldsList-at (ap map_source e ∙ c.map-2.ensures.source) (YieldsList-from_slice c.args.b.now cc)) (ap map_callee e ∙ c.map-2.ensures.closure) (λ x r q k. search rules))
    cell_cmp
    ∙ (λ i. slice_cmp value_cmp (map-id c.args.a.now i) (map-id c.args.b.now i))
