use Rattle.std.proofs.Common.{◌≡◌, ◌∙◌, List, [], ◌∷◌, map, Option, ap, rules}
use Rattle.std.specs.Iterator.{AlwaysYields}
use Rattle.std.specs.Cmp.Lexicographic.{slice_cmp}
use Rattle.std.specs.Iterator.Adapters.{copied_source, map_callee, map_source}
use Rattle.std.proofs.lemmas.Iterator.{YieldsList, YieldsList-from_map_by, YieldsList-from_slice}
use Rattle.std.proofs.lemmas.Iterator.Consumers.{YieldsList-at, YieldsList-from_copied}
use Rattle.std.proofs.lemmas.Iterator.Search.{cmp_from_yields_List}
use Rattle.std.proofs.lemmas.List.{map-id}
use Rattle.castor_val.specs.declared.value.Cell.{Cell}
use Rattle.castor_val.specs.declared.value.Value.{Value}
use Rattle.castor_val.specs.Values.{value_cmp, value_of}
use Rattle.castor_val.proofs.CellLaws.{cell_cmp}
use Rattle.castor_val.proofs.row_order.compare_with_cells.Goals as goal

-- what comes, seen by what it stands for
runs_seen : {S A B : Type 0} (steps : S → Option A → S → Type 0) (view : A → B) (s : S) (xs : List A) → AlwaysYields steps (λ x. x) s xs → AlwaysYields steps view s (map view xs)
runs_seen steps view s [] runs = runs
runs_seen steps view s (y ∷ ys) runs = (runs.0, λ x next step. let first = runs.1 x next step in (ap view first.0, runs_seen steps view next ys first.1))

yields_seen : {S A B : Type 0} {steps : S → Option A → S → Type 0} {s : S} {xs : List A} (view : A → B) → YieldsList steps (λ x. x) s xs → YieldsList steps view s (map view xs)
yields_seen {steps} {s} {xs} view yields = record { runs = runs_seen steps view s xs yields.runs }

pub returns : goal.returns
returns c =
    cmp_from_yields_List (λ x y. y ≡ x) _ value_cmp _ c.cmp.ensures.ran
    (YieldsList-from_map_by _ value_of (λ (v : Value). v) (YieldsList-at c.map.ensures.source (YieldsList-from_slice c.args.values.now cc)) c.map.ensures.closure (λ x r q k. search rules))
    (λ it e. yields_seen value_of (YieldsList-from_copied (YieldsList-at (ap copied_source e ∙ c.copied.ensures.source) (YieldsList-from_slice c.args.cells.now cc))))
    cell_cmp
    ∙ (λ i. slice_cmp value_cmp (map-id c.args.values.now i) (map value_of c.args.cells.now))
